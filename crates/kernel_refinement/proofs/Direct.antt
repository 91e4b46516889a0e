-- Over the edges of a causal kernel no node reads itself without latency and delay.
use Rattle.std.proofs.Common.{◌≡◌, ℕ, List, [], ◌∷◌, ap, arith}
use Rattle.std.specs.Prelude.{ℤ, pos, ◌+ℤ◌, ◌-ℤ◌, ◌<ℤ◌}
use Rattle.std.proofs.lemmas.Int.{ints}
use Rattle.cycle_find.specs.Constraints.{Numbers}
use Rattle.offset_edges.specs.declared.edge.Edge.{Edge}
use Rattle.offset_edges.specs.Edges.{edge_at}
use Rattle.offset_edges.specs.Walks.{start_of, end_of, IsWalk, offsets_of, IsCausal}
use Rattle.kernel_refinement.specs.Direct.{AreDirect, NoDirectLoop}

-- the times at the ends of an edge differ by its offset
ends : (from to offset : ℤ) (latency : ℕ) → ((to -ℤ from) -ℤ pos latency) -ℤ offset ≡ pos 0 → latency ≡ 0 → to ≡ from +ℤ offset
ends from to offset latency e z = omega (arith, ints)

sums : (a b w k rest : ℤ) → b ≡ a +ℤ k → w ≡ b +ℤ rest → w ≡ a +ℤ (k +ℤ rest)
sums a b w k rest e f = omega (arith, ints)

-- and those at the ends of a walk by its offsets
module _ (edges : List Edge) (ticks : ℕ → ℕ) (times : Numbers) where
  along : (js : List ℕ) (v w : ℕ) → IsWalk edges v js w → AreDirect ticks times edges js → times w ≡ times v +ℤ offsets_of edges js
  along [] v w walk d =
      let same : times v ≡ times w = ap times walk in
      omega (arith, ints, same)
  along (j ∷ js) v w walk d =
      let start : times (start_of edges j) ≡ times v = ap times walk.1 in
      let first : times (end_of edges j) ≡ times (start_of edges j) +ℤ (edge_at edges j).offset =
      ends (times (start_of edges j)) (times (end_of edges j)) (edge_at edges j).offset (ticks (start_of edges j)) d.0.delay d.0.latency in
      let from : times (end_of edges j) ≡ times v +ℤ (edge_at edges j).offset = omega (arith, ints, first, start) in
      sums (times v) (times (end_of edges j)) (times w) (edge_at edges j).offset (offsets_of edges js) from (along js (end_of edges j) w walk.2 d.1)

  pub no_direct_loop : IsCausal edges → NoDirectLoop ticks times edges
  no_direct_loop causal = λ v j js walk d.
      let back : offsets_of edges (j ∷ js) <ℤ pos 0 = causal v j js walk in
      let same : times v ≡ times v +ℤ offsets_of edges (j ∷ js) = along (j ∷ js) v v walk d in
      omega (arith, ints, back, same)
