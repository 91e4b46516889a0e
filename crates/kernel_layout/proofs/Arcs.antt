-- The delays of a problem's arcs, and the advances after which words are read.
use Rattle.std.proofs.Common.{arith, ◌≡◌, ◌∙◌, ◌<◌, ◌+◌, ◌*◌, ℕ, zero, suc, List, [], ◌∷◌, length, get_or, refl, sym, ap}
use Rattle.std.specs.Prelude.{pos, ◌+ℤ◌, ◌-ℤ◌}
use Rattle.std.proofs.lemmas.Int.{ints}
use Rattle.cycle_find.specs.declared.arcs.Arc.{Arc}
use Rattle.cycle_find.specs.Constraints.{Numbers, arc_at, need_of}
use Rattle.schedule_problem.specs.declared.problem.Problem.{Problem}
use Rattle.stream_graph.specs.declared.node.Node.{Node}
use Rattle.offset_edges.specs.declared.edge.Edge.{Edge}
use Rattle.offset_edges.specs.Edges.{edges_of, edge_at}
use Rattle.offset_edges.specs.Problems.{arcs_over, problem_over}
use Rattle.fifo_sharing.specs.Chains.{producer_of, consumer_of, delay_of, IsDelayOf}
use Rattle.kernel_layout.specs.Reads.{behind_of}
use Rattle.kernel_layout.specs.Waits.{IsReadBehind}

-- the arc from an edge's producer to its consumer
abbrev arc_over : (ℕ → ℕ) → Edge → Arc
arc_over ticks e = record { from = e.from; to = e.to; need = pos (ticks e.from) +ℤ e.offset }

abbrev no_arc : Arc
no_arc = record { from = 0; to = 0; need = pos 0 }

arcs_length : (n : ℕ) (ticks : ℕ → ℕ) (edges : List Edge) → length (arcs_over n ticks edges) ≡ 2 * length edges
arcs_length n ticks [] = refl
arcs_length n ticks (e ∷ edges) = let r = arcs_length n ticks edges in omega (arith, r)

arc_is : (n : ℕ) (ticks : ℕ → ℕ) (edges : List Edge) (j : ℕ) → j < length edges → get_or (arcs_over n ticks edges) (2 * j) no_arc ≡ arc_over ticks (edge_at edges j)
arc_is n ticks [] j h = absurd (omega arith)
arc_is n ticks (e ∷ edges) zero h = refl
arc_is n ticks (e ∷ edges) (suc j) h =
    let two : 2 * suc j ≡ suc (suc (2 * j)) = omega arith in
    ap (λ k. get_or (arcs_over n ticks (e ∷ edges)) k no_arc) two ∙ arc_is n ticks edges j (omega (arith, h))

module _ (nodes : List Node) (ticks : ℕ → ℕ) (s : Numbers) where
  abbrev pub problem : Problem
  problem = problem_over ticks nodes (edges_of nodes)

  arc_of : (j : ℕ) → j < length (edges_of nodes) → arc_at problem.arcs.list (2 * j) ≡ arc_over ticks (edge_at (edges_of nodes) j)
  arc_of j h = arc_is (length nodes) ticks (edges_of nodes) j h

  pub within : (j : ℕ) → 2 * j < length problem.arcs.list → j < length (edges_of nodes)
  within j h = let l = arcs_length (length nodes) ticks (edges_of nodes) in omega (arith, h, l)

  pub without : (j : ℕ) → j < length (edges_of nodes) → 2 * j < length problem.arcs.list
  without j h = let l = arcs_length (length nodes) ticks (edges_of nodes) in omega (arith, h, l)

  pub producer_is : (j : ℕ) → j < length (edges_of nodes) → producer_of problem j ≡ (edge_at (edges_of nodes) j).from
  producer_is j h = ap (λ (a : Arc). a.from) (arc_of j h)

  -- a delay is the advances after which the word is read, less its latency
  pub delay_is : (j : ℕ) → j < length (edges_of nodes)
      → delay_of problem s j ≡ behind_of s (edge_at (edges_of nodes) j) -ℤ pos (ticks (edge_at (edges_of nodes) j).from)
  delay_is j h =
      let e = edge_at (edges_of nodes) j in
      let a = arc_of j h in
      let from : producer_of problem j ≡ e.from = ap (λ (a : Arc). a.from) a in
      let to : consumer_of problem j ≡ e.to = ap (λ (a : Arc). a.to) a in
      let need : need_of problem.arcs.list (2 * j) ≡ (pos (ticks e.from) +ℤ e.offset) = ap (λ (a : Arc). a.need) a in
      let x : s (consumer_of problem j) ≡ s e.to = ap s to in
      let y : s (producer_of problem j) ≡ s e.from = ap s from in
      omega (arith, ints, x, y, need)

  -- a delay of a node's edges: they read its word so late
  pub read_behind : (u d : ℕ) → IsDelayOf problem s u d → IsReadBehind nodes s u (ticks u + d)
  read_behind u d h =
      let j = h.0 in
      let l = within j h.1 in
      let e = edge_at (edges_of nodes) j in
      let from : e.from ≡ u = sym (producer_is j l) ∙ h.2 in
      let t : ticks e.from ≡ ticks u = ap ticks from in
      let is = delay_is j l in
      let d' = h.3 in
      (j, l, from, omega (arith, ints, is, d', t))

  pub delay_from : (u d : ℕ) → IsReadBehind nodes s u (ticks u + d) → 0 < d → IsDelayOf problem s u d
  delay_from u d h some =
      let j = h.0 in
      let l = h.1 in
      let e = edge_at (edges_of nodes) j in
      let t : ticks e.from ≡ ticks u = ap ticks h.2 in
      let is = delay_is j l in
      let b = h.3 in
      (j, without j l, producer_is j l ∙ h.2, omega (arith, ints, is, b, t), some)
