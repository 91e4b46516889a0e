-- The times of a kernel's problem that keep no word longer than it is read.
use Rattle.std.proofs.Common.{◌≡◌, ℕ, ◌+◌, ◌<◌, List, length, sym, ap, ◌∙◌, arith}
use Rattle.std.specs.Prelude.{pos, ◌-ℤ◌, ◌≤ℤ◌, unwrap_or}
use Rattle.std.proofs.lemmas.Int.{ints}
use Rattle.cycle_find.specs.declared.arcs.Arc.{Arc}
use Rattle.cycle_find.specs.Constraints.{Numbers, Solves}
use Rattle.stream_graph.specs.declared.node.Node.{Node}
use Rattle.offset_edges.specs.declared.edge.Edge.{Edge}
use Rattle.offset_edges.specs.Edges.{edge_at, edges_of, IsSmall}
use Rattle.offset_edges.specs.Problems.{arcs_over}
use Rattle.offset_edges.proofs.ScheduleLemmas.{holds_from, solves_from}
use Rattle.kernel_schedule.proofs.Beginning.{arcs_have}
use Rattle.kernel_schedule.proofs.Lowering.{IsLower}
use Rattle.kernel_report.specs.Times.{whole_times}
use Rattle.kernel_report.proofs.Kept.{whole_own, whole_kept, has_last, last_most}

-- where x are times of the problem, and s those of the part
module _ (ticks : ℕ → ℕ) (nodes : List Node) (x s : Numbers)
    (small : (j : ℕ) → j < length (edges_of nodes)
    → IsSmall (length nodes) (edge_at (edges_of nodes) j))
    (same : (v : ℕ) → v < length nodes → x v ≡ s v)
    (legal : Solves x (arcs_over (length nodes) ticks (edges_of nodes))) where
  -- how many nodes the kernel has, and its edges
  abbrev n : ℕ
  n = length nodes

  abbrev edges : List Edge
  edges = edges_of nodes

  -- the times of the problem from those of the part
  abbrev whole : Numbers
  whole = whole_times nodes s

  -- a node has the same time
  whole_same : (v : ℕ) → v < n → whole v ≡ x v
  whole_same v h = whole_own nodes s v h ∙ sym (same v h)

  -- the words of node u are kept until an edge reads them, and no longer than x says
  record IsKept (edge : Edge) (u : ℕ) : Type 0 where
    long : (s edge.to -ℤ edge.offset) ≤ℤ whole (n + u)
    short : whole (n + u) ≤ℤ x (n + u)

  is_kept : (j : ℕ) → j < length edges → IsKept (edge_at edges j) (edge_at edges j).from
  is_kept j h =
      let u : ℕ = (edge_at edges j).from in
      let a = has_last s edges j h in
      let least = a.above in
      let kept : whole (n + u) ≡ a.last =
      whole_kept nodes s u ∙ ap (λ o. unwrap_or o (s u)) a.is in
      let most = last_most s edges u (x (n + u)) a.last
      (λ i l e.
      let back = (holds_from n ticks x edges legal i l).back in
      let there = ap (λ v. x (n + v)) e in
      let to = same (edge_at edges i).to (small i l).to in
      omega (arith, ints, back, there, to)) a.is in
      record { long = omega (arith, ints, kept, least); short = omega (arith, ints, kept, most) }

  -- the times solve the problem
  pub whole_solves : Solves whole (arcs_over n ticks edges)
  whole_solves =
      solves_from n ticks whole edges
      (λ j h.
      let q = small j h in
      let from = whole_same (edge_at edges j).from q.from in
      let to = whole_same (edge_at edges j).to q.to in
      let own = same (edge_at edges j).to q.to in
      let there = (holds_from n ticks x edges legal j h).there in
      let long = (is_kept j h).long in
      record {
        there = omega (arith, ints, from, to, there);
        back = omega (arith, ints, to, own, long);
      })

  -- and are nowhere above x where arcs end
  pub whole_lower : IsLower (arcs_over n ticks edges) (pos 0) x whole
  whole_lower =
      let P : Arc → Type 0 = λ a.
      ((x a.from -ℤ pos 0) ≤ℤ whole a.from) × (whole a.to ≤ℤ (x a.to -ℤ pos 0)) in
      let all = arcs_have P n ticks edges
      (λ j h.
      let q = small j h in
      let from = whole_same (edge_at edges j).from q.from in
      let to = whole_same (edge_at edges j).to q.to in
      let short = (is_kept j h).short in
      record {
        there = (omega (arith, ints, from), omega (arith, ints, to));
        back = (omega (arith, ints, to), omega (arith, ints, short));
      }) in
      record { starts = λ j h. (all j h).0; ends = λ j h. (all j h).1 }
