-- The problem of a kernel, and the walk that shows that it has none, from what was read of it.
use Rattle.std.proofs.Common.{
  ◌≡◌,
  ◌∙◌,
  ap,
  sym,
  subst,
  arith,
  map,
  length,
  List,
  ℕ,
  get_or,
  ◌+◌,
  ◌≤◌,
  ◌^◌,
}
use Rattle.std.specs.Prelude.{pos, ◌+ℤ◌, ◌<ℤ◌}
use Rattle.std.proofs.lemmas.Int.{ints, clamps}
use mathlib.Core.Path.{fun_ext}
use Rattle.cycle_find.specs.Constraints.{NeedsWithin, IsPositiveCycle}
use Rattle.schedule_problem.specs.declared.problem.Problem.{Problem}
use Rattle.schedule_problem.specs.Optimum.{IsProblem}
use Rattle.stream_graph.specs.declared.node.Node.{Node}
use Rattle.stream_graph.specs.Kernels.{AreKernel}
use Rattle.latency_table.specs.declared.table.Table.{Table}
use Rattle.offset_edges.specs.declared.edge.Edge.{Edge}
use Rattle.offset_edges.specs.declared.walk.ClosedWalk.{ClosedWalk}
use Rattle.offset_edges.specs.Edges.{edges_of}
use Rattle.offset_edges.specs.Latencies.{ticks_of, AreLatencies}
use Rattle.offset_edges.specs.Refused.{IsUncovered}
use Rattle.offset_edges.specs.Walks.{offsets_of, latencies_of, IsShown}
use Rattle.offset_edges.specs.Problems.{problem_over, problem_of, edge_under}
use Rattle.offset_edges.proofs.CoveredLemmas.{IsShortRound, short_round}
use Rattle.stream_graph.proofs.NodeLemmas.{orderly}
use Rattle.offset_edges.proofs.EdgeLemmas.{edges_small, edges_few}
use Rattle.offset_edges.proofs.LatencyLemmas.{ticks_read}
use Rattle.offset_edges.proofs.ShownLemmas.{shown_same}
use Rattle.offset_edges.proofs.ProblemFacts.{problem_small, problem_few, problem_solvable}

module _ (table : Table) (nodes : List Node) (ticks : List ℕ) (t : AreLatencies table nodes (length
    nodes) ticks) where
  same_ticks : (read : List ℕ) → read ≡ ticks → (n : ℕ) → get_or read n 0 ≡ ticks_of table nodes n
  same_ticks read e n = ap (λ xs. get_or xs n 0) e ∙ ticks_read table nodes ticks t n

  pub shown : (read : List ℕ) (edges : List Edge) (walk : ClosedWalk) → read ≡ ticks
      → edges ≡ edges_of nodes →
      IsShown (λ n. get_or read n 0) edges walk → IsShown (ticks_of table nodes) (edges_of nodes)
      walk
  shown read edges walk e q h =
      shown_same (λ n. get_or read n 0) (ticks_of table nodes) (edges_of nodes) walk (same_ticks
      read e)
      (subst (λ es. IsShown (λ n. get_or read n 0) es walk) q h)

  pub problem : (read : List ℕ) (edges : List Edge) (p : Problem) → read ≡ ticks
      → edges ≡ edges_of nodes →
      p ≡ problem_over (λ n. get_or read n 0) nodes edges → p ≡ problem_of table nodes
  problem read edges p e q h =
      let s = same_ticks read e in
      let same : problem_over (λ n. get_or read n 0) nodes (edges_of nodes) ≡ problem_of table nodes
      =
      λ i. problem_over (λ n. s n i) nodes (edges_of nodes) in
      h ∙ ap (problem_over (λ n. get_or read n 0) nodes) q ∙ same

  -- what a walk looks back and waits for
  pub uncovered : (read : List ℕ) (edges : List Edge) (walk : ClosedWalk) (round : List ℕ)
      → read ≡ ticks
      → edges ≡ edges_of nodes → IsShown (λ n. get_or read n 0) edges walk
      → walk.offset ≡ offsets_of edges round
      → walk.latency ≡ latencies_of (λ n. get_or read n 0) edges round
      → pos 0 <ℤ (pos (latencies_of (ticks_of table nodes) (edges_of nodes) round) +ℤ offsets_of
      (edges_of nodes) round)
      → IsUncovered table nodes walk
  uncovered read edges walk round e q h offset latency positive =
      let f : (λ n. get_or read n 0) ≡ ticks_of table nodes = fun_ext (same_ticks read e) in
      let o : walk.offset ≡ offsets_of (edges_of nodes) round = offset
      ∙ ap (λ es. offsets_of es round) q in
      let l : walk.latency ≡ latencies_of (ticks_of table nodes) (edges_of nodes) round =
      latency ∙ ap (λ es. latencies_of (λ n. get_or read n 0) es round) q
      ∙ ap (λ t. latencies_of t (edges_of nodes) round) f in
      record {
        shown = shown read edges walk e q h;
        uncovered = omega (arith, ints, clamps, o, l, positive);
      }

  few_ticks : (n : ℕ) → ticks_of table nodes n ≤ 64
  few_ticks n =
      let e = ticks_read table nodes ticks t n in
      let m = t.at_most n in
      omega arith

  module _ (made : ∥ AreKernel nodes ∥₁) (few : length nodes ≤ 4096) where
    pub solvable : IsProblem (problem_of table nodes)
    solvable =
        problem_solvable (ticks_of table nodes) nodes (edges_of nodes) few (edges_few nodes (orderly
        nodes made) few) few_ticks
        (edges_small nodes (orderly nodes made) few)

    -- the walk under one that nothing solves
    pub short : (arcs round : List ℕ) → IsPositiveCycle (problem_of table nodes).arcs.list arcs
        → round ≡ map edge_under arcs
        → IsShortRound (length nodes) (ticks_of table nodes) (edges_of nodes) round
    short arcs round p e =
        subst (λ js. IsShortRound (length nodes) (ticks_of table nodes) (edges_of nodes) js) (sym e)
        (short_round (length nodes) (ticks_of table nodes) (edges_of nodes)
        (edges_small nodes (orderly nodes made) few) arcs p)

    pub few_arcs : length (problem_of table nodes).arcs.list ≤ 2 ^ 20
    few_arcs = problem_few (ticks_of table nodes) nodes (edges_of nodes) (edges_few nodes (orderly
        nodes made) few)

    pub small : NeedsWithin (2 ^ 32 + 64) (problem_of table nodes).arcs.list
    small = problem_small (ticks_of table nodes) nodes (edges_of nodes) few_ticks (edges_small nodes
        (orderly nodes made) few)
