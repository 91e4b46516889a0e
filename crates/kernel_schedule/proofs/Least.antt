-- The best answer of a kernel's problem is a schedule of fewest bits.
use Rattle.std.proofs.Common.{◌≡◌, ℤ, List, ap, sym, subst, arith}
use Rattle.std.specs.Prelude.{◌≤ℤ◌}
use Rattle.std.proofs.lemmas.Int.{ints}
use Rattle.cycle_find.specs.Constraints.{Numbers, Solves}
use Rattle.schedule_problem.specs.declared.problem.Problem.{Problem}
use Rattle.schedule_problem.specs.Flow.{cost_of}
use Rattle.schedule_problem.specs.Optimum.{IsCheapest}
use Rattle.stream_graph.specs.declared.node.Node.{Node}
use Rattle.latency_table.specs.declared.table.Table.{Table}
use Rattle.offset_edges.specs.Edges.{edges_of}
use Rattle.offset_edges.specs.Latencies.{ticks_of, AllTimed}
use Rattle.offset_edges.specs.Problems.{problem_of}
use Rattle.offset_edges.specs.Schedules.{
  IsLegal,
  fifo_bits,
  SolutionsAreSchedules,
  SchedulesAreSolutions,
}
use Rattle.offset_edges.specs.Walks.{IsCausal}
use Rattle.offset_edges.proofs.CoveredLemmas.{covered_by}
use Rattle.kernel_schedule.specs.Schedules.{IsSchedulable, IsLeastLegal}

module _ (table : Table) (nodes : List Node) (p : Problem) (is : p ≡ problem_of table nodes)
    (sols : SolutionsAreSchedules table nodes) where
  abbrev bits : Numbers → ℤ
  bits s = fifo_bits (ticks_of table nodes) nodes (edges_of nodes) s

  solution : (x : Numbers) → Solves x p.arcs.list → Solves x (problem_of table nodes).arcs.list
  solution x h = subst (λ q. Solves x q.arcs.list) is h

  cost_is : (x : Numbers) → cost_of (problem_of table nodes) x ≡ cost_of p x
  cost_is x = ap (λ q. cost_of q x) (sym is)

  -- a kernel whose problem is solved
  pub schedulable : (x : Numbers) → Solves x p.arcs.list → AllTimed table nodes
      → IsCausal (edges_of nodes)
      → IsSchedulable table nodes
  schedulable x h timed causal = record {
    timed = timed;
    covered = covered_by (ticks_of table nodes) (edges_of nodes) x (sols x (solution x h)).0 causal;
  }

  module _ (schedules : SchedulesAreSolutions table nodes) (x : Numbers) (solves : Solves x
      p.arcs.list)
      (cheapest : IsCheapest p x) where
    -- the times cost no more than a schedule's bits
    below : (s : Numbers) → IsLegal (ticks_of table nodes) (edges_of nodes) s
        → cost_of p x ≤ℤ bits s
    below s legal =
        let y = schedules s legal in
        let h = cheapest y.0 (subst (λ q. Solves y.0 q.arcs.list) (sym is) y.1) in
        let c = cost_is y.0 in
        let e = y.3 in
        omega (arith, ints, h, c, e)

    own : bits x ≤ℤ cost_of p x
    own = let h = (sols x (solution x solves)).1 in let c = cost_is x in omega (arith, ints, h, c)

    legal_times : IsLegal (ticks_of table nodes) (edges_of nodes) x
    legal_times = (sols x (solution x solves)).0

    pub least_legal : IsLeastLegal table nodes x
    least_legal = record {
      legal = legal_times;
      least = λ s legal. let b = below s legal in let o = own in omega (arith, ints, b, o);
    }

    pub bits_are : bits x ≡ cost_of p x
    bits_are = let b = below x legal_times in let o = own in omega (arith, ints, b, o)
