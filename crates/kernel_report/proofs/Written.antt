-- The part that is written of a least schedule is shown.
use Rattle.std.proofs.Common.{◌≡◌, ℕ, ◌<◌, ◌^◌, List, length, sym, ap, ◌∙◌, subst, arith, inl, inr}
use Rattle.std.specs.Prelude.{pos, ◌≤ℤ◌}
use Rattle.std.proofs.lemmas.Int.{ints}
use Rattle.std.proofs.lemmas.List.{get_or-take}
use Rattle.cycle_find.specs.declared.arcs.Arc.{Arc}
use Rattle.cycle_find.specs.Constraints.{Numbers, Solves, numbers_of}
use Rattle.schedule_problem.specs.declared.problem.Problem.{Problem}
use Rattle.schedule_problem.specs.Flow.{flow_of, cost_of, value_of, IsFlow}
use Rattle.schedule_problem.specs.Optimum.{IsProblem}
use Rattle.schedule_problem.proofs.Duality.{best_cheapest}
use Rattle.stream_graph.specs.declared.kernel.Kernel.{Kernel}
use Rattle.latency_table.specs.declared.table.Table.{Table}
use Rattle.offset_edges.specs.declared.edge.Edge.{Edge}
use Rattle.offset_edges.specs.Edges.{edge_at, edges_of, IsSmall}
use Rattle.offset_edges.specs.Latencies.{ticks_of}
use Rattle.offset_edges.specs.Problems.{arcs_over}
use Rattle.stream_graph.proofs.NodeLemmas.{orderly}
use Rattle.offset_edges.proofs.EdgeLemmas.{edges_small}
use Rattle.offset_edges.proofs.LatencyLemmas.{ticks_read}
use Rattle.offset_edges.proofs.ProblemFacts.{problem_solvable}
use Rattle.kernel_schedule.specs.declared.schedule.Schedule.{Schedule}
use Rattle.kernel_schedule.specs.Beginning.{HasEdge, BeginsAtZero}
use Rattle.kernel_schedule.specs.Schedules.{IsLeast}
use Rattle.kernel_schedule.proofs.Lowering.{IsLower, costs_no_more}
use Rattle.schedule_report.specs.declared.report.ReportKernel.{ReportKernel}
use Rattle.kernel_report.specs.Judging.{IsShown, times_in, cost_in}
use Rattle.kernel_report.specs.Parts.{IsPartOf}
use Rattle.kernel_report.proofs.Part.{few_edges}
use Rattle.kernel_report.proofs.Whole.{whole_solves, whole_lower}

module _ (table : Table) (kernel : Kernel) (schedule : Schedule)
    (least : IsLeast table kernel.nodes schedule) where
  -- the latencies of the kernel's nodes, its edges, and their arcs
  abbrev ticks : ℕ → ℕ
  ticks = ticks_of table kernel.nodes

  abbrev edges : List Edge
  edges = edges_of kernel.nodes

  abbrev arcs : List Arc
  arcs = arcs_over (length kernel.nodes) ticks edges

  -- they are those of the schedule's problem
  list : schedule.problem.arcs.list ≡ arcs
  list = ap (λ (p : Problem). p.arcs.list) least.problem

  -- the edges lead from nodes to nodes
  small : (j : ℕ) → j < length edges → IsSmall (length kernel.nodes) (edge_at edges j)
  small = edges_small kernel.nodes (orderly kernel.nodes kernel.made) kernel.few

  -- the schedule's problem can be solved
  solvable : IsProblem schedule.problem
  solvable =
      subst IsProblem (sym least.problem)
      (problem_solvable ticks kernel.nodes edges kernel.few (few_edges table kernel schedule least)
      (λ n.
      let e = ticks_read table kernel.nodes schedule.latencies least.latencies n in
      let m = least.latencies.at_most n in
      omega arith)
      small)

  module _ (part : ReportKernel) (is : IsPartOf kernel schedule part) where
    -- the times of the schedule, those of the part, and those for all nodes of the problem
    abbrev x : Numbers
    x = numbers_of schedule.answer.times

    abbrev s : Numbers
    s = numbers_of part.times

    abbrev whole : Numbers
    whole = times_in kernel part

    -- a node has the same time
    same : (v : ℕ) → v < length kernel.nodes → x v ≡ s v
    same v h =
        sym (ap (λ times. numbers_of times v) is.times
        ∙ get_or-take (length kernel.nodes) schedule.answer.times v (pos 0) h)

    -- the times are legal
    legal : Solves x arcs
    legal = subst (λ list. Solves x list) list least.best.legal

    solves : Solves whole arcs
    solves = whole_solves ticks kernel.nodes x s small same legal

    -- and cost what those of the schedule do
    cost_same : cost_of schedule.problem whole ≡ cost_of schedule.problem x
    cost_same =
        let lower = whole_lower ticks kernel.nodes x s small same legal in
        let most = costs_no_more schedule.problem solvable (pos 0) x whole
        (subst (λ list. IsLower list (pos 0) x whole) (sym list) lower) in
        let cheapest = best_cheapest schedule.problem solvable.arcs.ends solvable.ends
        schedule.answer least.best whole (subst (λ list. Solves whole list) (sym list) solves) in
        omega (arith, ints, most, cheapest)

    cost_is : cost_in table kernel part ≡ cost_of schedule.problem x
    cost_is = sym (ap (λ p. cost_of p whole) least.problem) ∙ cost_same

    -- so the part is shown
    pub part_shown : ((v : ℕ) → x v ≤ℤ pos (2 ^ 46)) → IsShown table kernel part
    part_shown most = record {
      of = record {
        head = record {
          named = is.named;
          nodes = is.nodes;
          edges = is.edges;
          bits = is.bits ∙ sym cost_is;
        };
        timely = λ v h. (
          subst (λ z. pos 0 ≤ℤ z) (same v h) (least.earliest.non_negative v),
          subst (λ z. z ≤ℤ pos (2 ^ 46)) (same v h) (most v),
        );
      };
      legal = solves;
      flow =
          subst (λ p. IsFlow p (flow_of part.flow)) least.problem
          (subst (λ f. IsFlow schedule.problem (flow_of f)) (sym is.flow) least.best.flow);
      equal =
          cost_is ∙ least.best.equal ∙ ap (λ f. value_of schedule.problem (flow_of f)) (sym is.flow)
          ∙ ap (λ p. value_of p (flow_of part.flow)) least.problem;
    }

    -- its times are those of the schedule
    pub part_times : (v : ℕ) → v < length kernel.nodes → s v ≡ x v
    part_times v h = sym (same v h)

    -- and begin at 0 as those do
    has_node : (v : ℕ) → HasEdge edges v → v < length kernel.nodes
    has_node v (j, few, inl from) = subst (λ u. u < length kernel.nodes) from (small j few).from
    has_node v (j, few, inr to) = subst (λ u. u < length kernel.nodes) to (small j few).to

    pub part_begins : BeginsAtZero edges (length kernel.nodes) x
        → BeginsAtZero edges (length kernel.nodes) s
    part_begins begins = record {
      apart = λ v h none. part_times v h ∙ begins.apart v h none;
      least =
          λ v has.
          let first = begins.least v has in
          (first.0, first.1, part_times first.0 (has_node first.0 first.1) ∙ first.2);
    }
