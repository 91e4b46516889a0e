-- The best answer of the kernel's problem is its schedule.
use Rattle.std.proofs.Common.{◌≡◌, ◌+◌, ◌*◌, ◌^◌, length, sym, subst, ap, arith}
use Rattle.cycle_find.specs.Constraints.{numbers_of}
use Rattle.std.proofs.lemmas.Int.{ints}
use Rattle.schedule_problem.specs.declared.problem.Problem.{Problem}
use Rattle.offset_edges.specs.Edges.{edges_of}
use Rattle.offset_edges.specs.Latencies.{AreLatencies, ticks_of}
use Rattle.kernel_schedule.proofs.Beginning.{begins}
use Rattle.kernel_schedule.proofs.Least.{schedulable, least_legal, bits_are}
use Rattle.kernel_schedule.proofs.schedule.best_schedule.Goals as goal

pub returns-in-Ok-best-clause-schedulable : goal.returns-in-Ok-best-clause-schedulable
returns-in-Ok-best-clause-schedulable c =
    schedulable c.args.table.now c.args.kernel.now.nodes c.in-Ok-edges.problem c.in-Ok-edges.ensures.problem
    c.solutions_are_schedules.ensures (numbers_of c.in-Ok-best.answer.times) c.in-Ok-best.ensures.best.legal
    c.in-Ok-edges.ensures.timed c.in-Ok-edges.ensures.causal

pub returns-in-Ok-best-clause-least : goal.returns-in-Ok-best-clause-least
returns-in-Ok-best-clause-least c =
    let x = numbers_of c.in-Ok-best.answer.times in
    let best = c.in-Ok-best.ensures.best in
    let cheapest = c.in-Ok-best.ensures.cheapest in
    record {
      latencies =
          subst (λ ticks. AreLatencies c.args.table.now c.args.kernel.now.nodes (length c.args.kernel.now.nodes) ticks)
          (sym c.from_vec-latencies.ensures) c.in-Ok.ensures.ok;
      problem = c.in-Ok-edges.ensures.problem;
      best = best;
      small = c.in-Ok-best.ensures.small;
      earliest = c.in-Ok-best.ensures.earliest;
      times =
          least_legal c.args.table.now c.args.kernel.now.nodes c.in-Ok-edges.problem c.in-Ok-edges.ensures.problem
          c.solutions_are_schedules.ensures c.schedules_are_solutions.ensures x best.legal cheapest;
      bits =
          bits_are c.args.table.now c.args.kernel.now.nodes c.in-Ok-edges.problem c.in-Ok-edges.ensures.problem
          c.solutions_are_schedules.ensures c.schedules_are_solutions.ensures x best.legal cheapest;
    }

pub returns-in-Ok-best-clause-arcs : goal.returns-in-Ok-best-clause-arcs
returns-in-Ok-best-clause-arcs c = c.in-Ok-edges.ensures.solvable.arcs

pub returns-in-Ok-best-clause-most : goal.returns-in-Ok-best-clause-most
returns-in-Ok-best-clause-most c v =
    let few = c.args.kernel.now.few in
    let problem = c.in-Ok-edges.problem in
    let nodes : problem.arcs.nodes ≡ 2 * length c.args.kernel.now.nodes =
    ap (λ (p : Problem). p.arcs.nodes) c.in-Ok-edges.ensures.problem in
    let within = c.in-Ok-best.ensures.within (2 ^ 32 + 64) c.in-Ok-edges.ensures.small v in
    omega (arith, ints, few, nodes, within)

pub returns-in-Ok-best-clause-begins : goal.returns-in-Ok-best-clause-begins
returns-in-Ok-best-clause-begins c =
    let nodes = c.args.kernel.now.nodes in
    let best = c.in-Ok-best.ensures in
    begins (length nodes) (ticks_of c.args.table.now nodes) (edges_of nodes) c.in-Ok-edges.problem
    (ap (λ (p : Problem). p.arcs.list) c.in-Ok-edges.ensures.problem) c.in-Ok-edges.ensures.solvable
    (numbers_of c.in-Ok-best.answer.times) best.best.legal best.cheapest best.earliest
