use Rattle.std.proofs.Common.{◌≡◌, ℕ, ◌<◌, ◌-ℤ◌}
use Rattle.cycle_find.specs.Constraints.{numbers_of, start_of, end_of, need_of}
use Rattle.schedule_problem.specs.Flow.{flow_of}
use Rattle.schedule_flow.proofs.certified.is_tight.Given as goal

abbrev pub invariant-loop-j : goal.invariant-loop-j
invariant-loop-j l = (k : ℕ) → k < l.j → 0 < flow_of l.flow k
    → (numbers_of l.x (end_of l.problem.arcs.list k) -ℤ numbers_of l.x (start_of l.problem.arcs.list k))
    ≡ need_of l.problem.arcs.list k
