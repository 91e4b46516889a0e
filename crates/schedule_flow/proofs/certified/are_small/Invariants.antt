use Rattle.std.proofs.Common.{ℕ, ◌<◌, ◌^◌}
use Rattle.schedule_problem.specs.Flow.{flow_of}
use Rattle.schedule_flow.proofs.certified.are_small.Given as goal

abbrev pub invariant-loop-j : goal.invariant-loop-j
invariant-loop-j l = (k : ℕ) → k < l.j → flow_of l.flow k < 2 ^ 63
