use Rattle.std.proofs.Common.{ℕ, ◌<◌}
use Rattle.kernel_report.specs.Judging.{IsTimely}
use Rattle.kernel_report.proofs.judging.first_untimely.Given as goal

abbrev pub invariant-loop-node : goal.invariant-loop-node
invariant-loop-node l = (u : ℕ) → u < l.node → IsTimely l.part u
