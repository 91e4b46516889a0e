use Rattle.std.proofs.Common.{take}
use Rattle.std.specs.Prelude.{All}
use Rattle.kernel_report.specs.Judging.{ShownAreLeast}
use Rattle.project_check.proofs.checking.all_shown_are_least.Given as goal

abbrev pub invariant-loop-kernel : goal.invariant-loop-kernel
invariant-loop-kernel l = All (ShownAreLeast l.table) (take l.kernel-index l.kernels)
