use Rattle.std.proofs.Common.{take}
use Rattle.project_netlists.specs.Scheduled.{AreBestSchedules}
use Rattle.project_netlists.proofs.schedules.schedules.Given as goal

abbrev pub invariant-loop-number : goal.invariant-loop-number
invariant-loop-number l = AreBestSchedules l.table (take l.number l.kernels) l.all
