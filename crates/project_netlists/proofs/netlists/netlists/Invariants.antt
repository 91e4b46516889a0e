use Rattle.std.proofs.Common.{take}
use Rattle.project_netlists.specs.Netlists.{AreKernelNetlists}
use Rattle.project_netlists.specs.Scheduled.{all_times}
use Rattle.project_netlists.proofs.netlists.netlists.Given as goal

abbrev pub invariant-loop-number : goal.invariant-loop-number
invariant-loop-number l =
    AreKernelNetlists l.table (take l.number l.kernels) (all_times l.schedules) l.parts l.inners
