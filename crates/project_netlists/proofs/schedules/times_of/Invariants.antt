use Rattle.std.proofs.Common.{◌≡◌}
use Rattle.project_netlists.specs.Scheduled.{all_times}
use Rattle.project_netlists.proofs.schedules.times_of.Given as goal

abbrev pub invariant-loop-schedule : goal.invariant-loop-schedule
invariant-loop-schedule l = l.times ≡ all_times l.yielded
