use Rattle.std.proofs.Common.{◌≡◌, ◌+◌, ◌-◌, ◌++◌}
use Rattle.project_rtl.specs.Tops.{range}
use Rattle.project_design.proofs.instances.add_range.Given as goal

abbrev pub invariant-loop-place : goal.invariant-loop-place
invariant-loop-place l = l.nets ++ range (l.from + l.place) (l.count - l.place) ≡ l.initial.nets ++ range l.from l.count
