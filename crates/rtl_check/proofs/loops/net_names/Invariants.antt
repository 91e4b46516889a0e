use Rattle.std.proofs.Common.{◌≡◌, map, take}
use Rattle.rtl_ir.specs.Formed.{name_of}
use Rattle.rtl_check.proofs.loops.net_names.Given as goal

abbrev pub invariant-loop-place : goal.invariant-loop-place
invariant-loop-place l = l.names ≡ map (name_of l.module) (take l.place l.nets)
