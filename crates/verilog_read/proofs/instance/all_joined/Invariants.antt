use Rattle.std.proofs.Common.{◌≡◌, map, take, Some}
use Rattle.verilog_read.proofs.instance.all_joined.Given as goal

abbrev pub invariant-loop-place : goal.invariant-loop-place
invariant-loop-place l = take l.place l.nets ≡ map (λ n. Some n) l.all
