-- The handles of the numbers so far.
use Rattle.std.proofs.Common.{◌≡◌, take, map}
use Rattle.kernel_eval.proofs.sending.handles.Given as goal

abbrev pub invariant-loop-n : goal.invariant-loop-n
invariant-loop-n g l = map g.V.Numbered.number l.handles.items ≡ take l.n-index l.numbers
