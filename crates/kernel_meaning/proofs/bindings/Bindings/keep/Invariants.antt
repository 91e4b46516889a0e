-- What is to be left is left.
use Rattle.std.proofs.Common.{◌≡◌, ◌-◌, length, drop}
use Rattle.kernel_meaning.proofs.bindings.Bindings.keep.Given as goal

abbrev pub invariant-loop-self : goal.invariant-loop-self
invariant-loop-self l =
    drop (length l.self - l.count) l.self ≡ drop (length l.initial.self - l.count) l.initial.self

abbrev pub decreases-loop-self : goal.decreases-loop-self
decreases-loop-self l = length l.self
