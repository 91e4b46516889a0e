use Rattle.std.proofs.Common.{ℕ}
use Rattle.rtl_check.specs.Fed.{IsSeen, AreFed}
use Rattle.rtl_check.proofs.drivers.feed_instances.Given as goal

abbrev pub invariant-loop-place : goal.invariant-loop-place
invariant-loop-place l =
    (a : ℕ) → AreFed l.design l.module (IsSeen a 0 0 0) l.initial.marks → AreFed l.design l.module (IsSeen a l.place 0 0) l.marks
