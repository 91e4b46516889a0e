use Rattle.std.proofs.Common.{ℕ}
use Rattle.rtl_ir.specs.declared.design.Design.{Design}
use Rattle.rtl_check.specs.Fed.{IsSeen, AreFed, AreWritten}
use Rattle.rtl_check.proofs.drivers.feed_updates.Given as goal

abbrev pub invariant-loop-place : goal.invariant-loop-place
invariant-loop-place l = record {
  nets : (d : Design) (a k : ℕ) → AreFed d l.module (IsSeen a k 0 0) l.initial.nets → AreFed d l.module (IsSeen a k 0 l.place) l.nets;
  mems : AreWritten l.module 0 l.initial.mems → AreWritten l.module l.place l.mems;
}
