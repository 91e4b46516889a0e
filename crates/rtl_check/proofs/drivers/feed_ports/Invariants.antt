use Rattle.std.proofs.Common.{◌≡◌, ℕ, Some}
use Rattle.std.specs.Prelude.{slice_get}
use Rattle.rtl_ir.specs.declared.design.Design.{Design}
use Rattle.rtl_check.specs.Fed.{IsSeen, AreFed}
use Rattle.rtl_check.proofs.drivers.feed_ports.Given as goal

abbrev pub invariant-loop-place : goal.invariant-loop-place
invariant-loop-place l =
    (d : Design) (a k : ℕ)
    → slice_get l.module.instances k ≡ Some l.instance
    → slice_get d.modules l.instance.module ≡ Some l.inner
    → AreFed d l.module (IsSeen a k 0 0) l.initial.marks
    → AreFed d l.module (IsSeen a k l.place 0) l.marks
