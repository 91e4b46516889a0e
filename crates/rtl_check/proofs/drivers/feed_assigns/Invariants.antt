use Rattle.rtl_ir.specs.declared.design.Design.{Design}
use Rattle.rtl_check.specs.Fed.{IsSeen, AreFed}
use Rattle.rtl_check.proofs.drivers.feed_assigns.Given as goal

abbrev pub invariant-loop-assign : goal.invariant-loop-assign
invariant-loop-assign l = (d : Design) → AreFed d l.module (IsSeen 0 0 0 0) l.initial.marks → AreFed d l.module (IsSeen l.assign-index 0 0 0) l.marks
