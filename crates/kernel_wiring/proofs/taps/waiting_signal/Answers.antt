use Rattle.std.proofs.Common.{◌∙◌, arith, sym}
use Rattle.std.proofs.lemmas.List.{get_or_default}
use Rattle.kernel_wiring.proofs.Stages.{late_first, none_more}
use Rattle.kernel_wiring.proofs.taps.waiting_signal.Goals as goal

pub returns-then-waits-place : goal.returns-then-waits-place
returns-then-waits-place c =
    sym (late_first c.args.waits.now c.args.signals.now c.args.wait c.loop-place.place c.loop-place-test.true c.requires.same
    c.if-waits-place.true c.loop-place.invariant.none)

pub loop-place-preserved : goal.loop-place-preserved
loop-place-preserved c = record { none = none_more c.args.waits.now c.args.wait c.loop-place.place c.loop-place.invariant.none c.if-waits-place.false }

pub unreachable-requires : goal.unreachable-requires
unreachable-requires c =
    let k = c.requires.kept in
    let within = k.1 in
    let past = c.loop-place-test.false in
    c.loop-place.invariant.none k.0 (omega (arith, within, past)) (get_or_default c.args.waits.now k.0 0 c.args.wait within ∙ k.2)
