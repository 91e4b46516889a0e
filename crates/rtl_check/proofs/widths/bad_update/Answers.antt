use Rattle.std.proofs.Common.{arith}
use Rattle.rtl_ir.specs.Typed.{IsUpdateTyped}
use Rattle.rtl_check.proofs.Places.{more_hold, all_hold}
use Rattle.rtl_check.proofs.widths.bad_update.Goals as goal

pub loop-place-preserved : goal.loop-place-preserved
loop-place-preserved c =
    let m = c.args.module.now in let u = c.at-update.result.now in
    more_hold (IsUpdateTyped m) m.updates c.loop-place.place u c.at-update.ensures (c.is_update_typed.ensures.0 c.if-not-is_update_typed.false) c.loop-place.invariant

pub returns-clause-none : goal.returns-clause-none
returns-clause-none c =
    let m = c.args.module.now in
    all_hold (IsUpdateTyped m) m.updates c.loop-place.place (omega arith) c.loop-place.invariant
