use Rattle.std.proofs.Common.{ℕ, length, refl, sym, subst, arith}
use Rattle.std.proofs.lemmas.Option.{slice_get_read, slice_get_within}
use Rattle.verilog_sim.specs.Feeding.{AreNetsBelow}
use Rattle.verilog_sim.proofs.Marking.{one_update_marked}
use Rattle.verilog_sim.proofs.order.mark_updates.Goals as goal

pub mark_update-requires : goal.mark_update-requires
mark_update-requires c =
    let i = c.loop-update.update-index in
    let at = slice_get_read c.args.updates.now (length c.args.updates.now) i c.update-item.result refl c.loop-update-test.true c.update-item.is in
    subst (λ (n : ℕ). AreNetsBelow n c.update-item.result) (sym c.loop-update.invariant.0) (c.requires i c.update-item.result at)

pub loop-update-preserved : goal.loop-update-preserved
loop-update-preserved c =
    let i = c.loop-update.update-index in
    let at = slice_get_read c.args.updates.now (length c.args.updates.now) i c.update-item.result refl c.loop-update-test.true c.update-item.is in (
      omega (arith, c.mark_update.auto.marks, c.loop-update.invariant.0),
      λ n h. c.mark_update.ensures.kept n (c.loop-update.invariant.1 n h),
      one_update_marked c.args.updates.now c.loop-update.marks c.mark_update.new.marks i c.update-item.result at c.mark_update.ensures.kept c.mark_update.ensures.nets c.loop-update.invariant.2,
    )

pub returns-clause-updates : goal.returns-clause-updates
returns-clause-updates c = λ i u at.
    let lt = slice_get_within c.args.updates.now i u at in
    let past = c.loop-update-test.false in
    c.loop-update.invariant.2 i u (omega (arith, lt, past)) at
