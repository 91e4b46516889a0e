use Rattle.std.proofs.Common.{length, refl}
use Rattle.std.proofs.lemmas.Option.{slice_get_read}
use Rattle.verilog_sim.specs.Origins.{update_at}
use Rattle.verilog_sim.proofs.Pushing.{mapped_more}
use Rattle.verilog_sim.proofs.origin.updates_at.Goals as goal

pub update_at-requires : goal.update_at-requires
update_at-requires c =
    let i = c.loop-update.update-index in
    c.requires i c.update-item.result (slice_get_read c.args.updates.now (length c.args.updates.now) i c.update-item.result refl c.loop-update-test.true c.update-item.is)

pub loop-update-preserved : goal.loop-update-preserved
loop-update-preserved c =
    mapped_more (update_at c.args.origins.now) c.args.updates.now c.loop-update.update-index c.update-item.result
    c.loop-update.direct.items c.push.new.self.items c.update_at.result c.loop-update-test.true c.update-item.is
    c.loop-update.invariant c.in_ok-push.ensures.items c.update_at.ensures
