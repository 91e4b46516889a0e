use Rattle.verilog_sim.specs.Relocation.{relocated_update}
use Rattle.verilog_sim.proofs.Pushing.{pushed_more}
use Rattle.verilog_sim.proofs.inlining.add_updates.Goals as goal

pub loop-update-preserved : goal.loop-update-preserved
loop-update-preserved c =
    pushed_more (relocated_update c.args.first.net c.args.first.mem) c.args.more.now c.loop-update.update-index c.update-item.result
    c.args.updates.now.items c.loop-update.updates.items c.push.new.self.items c.relocated_update.result c.loop-update-test.true c.update-item.is
    c.loop-update.invariant c.in_ok-push.ensures.items c.relocated_update.ensures
