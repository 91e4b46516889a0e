use Rattle.verilog_sim.specs.Relocation.{relocated_assign}
use Rattle.verilog_sim.proofs.Pushing.{pushed_more}
use Rattle.verilog_sim.proofs.inlining.add_assigns.Goals as goal

pub loop-assign-preserved : goal.loop-assign-preserved
loop-assign-preserved c =
    pushed_more (relocated_assign c.args.first.net c.args.first.mem) c.args.more.now c.loop-assign.assign-index c.assign-item.result
    c.args.assigns.now.items c.loop-assign.assigns.items c.push.new.self.items c.relocated_assign.result c.loop-assign-test.true c.assign-item.is
    c.loop-assign.invariant c.in_ok-push.ensures.items c.relocated_assign.ensures
