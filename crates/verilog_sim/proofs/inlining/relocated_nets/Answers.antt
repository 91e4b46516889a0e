use Rattle.std.proofs.Common.{◌+◌}
use Rattle.verilog_sim.proofs.Pushing.{mapped_more}
use Rattle.verilog_sim.proofs.inlining.relocated_nets.Goals as goal

pub loop-net-preserved : goal.loop-net-preserved
loop-net-preserved c =
    mapped_more (λ n. c.args.first_net + n) c.args.nets.now c.loop-net.net-index c.net-item.result c.loop-net.moved.items
    c.push.new.self.items c.relocated_net.result c.loop-net-test.true c.net-item.is c.loop-net.invariant c.in_ok-push.ensures.items
    c.relocated_net.ensures
