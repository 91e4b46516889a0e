use Rattle.std.proofs.Common.{None, refl}
use Rattle.verilog_sim.proofs.Pushing.{repeated_more}
use Rattle.verilog_sim.proofs.order.undriven.Goals as goal

pub loop-net-preserved : goal.loop-net-preserved
loop-net-preserved c =
    repeated_more c.loop-net._net None None c.loop-net.drivers.items c.push.new.self.items c.loop-net.invariant
    c.in_ok-push.ensures.items refl
