use Rattle.std.proofs.Common.{◌≡◌, arith}
use Rattle.verilog_sim.proofs.Pushing.{own_more}
use Rattle.verilog_sim.proofs.origin.own_origins.Goals as goal

pub loop-net-preserved : goal.loop-net-preserved
loop-net-preserved c =
    let same : c.new.result ≡ c.loop-net.net = omega (arith, c.new.ensures, c.loop-net-test.true, c.requires) in
    own_more c.loop-net.net c.loop-net.origins.items c.push.new.self.items c.new.result c.loop-net.invariant.0
    c.loop-net.invariant.1 c.in_ok-push.ensures.items same
