use Rattle.std.proofs.Common.{refl}
use Rattle.verilog_sim.specs.Levels.{assign_of}
use Rattle.verilog_sim.proofs.Pushing.{mapped_more}
use Rattle.verilog_sim.proofs.level.assigns_of.Goals as goal

pub loop-item-preserved : goal.loop-item-preserved
loop-item-preserved c =
    mapped_more assign_of c.args.ranked.now c.loop-item.item-index c.item-item.result c.loop-item.assigns.items c.push.new.self.items
    c.item-item.result.assign c.loop-item-test.true c.item-item.is c.loop-item.invariant c.in_ok-push.ensures.items refl
