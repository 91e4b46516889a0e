use Rattle.std.proofs.Common.{ℕ, List, [], ◌∙◌}
use Rattle.verilog_sim.proofs.Pushing.{repeated_more}
use Rattle.verilog_sim.proofs.order.unread.Goals as goal

pub loop-node-preserved : goal.loop-node-preserved
loop-node-preserved c =
    repeated_more c.loop-node._node [] c.own.result c.loop-node.graph.items c.push.new.self.items c.loop-node.invariant
    c.in_ok-push.ensures.items (c.own.ensures ∙ c.new.ensures)
