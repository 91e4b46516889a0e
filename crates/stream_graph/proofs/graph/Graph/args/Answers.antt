use Rattle.std.proofs.Common.{arith, length}
use Rattle.stream_graph.proofs.Rows.{all_within, grown}
use Rattle.stream_graph.proofs.graph.Graph.args.Goals as goal

pub invariant_of-self-clause-within : goal.invariant_of-self-clause-within
invariant_of-self-clause-within c = all_within (length c.args.self.now.bytes.items.items)
    (length c.args.self.now.bytes.items.items) (length c.args.self.now.operands.items.items)
    (length c.put_all.new.self.items.items) c.args.self.now.rows.items.items (omega arith)
    (grown c.args.self.now.operands.items.items c.args.args.now c.put_all.new.self.items.items
    c.put_all.ensures.items) c.args.self.now.within
