use Rattle.std.proofs.Common.{ap, sym, arith, subst, length}
use Rattle.stream_graph.specs.Graphs.{AreWithin, nodes_in}
use Rattle.stream_graph.proofs.Rows.{and_one, nodes_more}
use Rattle.stream_graph.proofs.graph.Graph.node.Goals as goal

pub invariant_of-self : goal.invariant_of-self
invariant_of-self c =
    let more = nodes_more c.args.self.now.rows.items.items c.args.row in
    let before = c.args.self.now.counted in
    let makes = c.requires.makes in
    let rows = ap nodes_in c.put.ensures.items in
    record {
      counted = omega arith;
      within = subst (λ rows. AreWithin (length c.args.self.now.bytes.items.items)
          (length c.args.self.now.operands.items.items) rows) (sym c.put.ensures.items)
          (and_one (length c.args.self.now.bytes.items.items) (length c.args.self.now.operands.items.items)
          c.args.self.now.rows.items.items c.args.row c.args.self.now.within c.requires.within);
    }
