use Rattle.std.proofs.Common.{arith, ◌<◌, ◌^◌}
use Rattle.stream_graph.specs.Graphs.{nodes_in}
use Rattle.stream_graph.proofs.Taking.{may_add_read, added_read}
use Rattle.stream_graph.proofs.graph.Graph.nodes.Goals as goal

pub add-requires-clause-may : goal.add-requires-clause-may
add-requires-clause-may c =
    let few : nodes_in c.args.self.now.rows.items.items < 2 ^ 32 = (let e = c.args.self.now.counted in omega arith)
    in
    may_add_read c.args.self.now.bytes.items.items c.args.self.now.operands.items.items
    c.args.self.now.rows.items.items c.as_slice-row-items.result.now c.loop-row.row-index c.row-item.result
    c.loop-row.nodes.items
    c.as_slice-row-items.ensures c.loop-row-test.true c.row-item.is c.requires.lawful few c.loop-row.invariant

pub loop-row-preserved : goal.loop-row-preserved
loop-row-preserved c =
    added_read c.args.self.now.bytes.items.items c.args.self.now.operands.items.items
    c.args.self.now.rows.items.items c.as_slice-row-items.result.now c.loop-row.row-index c.row-item.result
    c.loop-row.nodes.items c.add.new.nodes.items
    c.as_slice-row-items.ensures c.loop-row-test.true c.row-item.is c.requires.lawful c.loop-row.invariant
    c.in_ok-add.ensures
