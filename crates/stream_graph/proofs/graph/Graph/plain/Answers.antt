use Rattle.std.proofs.Common.{◌∙◌}
use Rattle.stream_graph.proofs.Constants.{constant_node}
use Rattle.stream_graph.proofs.graph.Graph.plain.Goals as goal

pub returns-in-Constant : goal.returns-in-Constant
returns-in-Constant c =
    constant_node c.args.self.now.bytes.items.items c.args.self.now.operands.items.items c.in-Constant.bits
    c.in-Constant.t c.args.row c.bare-in-Constant.result c.new-word.result
    c.in-Constant.is c.new-word.ensures.bits (c.new-word.ensures.width ∙ c.width.ensures)
    c.bare-in-Constant.ensures.view c.bare-in-Constant.ensures.operands c.bare-in-Constant.ensures.name
    c.bare-in-Constant.ensures.digits
