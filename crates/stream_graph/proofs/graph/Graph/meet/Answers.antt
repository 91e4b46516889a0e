use Rattle.stream_graph.proofs.Meeting.{meets_input, meets_output, meets_scalar}
use Rattle.stream_graph.proofs.graph.Graph.meet.Goals as goal

pub returns-in-Input : goal.returns-in-Input
returns-in-Input c =
    meets_input c.args.self.now.bytes.items.items c.args.self.now.operands.items.items c.args.row c.in-Input.name
    c.in-Input.field-1 c.in-Input.field-2 c.name_at.result.now c.args.names.now c.meet.new.self c.meet.result
    c.in-Input.is c.name_at.ensures c.meet.ensures.fresh c.meet.ensures.met

pub returns-in-Output : goal.returns-in-Output
returns-in-Output c =
    meets_output c.args.self.now.bytes.items.items c.args.self.now.operands.items.items c.args.row c.in-Output.name
    c.in-Output.field-1 c.in-Output.field-2 c.in-Output.field-3 c.name_at-in-Output.result.now c.args.names.now
    c.meet-in-Output.new.self c.meet-in-Output.result
    c.in-Output.is c.name_at-in-Output.ensures c.meet-in-Output.ensures.fresh c.meet-in-Output.ensures.met

pub returns-in-Scalar : goal.returns-in-Scalar
returns-in-Scalar c =
    meets_scalar c.args.self.now.bytes.items.items c.args.self.now.operands.items.items c.args.row c.in-Scalar.name
    c.in-Scalar.field-1 c.name_at-in-Scalar.result.now c.args.names.now c.meet-in-Scalar.new.self
    c.meet-in-Scalar.result
    c.in-Scalar.is c.name_at-in-Scalar.ensures c.meet-in-Scalar.ensures.fresh c.meet-in-Scalar.ensures.met
