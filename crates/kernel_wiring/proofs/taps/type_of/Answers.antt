use Rattle.std.proofs.Common.{refl, ap}
use Rattle.stream_graph.specs.declared.node.NodeView.{NodeView}
use Rattle.stream_graph.proofs.Reading.{view_read}
use Rattle.kernel_wiring.proofs.taps.type_of.Goals as goal

pub returns : goal.returns
returns c = ap (λ (v : NodeView). v.t) (view_read c.args.kernel.now.nodes c.args.id c.args.id c.node.result refl c.node.ensures)
