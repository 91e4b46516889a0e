use Rattle.std.proofs.Common.{◌≡◌, ◌++◌, drop}
use Rattle.project_rtl.specs.Tops.{stream_widths}
use Rattle.project_design.proofs.wires.add_streams.Given as goal

abbrev pub invariant-loop-node : goal.invariant-loop-node
invariant-loop-node l =
    l.widths.items ++ stream_widths l.kernel.nodes (drop l.node-index l.nodes) ≡ l.initial.widths.items ++ stream_widths l.kernel.nodes l.nodes
