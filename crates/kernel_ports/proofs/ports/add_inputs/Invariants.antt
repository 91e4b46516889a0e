use Rattle.std.proofs.Common.{◌≡◌, ◌++◌, length, map, drop}
use Rattle.rtl_ir.specs.Ports.{host_input_ports}
use Rattle.kernel_control.specs.Ports.{port_shape}
use Rattle.kernel_ports.specs.Added.{streams_at}
use Rattle.kernel_ports.proofs.Adding.{AreLeft}
use Rattle.kernel_ports.proofs.ports.add_inputs.Given as goal

-- the ports of the nodes that are left are still to be added, and so are their signals
abbrev pub invariant-loop-node : goal.invariant-loop-node
invariant-loop-node l = record {
  left : AreLeft l.fn.netlist l.netlist (host_input_ports (map (port_shape l.kernel.nodes) (drop l.node-index l.nodes)))
      (host_input_ports (map (port_shape l.kernel.nodes) l.nodes));
  signals :
      l.made ++ streams_at l.kernel.nodes (length l.netlist.nets) (drop l.node-index l.nodes)
      ≡ streams_at l.kernel.nodes (length l.fn.netlist.nets) l.nodes;
}
