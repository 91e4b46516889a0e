use Rattle.std.proofs.Common.{◌≡◌, map, drop}
use Rattle.rtl_ir.specs.Ports.{host_output_ports}
use Rattle.project_rtl.specs.Shapes.{host_shape}
use Rattle.project_design.specs.Building.{with_ports}
use Rattle.project_design.proofs.ports.add_outputs.Given as goal

abbrev pub invariant-loop-host : goal.invariant-loop-host
invariant-loop-host l =
    with_ports l.netlist (host_output_ports (map host_shape (drop l.host-index l.hosts)))
    ≡ with_ports l.initial.netlist (host_output_ports (map host_shape l.hosts))
