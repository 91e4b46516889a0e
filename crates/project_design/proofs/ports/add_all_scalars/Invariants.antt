use Rattle.std.proofs.Common.{◌≡◌, drop}
use Rattle.std.specs.List.{flat_map}
use Rattle.rtl_ir.specs.Ports.{scalar_ports}
use Rattle.project_rtl.specs.Shapes.{scalar_shapes}
use Rattle.project_design.specs.Building.{with_ports}
use Rattle.project_design.proofs.ports.add_all_scalars.Given as goal

abbrev pub invariant-loop-kernel : goal.invariant-loop-kernel
invariant-loop-kernel l =
    with_ports l.netlist (scalar_ports (flat_map scalar_shapes (drop l.kernel-index l.kernels)))
    ≡ with_ports l.initial.netlist (scalar_ports (flat_map scalar_shapes l.kernels))
