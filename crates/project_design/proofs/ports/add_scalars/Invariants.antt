use Rattle.std.proofs.Common.{◌≡◌, map, drop}
use Rattle.rtl_ir.specs.Ports.{scalar_ports}
use Rattle.project_rtl.specs.Shapes.{scalar_shape}
use Rattle.project_design.specs.Building.{with_ports}
use Rattle.project_design.proofs.ports.add_scalars.Given as goal

abbrev pub invariant-loop-scalar : goal.invariant-loop-scalar
invariant-loop-scalar l =
    with_ports l.netlist (scalar_ports (map (scalar_shape l.kernel) (drop l.scalar-index l.scalars))) ≡ with_ports l.initial.netlist (scalar_ports (map (scalar_shape l.kernel) l.scalars))
