use Rattle.std.proofs.Common.{◌≡◌, drop}
use Rattle.rtl_ir.specs.Ports.{kernel_ports}
use Rattle.manager_links.specs.Rules.{kernel_names}
use Rattle.project_design.specs.Building.{with_ports}
use Rattle.project_design.proofs.ports.add_kernels.Given as goal

abbrev pub invariant-loop-kernel : goal.invariant-loop-kernel
invariant-loop-kernel l =
    with_ports l.netlist (kernel_ports (kernel_names (drop l.kernel-index l.kernels)))
    ≡ with_ports l.initial.netlist (kernel_ports (kernel_names l.kernels))
