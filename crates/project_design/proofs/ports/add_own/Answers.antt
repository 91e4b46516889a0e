use Rattle.std.proofs.Common.{ap, ◌∙◌}
use Rattle.std.specs.List.{flat_map}
use Rattle.rtl_ir.specs.Ports.{kernel_ports, scalar_ports}
use Rattle.manager_links.specs.Rules.{kernel_names}
use Rattle.project_rtl.specs.Shapes.{scalar_shapes}
use Rattle.project_design.specs.Building.{with_ports}
use Rattle.project_design.proofs.Porting.{further}
use Rattle.project_design.proofs.ports.add_own.Goals as goal

pub returns : goal.returns
returns c =
    further c.args.netlist.now c.add_kernels.new.netlist c.add_all_scalars.new.netlist
    (kernel_ports (kernel_names c.args.project.now.kernels)) (scalar_ports (flat_map scalar_shapes c.args.project.now.kernels))
    (c.in_ok-add_kernels.ensures ∙ ap (λ ks. with_ports c.args.netlist.now (kernel_ports (kernel_names ks))) c.kernels.ensures)
    (c.in_ok-add_all_scalars.ensures ∙ ap (λ ks. with_ports c.add_kernels.new.netlist (scalar_ports (flat_map scalar_shapes ks))) c.kernels-2.ensures)
