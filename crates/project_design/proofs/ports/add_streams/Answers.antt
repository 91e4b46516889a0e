use Rattle.std.proofs.Common.{ap, sym, subst, map, ◌∙◌}
use Rattle.std.specs.Prelude.{All}
use Rattle.rtl_ir.specs.Ports.{host_input_ports, host_output_ports}
use Rattle.manager_links.specs.Hosts.{HasType}
use Rattle.project_rtl.specs.Shapes.{host_shape}
use Rattle.project_design.specs.Building.{with_ports}
use Rattle.project_design.proofs.Porting.{further}
use Rattle.project_design.proofs.ports.add_streams.Goals as goal

pub add_inputs-requires : goal.add_inputs-requires
add_inputs-requires c =
    subst (λ ks. All (HasType ks) c.inputs.result.now) (sym c.kernels.ensures)
    (subst (All (HasType c.args.project.now.kernels)) (sym c.inputs.ensures) c.args.project.now.whole.inputs.typed)

pub add_outputs-requires : goal.add_outputs-requires
add_outputs-requires c =
    subst (λ ks. All (HasType ks) c.outputs.result.now) (sym c.kernels-2.ensures)
    (subst (All (HasType c.args.project.now.kernels)) (sym c.outputs.ensures) c.args.project.now.whole.outputs.typed)

pub returns : goal.returns
returns c =
    further c.args.netlist.now c.add_inputs.new.netlist c.add_outputs.new.netlist
    (host_input_ports (map host_shape c.args.project.now.joints.inputs)) (host_output_ports (map host_shape c.args.project.now.joints.outputs))
    (c.in_ok-add_inputs.ensures ∙ ap (λ hs. with_ports c.args.netlist.now (host_input_ports (map host_shape hs))) c.inputs.ensures)
    (c.in_ok-add_outputs.ensures ∙ ap (λ hs. with_ports c.add_inputs.new.netlist (host_output_ports (map host_shape hs))) c.outputs.ensures)
