use Rattle.std.proofs.Common.{◌∙◌, map, ap, sym, subst}
use Rattle.std.specs.List.{flat_map}
use Rattle.rtl_ir.specs.Ports.{scalar_ports}
use Rattle.project_rtl.specs.Shapes.{scalar_shape, scalar_shapes}
use Rattle.project_design.specs.Nodes.{AreWithin}
use Rattle.project_design.specs.Building.{with_ports}
use Rattle.project_design.proofs.Ending.{none_more}
use Rattle.project_design.proofs.Porting.{scalars_step}
use Rattle.project_design.proofs.ports.add_all_scalars.Goals as goal

pub add_scalars-requires : goal.add_scalars-requires
add_scalars-requires c = subst (λ l. AreWithin c.kernel-item.result.nodes l) (sym c.as_slice.ensures.value) c.in_ok-ports.ensures.scalars_within

pub loop-kernel-preserved : goal.loop-kernel-preserved
loop-kernel-preserved c =
    let l = c.loop-kernel in
    let kernel = c.kernel-item.result in
    scalars_step c.args.kernels.now l.kernel-index kernel l.netlist c.add_scalars.new.netlist _ c.loop-kernel-test.true c.kernel-item.is
    (c.in_ok-add_scalars.ensures ∙ ap (λ ns. with_ports l.netlist (scalar_ports (map (scalar_shape kernel) ns))) (c.as_slice.ensures.value ∙ c.in_ok-ports.ensures.scalars))
    l.invariant

pub returns : goal.returns
returns c =
    let l = c.loop-kernel in
    ap (λ xs. with_ports l.netlist (scalar_ports (flat_map scalar_shapes xs))) (sym (none_more c.args.kernels.now l.kernel-index c.loop-kernel-test.false)) ∙ l.invariant
