use Rattle.std.proofs.Common.{◌∙◌, map, ap, sym}
use Rattle.rtl_ir.specs.Ports.{kernel_ports}
use Rattle.manager_links.specs.Rules.{kernel_names}
use Rattle.project_design.specs.Building.{with_ports}
use Rattle.project_design.proofs.Ending.{none_more}
use Rattle.project_design.proofs.Porting.{kernel_step}
use Rattle.project_design.proofs.ports.add_kernels.Goals as goal

pub loop-kernel-preserved : goal.loop-kernel-preserved
loop-kernel-preserved c =
    let l = c.loop-kernel in
    kernel_step c.args.kernels.now l.kernel-index c.kernel-item.result l.netlist c.add_kernel.new.netlist _ c.loop-kernel-test.true c.kernel-item.is c.in_ok-add_kernel.ensures l.invariant

pub returns : goal.returns
returns c =
    let l = c.loop-kernel in
    ap (λ xs. with_ports l.netlist (kernel_ports (kernel_names xs))) (sym (none_more c.args.kernels.now l.kernel-index c.loop-kernel-test.false)) ∙ l.invariant
