use Rattle.std.proofs.Common.{◌∙◌, map, ap, sym}
use Rattle.rtl_ir.specs.Ports.{host_output_ports}
use Rattle.project_rtl.specs.Shapes.{host_shape}
use Rattle.project_design.specs.Building.{with_ports}
use Rattle.project_design.proofs.Ending.{none_more}
use Rattle.project_design.proofs.Porting.{output_step}
use Rattle.project_design.proofs.ports.add_outputs.Goals as goal

pub loop-host-preserved : goal.loop-host-preserved
loop-host-preserved c =
    let l = c.loop-host in
    output_step c.args.hosts.now l.host-index c.host-item.result l.netlist c.add_output.new.netlist _ c.loop-host-test.true c.host-item.is c.in_ok-add_output.ensures l.invariant

pub returns : goal.returns
returns c =
    let l = c.loop-host in
    ap (λ xs. with_ports l.netlist (host_output_ports (map host_shape xs))) (sym (none_more c.args.hosts.now l.host-index c.loop-host-test.false)) ∙ l.invariant
