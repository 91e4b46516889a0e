use Rattle.std.specs.Prelude.{true}
use Rattle.project_design.proofs.Porting.{ported, ports_together}
use Rattle.project_design.proofs.ports.add_ports.Goals as goal

pub returns : goal.returns
returns c =
    ports_together c.args.project.now c.args.netlist.now c.add_clock.new.netlist c.add_own.new.netlist c.add_streams.new.netlist
    c.output.new.self c.in_ok-add_clock.ensures c.in_ok-add_own.ensures c.in_ok-add_streams.ensures
    (ported c.add_streams.new.netlist c.output.new.self _ _ 1 true c.in_ok-output.ensures.port.is c.in_ok-text.ensures)
