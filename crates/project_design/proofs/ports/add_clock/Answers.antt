use Rattle.std.specs.Prelude.{false}
use Rattle.project_design.proofs.Porting.{ported, clock_made}
use Rattle.project_design.proofs.ports.add_clock.Goals as goal

pub returns : goal.returns
returns c =
    clock_made c.args.netlist.now c.input.new.self c.input-2.new.self
    (ported c.args.netlist.now c.input.new.self _ _ 1 false c.in_ok-input.ensures.port.is c.in_ok-text.ensures)
    (ported c.input.new.self c.input-2.new.self _ _ 1 false c.in_ok-input-2.ensures.port.is c.in_ok-text-2.ensures)
