use Rattle.std.proofs.Common.{ap, ◌∙◌}
use Rattle.rtl_build.specs.Wires.{empty}
use Rattle.rtl_ir.specs.Ports.{shape_ports}
use Rattle.project_rtl.specs.Shapes.{shape_of}
use Rattle.project_design.specs.Building.{with_ports}
use Rattle.project_design.proofs.ports.ports_alone.Goals as goal

pub returns : goal.returns
returns c =
    c.in_ok-add_ports.ensures
    ∙ ap (λ m. with_ports m (shape_ports (shape_of c.args.project.now))) (c.new-netlist.ensures ∙ ap empty c.in_ok-text.ensures)
