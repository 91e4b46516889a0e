use Rattle.std.proofs.Common.{◌∙◌}
use Rattle.std.proofs.lemmas.Result.{IfOk-weaker}
use Rattle.project_rtl.specs.Shapes.{shape_of}
use Rattle.rtl_ir.specs.Interfaces.{IsInterface}
use Rattle.rtl_ir.specs.declared.design.Module.{Module}
use Rattle.top_ports.specs.Shapes.{IsTop}
use Rattle.project_ports.proofs.Alone.{alone-top}
use Rattle.project_ports.proofs.Shapes.{all_named}
use Rattle.project_ports.proofs.ports.project_ports.Goals as goal

pub interface-requires : goal.interface-requires
interface-requires c = (
  shape_of c.args.project.now,
  alone-top c.args.project.now c.finish-alone.result (all_named c.args.project.now)
      (c.finish-alone.ensures.whole ∙ c.in_ok-ports_alone.ensures),
)

pub returns-clause-shape : goal.returns-clause-shape
returns-clause-shape c =
    c.interface.ensures.shape (shape_of c.args.project.now)
    (alone-top c.args.project.now c.finish-alone.result (all_named c.args.project.now)
    (c.finish-alone.ensures.whole ∙ c.in_ok-ports_alone.ensures))

pub returns-clause-is : goal.returns-clause-is
returns-clause-is c =
    let shape = shape_of c.args.project.now in
    let alone : Module = c.finish-alone.result in
    let top : IsTop alone shape =
    alone-top c.args.project.now alone (all_named c.args.project.now)
    (c.finish-alone.ensures.whole ∙ c.in_ok-ports_alone.ensures) in
    IfOk-weaker c.interface.result (IsInterface alone)
    (λ ports. (m : Module) × IsTop m shape × IsInterface m ports)
    (λ ports is. (alone, top, is)) c.interface.ensures.is
