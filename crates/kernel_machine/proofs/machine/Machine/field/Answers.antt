-- A field's type, and then its initial value.
use Rattle.std.proofs.Common.{◌≡◌, ◌∙◌, ◌+◌, suc, refl, sym, arith}
use Rattle.kernel_plans.specs.Classes.{members}
use Rattle.kernel_plans.specs.Trees.{tree_of}
use Rattle.kernel_machine.specs.Going.{go, standing}
use Rattle.kernel_machine.specs.Left.{from_place}
use Rattle.kernel_machine.proofs.Moves
use Rattle.kernel_machine.proofs.FieldFirst
use Rattle.kernel_machine.proofs.machine.Machine.field.Goals as goal

pub returns-clause-does : goal.returns-clause-does
unfolding go
returns-clause-does c =
    let class = c.args.class.now in
    let more : c.args.before + 1 ≡ suc c.args.before = omega arith in
    Moves.leads-by class _ _ c.initial.result c.initial.new.self
    (FieldFirst.field-typed class.cells (standing class c.args.self.now) c.args.field.now
    (tree_of class.cells c.part.result) c.in-Ok.of c.args.before
    (from_place c.args.behind (members class))
    c.args.self.now.state _ c.requires.kind
    (c.part.ensures class.cells c.requires.typed) (sym c.in-Ok.ensures)
    ∙ rw (c.in_ok-push.ensures.ok, more) refl)
    c.initial.ensures.does
