-- `?:` begins with its condition.
use Rattle.std.proofs.Common.{refl, arith}
use Rattle.kernel_meaning.specs.Run.{expr}
use Rattle.kernel_machine.specs.Going.{go, standing}
use Rattle.kernel_machine.proofs.Places.{how-many, three-parts}
use Rattle.kernel_machine.proofs.Moves.{leads-by, choice-odd}
use Rattle.kernel_machine.proofs.machine.Machine.choice.Goals as goal

pub returns-then-expression-ne3-clause-does : goal.returns-then-expression-ne3-clause-does
returns-then-expression-ne3-clause-does c =
    let many = how-many c.args.class.now.cells c.args.expression.now.id
    c.args.expression.now.children.now in
    choice-odd (standing c.args.class.now c.args.self.now) c.args.expression.now.span.from _
    c.args.self.now.state _ (λ e. absurd (omega arith))

pub returns-clause-does : goal.returns-clause-does
unfolding go expr
returns-clause-does c =
    let is = three-parts c.args.class.now.cells c.args.expression.now c.part-3.result
    c.part.result c.part-2.result
    (omega arith) c.part-3.ensures c.part.ensures c.part-2.ensures in
    leads-by c.args.class.now _ _ c.evaluate_for.result c.evaluate_for.new.self
    (rw is refl) c.evaluate_for.ensures.does
