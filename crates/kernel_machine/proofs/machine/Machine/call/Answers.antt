-- A call that is a statement.
use Rattle.std.proofs.Common.{◌∙◌, refl, arith}
use Rattle.maxj_syntax.specs.declared.tree.NodeKind.TheVariants as N
use Rattle.kernel_plans.specs.Trees.{tree_of, trees_of}
use Rattle.kernel_machine.specs.declared.task.Task.TheVariants as T
use Rattle.kernel_machine.specs.Going.{go, standing, leaving, after}
use Rattle.kernel_machine.proofs.Places.{how-many, one-part}
use Rattle.kernel_machine.proofs.Moves
use Rattle.kernel_machine.proofs.machine.Machine.call.Goals as goal

pub returns-then-statement-ne1-clause-does : goal.returns-then-statement-ne1-clause-does
returns-then-statement-ne1-clause-does c =
    let many = how-many c.args.class.now.cells c.args.statement.now.id
    c.args.statement.now.children.now in
    Moves.as-kind c.args.class.now.cells (standing c.args.class.now c.args.self.now)
    c.args.statement.now N.Run c.args.self.now.state (after c.args.class.now c.args.self.now)
    (leaving c.args.class.now c.args.self.now) c.requires.kind
    ∙ Moves.run-odd (standing c.args.class.now c.args.self.now) c.args.statement.now.word.now
    c.args.statement.now.span (trees_of c.args.class.now.cells c.args.statement.now.id
    c.args.statement.now.children.now) c.args.self.now.state (after c.args.class.now
    c.args.self.now) (leaving c.args.class.now c.args.self.now) (λ e. absurd (omega arith))

pub returns-then-not-count-clause-does : goal.returns-then-not-count-clause-does
returns-then-not-count-clause-does c =
    Moves.as-kind c.args.class.now.cells (standing c.args.class.now c.args.self.now)
    c.args.statement.now N.Run c.args.self.now.state (after c.args.class.now c.args.self.now)
    (leaving c.args.class.now c.args.self.now) c.requires.kind
    ∙ (Moves.run-one (standing c.args.class.now c.args.self.now) c.args.statement.now.word.now
    c.args.statement.now.span (trees_of c.args.class.now.cells c.args.statement.now.id
    c.args.statement.now.children.now) (tree_of c.args.class.now.cells c.part-call.result)
    c.args.self.now.state (after c.args.class.now c.args.self.now) (leaving c.args.class.now
    c.args.self.now)
    (one-part c.args.class.now.cells c.args.statement.now c.part-call.result (omega arith)
    c.part-call.ensures)
    ∙ Moves.counted-stop c.args.self.now.state _ c.if-not-count.ensures.0)

pub returns-clause-does : goal.returns-clause-does
unfolding go
returns-clause-does c =
    Moves.leads-by c.args.class.now _ (Moves.evaluated c.args.class.now c.count.new.self T.Discard
    c.part-call.result) c.evaluate_for.result c.evaluate_for.new.self
    (Moves.as-kind c.args.class.now.cells (standing c.args.class.now c.args.self.now)
    c.args.statement.now N.Run c.args.self.now.state (after c.args.class.now c.args.self.now)
    (leaving c.args.class.now c.args.self.now) c.requires.kind
    ∙ (Moves.run-one (standing c.args.class.now c.args.self.now) c.args.statement.now.word.now
    c.args.statement.now.span (trees_of c.args.class.now.cells c.args.statement.now.id
    c.args.statement.now.children.now) (tree_of c.args.class.now.cells c.part-call.result)
    c.args.self.now.state (after c.args.class.now c.args.self.now) (leaving c.args.class.now
    c.args.self.now)
    (one-part c.args.class.now.cells c.args.statement.now c.part-call.result (omega arith)
    c.part-call.ensures)
    ∙ (Moves.counted-to c.args.self.now c.count.new.self _ c.if-not-count.ensures ∙ Moves.discarded
    c.args.class.now c.args.self.now c.count.new.self c.part-call.result c.if-not-count.ensures.1)))
    c.evaluate_for.ensures.does
