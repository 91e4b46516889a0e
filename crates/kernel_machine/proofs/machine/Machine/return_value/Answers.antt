-- `return`, with a value or without.
use Rattle.std.proofs.Common.{◌∙◌, refl, arith}
use Rattle.maxj_syntax.specs.declared.tree.NodeKind.TheVariants as N
use Rattle.kernel_plans.specs.Trees.{tree_of, trees_of}
use Rattle.kernel_machine.specs.declared.task.Task.TheVariants as T
use Rattle.kernel_machine.specs.Going.{go, standing, leaving, after}
use Rattle.kernel_machine.proofs.Places.{how-many, one-part}
use Rattle.kernel_machine.proofs.Moves
use Rattle.kernel_machine.proofs.machine.Machine.return_value.Goals as goal

pub returns-then-not-count-2-clause-does : goal.returns-then-not-count-2-clause-does
returns-then-not-count-2-clause-does c =
    Moves.as-kind c.args.class.now.cells (standing c.args.class.now c.args.self.now)
    c.args.statement.now N.Return c.args.self.now.state (after c.args.class.now c.args.self.now)
    (leaving c.args.class.now c.args.self.now) c.requires.kind
    ∙ (Moves.return-one (standing c.args.class.now c.args.self.now)
    c.args.statement.now.word.now c.args.statement.now.span (trees_of c.args.class.now.cells
    c.args.statement.now.id c.args.statement.now.children.now) (tree_of c.args.class.now.cells
    c.part-value.result) c.args.self.now.state (after c.args.class.now c.args.self.now) (leaving
    c.args.class.now c.args.self.now)
    (one-part c.args.class.now.cells c.args.statement.now c.part-value.result (omega arith)
    c.part-value.ensures)
    ∙ Moves.counted-stop c.args.self.now.state _ c.if-not-count-2.ensures.0)

pub returns-else-not-count-2-clause-does : goal.returns-else-not-count-2-clause-does
unfolding go
returns-else-not-count-2-clause-does c =
    Moves.leads-by c.args.class.now _ (Moves.evaluated c.args.class.now c.count-in-1.new.self
    (T.GiveBack c.args.statement.now.span.from) c.part-value.result) c.evaluate_for.result
    c.evaluate_for.new.self
    (Moves.as-kind c.args.class.now.cells (standing c.args.class.now c.args.self.now)
    c.args.statement.now N.Return c.args.self.now.state (after c.args.class.now c.args.self.now)
    (leaving c.args.class.now c.args.self.now) c.requires.kind
    ∙ (Moves.return-one (standing c.args.class.now c.args.self.now)
    c.args.statement.now.word.now c.args.statement.now.span (trees_of c.args.class.now.cells
    c.args.statement.now.id c.args.statement.now.children.now) (tree_of c.args.class.now.cells
    c.part-value.result) c.args.self.now.state (after c.args.class.now c.args.self.now) (leaving
    c.args.class.now c.args.self.now)
    (one-part c.args.class.now.cells c.args.statement.now c.part-value.result (omega arith)
    c.part-value.ensures)
    ∙ (Moves.counted-to c.args.self.now c.count-in-1.new.self _ c.if-not-count-2.ensures ∙ rw
    (c.if-not-count-2.ensures.1) refl)))
    c.evaluate_for.ensures.does

pub returns-in_default-clause-does : goal.returns-in_default-clause-does
returns-in_default-clause-does c =
    let many = how-many c.args.class.now.cells c.args.statement.now.id
    c.args.statement.now.children.now in
    Moves.as-kind c.args.class.now.cells (standing c.args.class.now c.args.self.now)
    c.args.statement.now N.Return c.args.self.now.state (after c.args.class.now c.args.self.now)
    (leaving c.args.class.now c.args.self.now) c.requires.kind
    ∙ Moves.return-odd (standing c.args.class.now c.args.self.now) c.args.statement.now.word.now
    c.args.statement.now.span (trees_of c.args.class.now.cells c.args.statement.now.id
    c.args.statement.now.children.now) c.args.self.now.state (after c.args.class.now
    c.args.self.now) (leaving c.args.class.now c.args.self.now) (λ e. absurd (omega arith))
    (λ e. absurd (omega arith))
