-- `while`.
use Rattle.std.proofs.Common.{◌∙◌, arith}
use Rattle.maxj_syntax.specs.declared.tree.NodeKind.TheVariants as N
use Rattle.kernel_plans.specs.Trees.{trees_of}
use Rattle.kernel_machine.specs.Going.{standing, leaving, after}
use Rattle.kernel_machine.proofs.Places.{how-many, two-parts}
use Rattle.kernel_machine.proofs.Moves
use Rattle.kernel_machine.proofs.machine.Machine.repeat_while.Goals as goal

pub returns-then-statement-ne2-clause-does : goal.returns-then-statement-ne2-clause-does
returns-then-statement-ne2-clause-does c =
    let many = how-many c.args.class.now.cells c.args.statement.now.id
    c.args.statement.now.children.now in
    Moves.as-kind c.args.class.now.cells (standing c.args.class.now c.args.self.now)
    c.args.statement.now N.While c.args.self.now.state (after c.args.class.now c.args.self.now)
    (leaving c.args.class.now c.args.self.now) c.requires.kind
    ∙ Moves.while-odd (standing c.args.class.now c.args.self.now) c.args.statement.now.word.now
    c.args.statement.now.span (trees_of c.args.class.now.cells c.args.statement.now.id
    c.args.statement.now.children.now) c.args.self.now.state (after c.args.class.now
    c.args.self.now) (leaving c.args.class.now c.args.self.now) (λ e. absurd (omega arith))

pub returns-then-not-count-clause-does : goal.returns-then-not-count-clause-does
returns-then-not-count-clause-does c =
    Moves.as-kind c.args.class.now.cells (standing c.args.class.now c.args.self.now)
    c.args.statement.now N.While c.args.self.now.state (after c.args.class.now c.args.self.now)
    (leaving c.args.class.now c.args.self.now) c.requires.kind
    ∙ (Moves.while-two c.args.class.now.cells (standing c.args.class.now c.args.self.now)
    c.args.statement.now.word.now c.args.statement.now.span (trees_of c.args.class.now.cells
    c.args.statement.now.id c.args.statement.now.children.now) c.part.result c.part-2.result
    c.args.self.now.state (after c.args.class.now c.args.self.now) (leaving c.args.class.now
    c.args.self.now)
    (two-parts c.args.class.now.cells c.args.statement.now c.part.result c.part-2.result
    (omega arith) c.part.ensures c.part-2.ensures)
    ∙ Moves.counted-stop c.args.self.now.state _ c.if-not-count.ensures.0)

pub returns-clause-does : goal.returns-clause-does
returns-clause-does c =
    let counted = c.if-not-count.ensures in
    Moves.leads-by c.args.class.now _ _ c.turn.result c.turn.new.self
    (Moves.as-kind c.args.class.now.cells (standing c.args.class.now c.args.self.now)
    c.args.statement.now N.While c.args.self.now.state (after c.args.class.now c.args.self.now)
    (leaving c.args.class.now c.args.self.now) c.requires.kind
    ∙ (Moves.while-two c.args.class.now.cells (standing c.args.class.now c.args.self.now)
    c.args.statement.now.word.now c.args.statement.now.span (trees_of c.args.class.now.cells
    c.args.statement.now.id c.args.statement.now.children.now) c.part.result c.part-2.result
    c.args.self.now.state (after c.args.class.now c.args.self.now) (leaving c.args.class.now
    c.args.self.now)
    (two-parts c.args.class.now.cells c.args.statement.now c.part.result c.part-2.result
    (omega arith) c.part.ensures c.part-2.ensures)
    ∙ Moves.counted-go c.args.self.now.state c.count.new.self.state.left _
    c.if-not-count.ensures.0))
    (rw (c.most_turns-more.ensures, counted.1) at c.turn.ensures.does)
