-- An assignment begins.
use Rattle.std.proofs.Common.{◌∙◌, refl, sym, arith}
use Rattle.maxj_syntax.specs.declared.tree.NodeKind.TheVariants as N
use Rattle.kernel_plans.specs.Trees.{trees_of}
use Rattle.kernel_machine.specs.Going.{go, standing, leaving, after}
use Rattle.kernel_machine.proofs.Moves
use Rattle.kernel_machine.proofs.Places
use Rattle.kernel_machine.proofs.Sets
use Rattle.kernel_machine.proofs.machine.Machine.set.Goals as goal

pub returns-then-statement-eq0-clause-does : goal.returns-then-statement-eq0-clause-does
returns-then-statement-eq0-clause-does c =
    let many = Places.how-many c.args.class.now.cells c.args.statement.now.id
    c.args.statement.now.children.now in
    Moves.as-kind c.args.class.now.cells (standing c.args.class.now c.args.self.now) c.args.statement.now N.Set c.args.self.now.state
    (after c.args.class.now c.args.self.now) (leaving c.args.class.now c.args.self.now)
    c.requires.kind
    ∙ Sets.set-odd (standing c.args.class.now c.args.self.now) c.args.statement.now.word.now c.args.statement.now.span
    (trees_of c.args.class.now.cells c.args.statement.now.id c.args.statement.now.children.now)
    c.args.self.now.state (after c.args.class.now c.args.self.now) (leaving c.args.class.now
    c.args.self.now) (λ e. absurd (omega arith)) (λ e. absurd (omega arith))

pub returns-then-statement-gt2-clause-does : goal.returns-then-statement-gt2-clause-does
returns-then-statement-gt2-clause-does c =
    let many = Places.how-many c.args.class.now.cells c.args.statement.now.id
    c.args.statement.now.children.now in
    Moves.as-kind c.args.class.now.cells (standing c.args.class.now c.args.self.now) c.args.statement.now N.Set c.args.self.now.state
    (after c.args.class.now c.args.self.now) (leaving c.args.class.now c.args.self.now)
    c.requires.kind
    ∙ Sets.set-odd (standing c.args.class.now c.args.self.now) c.args.statement.now.word.now c.args.statement.now.span
    (trees_of c.args.class.now.cells c.args.statement.now.id c.args.statement.now.children.now)
    c.args.self.now.state (after c.args.class.now c.args.self.now) (leaving c.args.class.now
    c.args.self.now) (λ e. absurd (omega arith)) (λ e. absurd (omega arith))

pub returns-then-not-count-clause-does : goal.returns-then-not-count-clause-does
returns-then-not-count-clause-does c =
    Sets.set-go c.args.class.now.cells (standing c.args.class.now c.args.self.now) c.args.statement.now c.part-place.result
    c.args.self.now.state (after c.args.class.now c.args.self.now) (leaving c.args.class.now
    c.args.self.now) c.requires.kind (omega arith) (omega arith) c.part-place.ensures
    ∙ Moves.counted-stop c.args.self.now.state _ c.if-not-count.ensures.0

pub returns-clause-does : goal.returns-clause-does
unfolding go
returns-clause-does c =
    Moves.leads-by c.args.class.now _ _ c.target.result c.target.new.self
    (Sets.set-go c.args.class.now.cells (standing c.args.class.now c.args.self.now) c.args.statement.now c.part-place.result
    c.args.self.now.state (after c.args.class.now c.args.self.now) (leaving c.args.class.now
    c.args.self.now) c.requires.kind (omega arith) (omega arith) c.part-place.ensures
    ∙ (Moves.counted-to c.args.self.now c.count.new.self _ c.if-not-count.ensures
    ∙ rw (sym c.requires.tree, c.if-not-count.ensures.1) refl))
    c.target.ensures.does
