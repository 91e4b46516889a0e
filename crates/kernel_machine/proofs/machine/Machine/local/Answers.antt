-- A variable, and then its initial value.
use Rattle.std.proofs.Common.{◌∙◌, refl, sym, arith}
use Rattle.maxj_syntax.specs.declared.tree.NodeKind.TheVariants as N
use Rattle.kernel_meaning.specs.Run.{expr}
use Rattle.kernel_plans.specs.Trees.{tree_of}
use Rattle.kernel_machine.specs.Going.{standing, leaving, after}
use Rattle.kernel_machine.proofs.Moves
use Rattle.kernel_machine.proofs.GivenFirst
use Rattle.kernel_machine.proofs.machine.Machine.local.Goals as goal

pub returns-in_ok-name_of-in-Ok-introduce-clause-does :
    goal.returns-in_ok-name_of-in-Ok-introduce-clause-does
unfolding expr
returns-in_ok-name_of-in-Ok-introduce-clause-does c =
    let kind = c.part-kind.ensures c.args.class.now.cells (omega arith) in
    Moves.leads-by c.args.class.now _ _ c.initial.result c.initial.new.self
    (Moves.as-kind c.args.class.now.cells (standing c.args.class.now c.args.self.now)
    c.args.statement.now N.Local c.args.self.now.state (after c.args.class.now c.args.self.now)
    (leaving c.args.class.now c.args.self.now) c.requires.kind
    ∙ GivenFirst.local-some (standing c.args.class.now c.args.self.now) c.args.statement.now.word.now
    c.args.statement.now.span _ _ (tree_of c.args.class.now.cells c.part-kind.result)
    c.args.self.now.state (after c.args.class.now c.args.self.now) (leaving c.args.class.now
    c.args.self.now) kind
    ∙ Moves.counted-to c.args.self.now c.count.new.self _ c.if-not-count.ensures
    ∙ GivenFirst.introduced-by c.args.statement.now.span.from c.args.statement.now.word.now _
    c.in-Ok.of c.count.new.self.state c.introduce.new.state _ (sym c.in-Ok.ensures)
    c.in-Ok-introduce.ensures.stands
    ∙ rw (c.if-not-count.ensures.1, c.in_ok-name_of-in-Ok-introduce.ensures) refl)
    c.initial.ensures.does
