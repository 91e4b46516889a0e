-- A block begins, once its step is counted.
use Rattle.std.proofs.Common.{◌∙◌, refl}
use Rattle.maxj_syntax.specs.declared.tree.NodeKind.TheVariants as N
use Rattle.kernel_meaning.specs.Run.{expr}
use Rattle.kernel_machine.specs.Going.{go, standing, leaving, after}
use Rattle.kernel_machine.proofs.Moves
use Rattle.kernel_machine.proofs.machine.Machine.block.Goals as goal

pub returns-clause-does : goal.returns-clause-does
unfolding go expr
returns-clause-does c =
    let counted = c.if-not-count.ensures in
    Moves.leads-by c.args.class.now _ _ c.statements.result c.statements.new.self
    (Moves.as-kind c.args.class.now.cells (standing c.args.class.now c.args.self.now)
    c.args.statement.now N.Block c.args.self.now.state (after c.args.class.now c.args.self.now)
    (leaving c.args.class.now c.args.self.now) c.requires.kind
    ∙ (Moves.counted-to c.args.self.now c.count.new.self _ counted
    ∙ rw (c.requires.tree, counted.1, c.len-count.ensures) refl))
    c.statements.ensures.does
