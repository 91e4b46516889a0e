-- The next statement of a block, or its end.
use Rattle.std.proofs.Common.{◌+◌, refl, arith}
use Rattle.kernel_meaning.specs.Run.{expr}
use Rattle.kernel_plans.specs.Trees.{tree_of}
use Rattle.kernel_machine.specs.Going.{go, standing}
use Rattle.kernel_machine.proofs.Places.{at-part, at-end}
use Rattle.kernel_machine.proofs.Moves.{leads-by, block-end, kept-left}
use Rattle.kernel_machine.proofs.machine.Machine.statements.Goals as goal

pub give-requires-clause-fit : goal.give-requires-clause-fit
give-requires-clause-fit c = record {
  now = c.requires.fit.now;
  tasks = c.requires.fit.tasks;
  callers = c.requires.fit.callers;
  state = rw c.keep.ensures (kept-left c.args.count c.args.self.now.state c.requires.fit.state);
}

pub returns-then-place-parts-clause-does : goal.returns-then-place-parts-clause-does
returns-then-place-parts-clause-does c =
    leads-by c.args.class.now _ _ c.give.result c.give.new.self
    (block-end (standing c.args.class.now c.args.self.now) c.args.count _ c.args.self.now.state _ _
    (at-end c.args.class.now.cells (tree_of c.args.class.now.cells c.args.node)
    c.branch_at-parts.result c.args.place (rw c.tree.ensures at c.branch_at-parts.ensures.tree)
    (omega arith)))
    (rw c.keep.ensures at c.give.ensures.does)

pub returns-clause-does : goal.returns-clause-does
unfolding go expr
returns-clause-does c =
    let cells = c.args.class.now.cells in
    let tree = tree_of cells c.args.node in
    let is = rw c.tree.ensures at c.branch_at-parts.ensures.tree in
    let first = at-part cells tree c.branch_at-parts.result c.args.place (c.args.place + 1)
    c.part.result is c.part.ensures (omega arith) (omega arith) in
    leads-by c.args.class.now _ _ c.execute_for.result c.execute_for.new.self
    (rw first refl) c.execute_for.ensures.does
