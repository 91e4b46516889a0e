-- An index.
use Rattle.kernel_plans.specs.Trees.{tree_of}
use Rattle.kernel_machine.proofs.Moves
use Rattle.kernel_machine.proofs.GivenFirst
use Rattle.kernel_machine.proofs.machine.Machine.indexed.Goals as goal

pub returns-in-Ok-clause-does : goal.returns-in-Ok-clause-does
returns-in-Ok-clause-does c =
    let at = GivenFirst.place-at c.args.class.now.cells (tree_of c.args.class.now.cells c.args.node) c.node_at-at.result
    c.node_at-at.ensures.tree in
    Moves.leads-by c.args.class.now _ _ c.resolve.result c.resolve.new.self
    (rw at (c.in-Ok.ensures _))
    c.resolve.ensures.does

pub returns-clause-does : goal.returns-clause-does
returns-clause-does c =
    let at = GivenFirst.place-at c.args.class.now.cells (tree_of c.args.class.now.cells c.args.node) c.node_at-at.result
    c.node_at-at.ensures.tree in
    Moves.leads-error c.args.class.now _ c.in-Err.error _ (rw at (c.in-Err.ensures _))
