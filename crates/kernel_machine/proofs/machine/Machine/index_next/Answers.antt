-- The array is set, and its index is evaluated.
use Rattle.std.proofs.Common.{◌∙◌, refl}
use Rattle.kernel_plans.specs.Trees.{tree_of}
use Rattle.kernel_machine.specs.Going.{go, standing, after}
use Rattle.kernel_machine.proofs.GivenFirst
use Rattle.kernel_machine.proofs.Moves
use Rattle.kernel_machine.proofs.Sets
use Rattle.kernel_machine.proofs.machine.Machine.index_next.Goals as goal

pub returns-in_err-array-clause-does : goal.returns-in_err-array-clause-does
returns-in_err-array-clause-does c =
    let tree = tree_of c.args.class.now.cells c.args.node in
    let at = GivenFirst.place-at c.args.class.now.cells tree c.node_at-at.result
    c.node_at-at.ensures.tree in
    Sets.index-unset c.args.class.now (standing c.args.class.now c.args.self.now) tree c.args.index
    c.args.pending c.args.spot c.node_at-at.result.span.from c.args.self.now.state
    (after c.args.class.now c.args.self.now) c.from_residual.result c.in_err-array.field-0.0
    c.args.self.now at c.from_residual.ensures.0 c.from_residual.ensures.1 c.in_err-array.ensures.is

pub returns-clause-does : goal.returns-clause-does
unfolding go
returns-clause-does c =
    let tree = tree_of c.args.class.now.cells c.args.node in
    let at = GivenFirst.place-at c.args.class.now.cells tree c.node_at-at.result
    c.node_at-at.ensures.tree in
    Moves.leads-by c.args.class.now _ _ c.evaluate_for.result c.evaluate_for.new.self
    (Sets.index-go c.args.class.now.cells (standing c.args.class.now c.args.self.now) tree
    c.args.index c.args.pending c.args.spot c.node_at-at.result.span.from c.in_ok-array.array
    c.args.self.now.state (after c.args.class.now c.args.self.now) at c.in_ok-array.ensures.is)
    c.evaluate_for.ensures.does
