-- What is set, by the number of parts.
use Rattle.kernel_plans.specs.Trees.{tree_of}
use Rattle.kernel_machine.specs.Going.{standing, after}
use Rattle.kernel_machine.proofs.Moves
use Rattle.kernel_machine.proofs.Sets
use Rattle.kernel_machine.proofs.machine.Machine.change.Goals as goal

pub returns-then-parts-eq1-clause-does : goal.returns-then-parts-eq1-clause-does
returns-then-parts-eq1-clause-does c =
    Moves.leads-by c.args.class.now _ _ c.step_by_one.result c.step_by_one.new.self
    (Sets.set-one c.args.class.now.cells (standing c.args.class.now c.args.self.now) (tree_of c.args.class.now.cells c.args.node)
    c.node_at-statement.result c.args.spot c.args.self.now.state (after c.args.class.now
    c.args.self.now) c.node_at-statement.ensures.tree c.if-parts-eq1.true)
    c.step_by_one.ensures.does

pub returns-clause-does : goal.returns-clause-does
returns-clause-does c =
    Sets.set-none c.args.class.now.cells (standing c.args.class.now c.args.self.now) (tree_of c.args.class.now.cells c.args.node)
    c.node_at-statement.result c.args.spot c.args.self.now.state (after c.args.class.now
    c.args.self.now) c.node_at-statement.ensures.tree c.if-parts-eq1.false c.if-parts-eq2.false
