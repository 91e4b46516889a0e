-- Braces, or an expression.
use Rattle.kernel_plans.specs.Trees.{tree_of}
use Rattle.kernel_machine.specs.Going.{standing, rest}
use Rattle.kernel_machine.proofs.GivenFirst
use Rattle.kernel_machine.proofs.machine.Machine.value_of.Goals as goal

pub returns-in-Braces-clause-does : goal.returns-in-Braces-clause-does
returns-in-Braces-clause-does c =
    GivenFirst.value-braces (standing c.args.class.now c.args.self.now) c.args.of
    (tree_of c.args.class.now.cells c.args.value) _ _ _ _ c.args.self.now.state
    (rest c.args.class.now c.args.self.now) c.node_at.ensures.tree c.in-Braces.is

pub returns-in_default-clause-does : goal.returns-in_default-clause-does
returns-in_default-clause-does c =
    GivenFirst.value-expr (standing c.args.class.now c.args.self.now) c.args.of
    (tree_of c.args.class.now.cells c.args.value) _ _ _ _ c.args.self.now.state
    (rest c.args.class.now c.args.self.now) c.node_at.ensures.tree c.in_default.not-Braces
