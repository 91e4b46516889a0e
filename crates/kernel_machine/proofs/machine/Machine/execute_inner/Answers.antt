-- No other kind is a statement.
use Rattle.kernel_plans.specs.Trees.{trees_of}
use Rattle.kernel_machine.specs.Going.{standing, leaving, after}
use Rattle.kernel_machine.proofs.Groups
use Rattle.kernel_machine.proofs.machine.Machine.execute_inner.Goals as goal

pub returns-in_default-clause-does : goal.returns-in_default-clause-does
returns-in_default-clause-does c =
    let d = c.in_default in
    let b = c.args.statement.now in
    Groups.no-statement (standing c.args.class.now c.args.self.now) b.kind b.word.now b.span
    (trees_of c.args.class.now.cells b.id b.children.now) c.args.self.now.state
    (after c.args.class.now c.args.self.now) (leaving c.args.class.now c.args.self.now)
    c.requires.other d.not-Block d.not-If d.not-While d.not-For
