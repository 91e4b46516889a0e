-- An element has its value.
use Rattle.std.proofs.Common.{◌+◌, sym, subst}
use Rattle.kernel_plans.specs.Trees.{tree_of}
use Rattle.kernel_machine.specs.Going.{standing, rest}
use Rattle.kernel_machine.specs.Falls.{CostsBelow, idle, elements_weight}
use Rattle.kernel_machine.specs.Fit.{HaveSoMany}
use Rattle.kernel_rows.specs.Fit.{IsFit, AreFit}
use Rattle.kernel_machine.proofs.Moves
use Rattle.kernel_machine.proofs.GivenFirst
use Rattle.kernel_machine.proofs.Setting
use Rattle.kernel_machine.proofs.machine.Machine.element_given.Goals as goal

pub elements-requires-clause-values : goal.elements-requires-clause-values
elements-requires-clause-values c =
    subst AreFit (sym c.in_ok-push.ensures.ok) (Setting.values-more c.args.values
    c.in_ok-of_type.field-0 c.requires.values
    (subst IsFit (sym c.in_ok-of_type.ensures.0) c.requires.value))

pub elements-requires-clause-many : goal.elements-requires-clause-many
elements-requires-clause-many c =
    subst (HaveSoMany c.args.class.now c.args.node) (GivenFirst.one-longer c.args.values
    c.push.new.self c.in_ok-of_type.field-0 c.in_ok-push.ensures.ok) c.requires.many

pub returns-clause-does : goal.returns-clause-does
returns-clause-does c =
    let at = GivenFirst.place-at c.args.class.now.cells (tree_of c.args.class.now.cells c.args.node)
    c.node_at-at.result c.node_at-at.ensures.tree in
    Moves.leads-by c.args.class.now _ _ c.elements.result c.elements.new.self
    (GivenFirst.element-set c.args.class.now.cells (standing c.args.class.now c.args.self.now)
    c.args.node c.args.of c.args.values c.args.value c.in_ok-of_type.field-0 c.push.new.self
    c.args.self.now.state (rest c.args.class.now c.args.self.now)
    (rw at (λ then. c.in_ok-of_type.ensures.1 c.args.self.now.state then))
    c.in_ok-push.ensures.ok)
    c.elements.ensures.does

pub returns-clause-falls : goal.returns-clause-falls
returns-clause-falls c =
    subst (λ n. CostsBelow c.args.class.now (idle c.args.class.now c.args.self.now + 5
    + elements_weight c.args.class.now c.args.node n) c.elements.result c.elements.new.self)
    (sym (GivenFirst.one-longer c.args.values c.push.new.self c.in_ok-of_type.field-0
    c.in_ok-push.ensures.ok))
    c.elements.ensures.falls

pub returns-in_err-of_type-clause-does : goal.returns-in_err-of_type-clause-does
returns-in_err-of_type-clause-does c =
    let at = GivenFirst.place-at c.args.class.now.cells (tree_of c.args.class.now.cells c.args.node)
    c.node_at-at.result c.node_at-at.ensures.tree in
    Moves.leads-on c.args.class.now _ c.from_residual.result c.in_err-of_type.field-0.0
    c.args.self.now c.from_residual.ensures.0 c.from_residual.ensures.1
    (GivenFirst.element-refused c.args.class.now.cells
    (standing c.args.class.now c.args.self.now) c.args.node c.args.of c.args.values c.args.value
    c.args.self.now.state (rest c.args.class.now c.args.self.now) c.in_err-of_type.field-0.0
    (rw at (λ then. c.in_err-of_type.ensures c.args.self.now.state then)))
