-- Braces begin.
use Rattle.std.proofs.Common.{◌∙◌, ◌-◌, refl, sym, arith, ap}
use Rattle.kernel_plans.specs.Trees.{tree_of}
use Rattle.kernel_machine.specs.Going.{standing, rest}
use Rattle.kernel_meaning.specs.Answer.{Refused}
use Rattle.kernel_meaning.specs.declared.error.EvalError.TheVariants.{ArrayRange}
use Rattle.kernel_machine.proofs.Moves
use Rattle.kernel_machine.proofs.Places
use Rattle.kernel_machine.proofs.GivenFirst
use Rattle.kernel_machine.proofs.machine.Machine.braces.Goals as goal

pub returns-then-steps-self-clause-does : goal.returns-then-steps-self-clause-does
returns-then-steps-self-clause-does c =
    let many = Places.parts-many c.args.class.now.cells (tree_of c.args.class.now.cells c.args.node)
    c.node_at-braces.result c.node_at-braces.ensures.tree in
    GivenFirst.braces-limit (standing c.args.class.now c.args.self.now) c.args.of
    (tree_of c.args.class.now.cells c.args.node) c.args.self.now.state
    (rest c.args.class.now c.args.self.now) c.in-Some.rank (omega (
      arith,
      c.in-Some.ensures.0,
      c.in-Some.ensures.1,
    )) (omega (arith, many, c.if-count-gt-LONGEST.false)) (omega (
      arith,
      many,
      c.if-steps-self.true,
    ))

pub returns-then-count-gt-LONGEST-clause-does : goal.returns-then-count-gt-LONGEST-clause-does
returns-then-count-gt-LONGEST-clause-does c =
    let many = Places.parts-many c.args.class.now.cells (tree_of c.args.class.now.cells c.args.node)
    c.node_at-braces.result c.node_at-braces.ensures.tree in
    let at = GivenFirst.place-at c.args.class.now.cells (tree_of c.args.class.now.cells c.args.node)
    c.node_at-braces.result c.node_at-braces.ensures.tree in
    GivenFirst.braces-many (standing c.args.class.now c.args.self.now) c.args.of
    (tree_of c.args.class.now.cells c.args.node) c.args.self.now.state
    (rest c.args.class.now c.args.self.now) c.in-Some.rank (omega (arith, c.in-Some.ensures.0, c.in-Some.ensures.1))
    (omega (arith, many, c.if-count-gt-LONGEST.true))
    ∙ ap (λ n. Refused (ArrayRange n)) at

pub elements-requires-clause-many : goal.elements-requires-clause-many
elements-requires-clause-many c =
    let many = Places.parts-many c.args.class.now.cells (tree_of c.args.class.now.cells c.args.node)
    c.node_at-braces.result c.node_at-braces.ensures.tree in
    rw c.new.ensures (omega (arith, many, c.if-count-gt-LONGEST.false), omega (arith))

pub returns-clause-does : goal.returns-clause-does
returns-clause-does c =
    let many = Places.parts-many c.args.class.now.cells (tree_of c.args.class.now.cells c.args.node)
    c.node_at-braces.result c.node_at-braces.ensures.tree in
    Moves.leads-by c.args.class.now _ _ c.elements.result c.elements.new.self
    (GivenFirst.braces-go (standing c.args.class.now c.args.self.now) c.args.of
    (tree_of c.args.class.now.cells c.args.node) c.args.self.now.state
    (rest c.args.class.now c.args.self.now) c.in-Some.rank _ (omega (
      arith,
      c.in-Some.ensures.0,
      c.in-Some.ensures.1,
    )) (omega (arith, many, c.if-count-gt-LONGEST.false)) (omega (arith, many))
    (ap (λ n. c.args.self.now.state.left - n) (sym many))
    ∙ rw (c.new.ensures) refl)
    c.elements.ensures.does

pub returns-clause-falls : goal.returns-clause-falls
returns-clause-falls c =
    let many = Places.parts-many c.args.class.now.cells (tree_of c.args.class.now.cells c.args.node)
    c.node_at-braces.result c.node_at-braces.ensures.tree in
    let falls = rw c.new.ensures at c.elements.ensures.falls in
    Moves.costs-more c.args.class.now _ _ c.elements.result c.elements.new.self (omega (
      arith,
      many,
      c.if-steps-self.false,
    )) falls
