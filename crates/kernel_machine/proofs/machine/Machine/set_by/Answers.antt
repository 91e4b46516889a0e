-- With a value.
use Rattle.std.proofs.Common.{◌∙◌, refl, sym}
use Rattle.kernel_plans.specs.Trees.{tree_of}
use Rattle.kernel_meaning.specs.Arrays.{content}
use Rattle.kernel_machine.specs.Going.{standing, after}
use Rattle.kernel_machine.proofs.Moves
use Rattle.kernel_machine.proofs.Places
use Rattle.kernel_machine.proofs.GivenFirst
use Rattle.kernel_machine.proofs.Sets
use Rattle.kernel_machine.proofs.machine.Machine.set_by.Goals as goal

pub returns-then-is_plain-clause-does : goal.returns-then-is_plain-clause-does
returns-then-is_plain-clause-does c =
    let two = Places.second-of-two c.args.class.now.cells c.args.statement.now c.part-value.result
    c.requires.two c.part-value.ensures in
    Moves.leads-by c.args.class.now _ _ c.assign.result c.assign.new.self
    (Sets.set-plain c.args.class.now.cells (standing c.args.class.now c.args.self.now) (tree_of c.args.class.now.cells c.args.node)
    c.args.statement.now two.0 (tree_of c.args.class.now.cells c.part-value.result) c.args.spot
    c.args.self.now.state (after c.args.class.now c.args.self.now) c.requires.tree two.1
    (sym c.if-is_plain.ensures))
    c.assign.ensures.does

pub returns-in-Ok-clause-does : goal.returns-in-Ok-clause-does
returns-in-Ok-clause-does c =
    let two = Places.second-of-two c.args.class.now.cells c.args.statement.now c.part-value.result
    c.requires.two c.part-value.ensures in
    let at = GivenFirst.place-at c.args.class.now.cells (tree_of c.args.class.now.cells c.args.node) c.args.statement.now c.requires.tree in
    let word = Sets.word-at c.args.class.now.cells (tree_of c.args.class.now.cells c.args.node) c.args.statement.now c.requires.tree in
    Moves.leads-by c.args.class.now _ _ c.read_before.result c.read_before.new.self
    (Sets.set-compound c.args.class.now.cells (standing c.args.class.now c.args.self.now) (tree_of c.args.class.now.cells c.args.node)
    c.args.statement.now two.0 (tree_of c.args.class.now.cells c.part-value.result) c.args.spot
    (content c.args.spot c.args.self.now.state) c.in-Ok.old c.args.self.now.state
    (after c.args.class.now c.args.self.now) c.requires.tree two.1 (sym c.if-is_plain.ensures) refl
    (λ then. c.in-Ok.ensures.is.1 c.args.self.now.state then)
    ∙ rw (at, word) refl)
    c.read_before.ensures.does

pub returns-in-Err-clause-does : goal.returns-in-Err-clause-does
returns-in-Err-clause-does c =
    let two = Places.second-of-two c.args.class.now.cells c.args.statement.now c.part-value.result
    c.requires.two c.part-value.ensures in
    Sets.set-by-unset c.args.class.now (standing c.args.class.now c.args.self.now)
    (tree_of c.args.class.now.cells c.args.node) c.args.statement.now two.0
    (tree_of c.args.class.now.cells c.part-value.result) c.args.spot c.args.self.now.state
    (after c.args.class.now c.args.self.now) c.in-Err.error _ c.requires.tree two.1
    (sym c.if-is_plain.ensures) c.in-Err.ensures.is
