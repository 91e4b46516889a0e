-- A compound assignment goes on with the operator.
use Rattle.std.proofs.Common.{◌∙◌, refl}
use Rattle.kernel_plans.specs.Trees.{tree_of}
use Rattle.kernel_machine.specs.Going.{go, after}
use Rattle.kernel_machine.proofs.Moves
use Rattle.kernel_machine.proofs.GivenFirst
use Rattle.kernel_machine.proofs.Sets
use Rattle.kernel_machine.proofs.machine.Machine.combine.Goals as goal

pub returns-clause-does : goal.returns-clause-does
unfolding go
returns-clause-does c =
    let tree = c.node_at-statement.ensures.tree in
    let b = c.node_at-statement.result in
    let cells = c.args.class.now.cells in
    let pushed = c.in_ok-push.ensures.ok in
    let at = GivenFirst.place-at cells (tree_of cells c.args.node) b tree in
    let word = Sets.word-at cells (tree_of cells c.args.node) b tree in
    let by = Sets.combine-by b.span.from b.word.now c.args.old c.args.value c.in_ok-value.value
    c.args.spot c.args.self.now.state c.combined.new.state (after c.args.class.now c.args.self.now)
    c.in_ok-done.done.calls c.in_ok-done.done.value
    (λ then. c.in_ok-value.ensures.1 c.args.self.now.state then) c.in_ok-done.ensures.done in
    Moves.leads-by c.args.class.now _ _ c.settle.result c.settle.new.self
    (Sets.combine-at _ _ _ _ c.args.old c.args.value c.args.spot c.args.self.now.state
    (after c.args.class.now c.args.self.now) at word
    ∙ by ∙ rw (pushed) refl)
    c.settle.ensures.does
