-- An initial value, or none.
use Rattle.std.proofs.Common.{◌∙◌, refl, arith}
use Rattle.kernel_plans.specs.Trees.{tree_of}
use Rattle.kernel_machine.specs.Going.{go, standing, after}
use Rattle.kernel_machine.proofs.Moves
use Rattle.kernel_machine.proofs.Places
use Rattle.kernel_machine.proofs.GivenFirst
use Rattle.kernel_machine.proofs.machine.Machine.initial.Goals as goal

pub returns-then-declaration-lt2-clause-does : goal.returns-then-declaration-lt2-clause-does
returns-then-declaration-lt2-clause-does c =
    Moves.leads-by c.args.class.now _ _ c.give.result c.give.new.self
    (GivenFirst.initial-none (standing c.args.class.now c.args.self.now) c.args.at c.args.of
    c.args.spot _ c.args.self.now.state (after c.args.class.now c.args.self.now)
    (Places.from-past c.args.class.now.cells c.args.declaration.now.id
    c.args.declaration.now.children.now 1 (omega arith)))
    c.give.ensures.does

pub returns-clause-does : goal.returns-clause-does
unfolding go
returns-clause-does c =
    let pushed = c.in_ok-push.ensures.ok in
    Moves.leads-by c.args.class.now _ _ c.value_of.result c.value_of.new.self
    (GivenFirst.initial-some (standing c.args.class.now c.args.self.now) c.args.at c.args.of
    c.args.spot _ _ (tree_of c.args.class.now.cells c.part-value.result) c.args.self.now.state
    (after c.args.class.now c.args.self.now)
    (c.part-value.ensures c.args.class.now.cells (omega arith))
    ∙ rw (pushed) refl)
    c.value_of.ensures.does
