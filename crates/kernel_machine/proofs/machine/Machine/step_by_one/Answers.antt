-- One more or less.
use Rattle.std.proofs.Common.{◌∙◌, refl}
use Rattle.kernel_meaning.specs.Arrays.{content}
use Rattle.kernel_machine.specs.Going.{go, after}
use Rattle.kernel_machine.proofs.Moves
use Rattle.kernel_machine.proofs.Sets
use Rattle.kernel_machine.proofs.machine.Machine.step_by_one.Goals as goal

pub returns-clause-does : goal.returns-clause-does
unfolding go
returns-clause-does c =
    let b = c.args.statement.now in
    let pushed = c.in_ok-push.ensures.ok in
    Moves.leads-by c.args.class.now _ _ c.settle.result c.settle.new.self
    (Sets.stepped-by b.span.from b.word.now (content c.args.spot c.args.self.now.state) c.in_ok-old.old c.args.spot
    c.args.self.now.state c.stepped.new.state (after c.args.class.now c.args.self.now)
    c.in_ok-done.done.calls c.in_ok-done.done.value refl
    (λ then. c.in_ok-old.ensures.is.1 c.args.self.now.state then) c.in_ok-done.ensures.done
    ∙ rw (pushed) refl)
    c.settle.ensures.does

pub returns-in_err-old-clause-does : goal.returns-in_err-old-clause-does
returns-in_err-old-clause-does c =
    Sets.unset-on c.args.class.now c.args.statement.now.span.from
    (content c.args.spot c.args.self.now.state) c.args.self.now.state _ c.from_residual.result
    c.in_err-old.field-0.0 c.args.self.now c.from_residual.ensures.0 c.from_residual.ensures.1
    c.in_err-old.ensures.is
