-- What is at a spot has its initial value.
use Rattle.std.proofs.Common.{◌∙◌, refl}
use Rattle.kernel_machine.proofs.Moves
use Rattle.kernel_machine.proofs.machine.Machine.initial_given.Goals as goal

pub returns-in_err-value-clause-does : goal.returns-in_err-value-clause-does
returns-in_err-value-clause-does c =
    Moves.leads-on c.args.class.now _ c.from_residual.result c.in_err-value.field-0.0
    c.args.self.now c.from_residual.ensures.0 c.from_residual.ensures.1
    (c.in_err-value.ensures c.args.self.now.state _)

pub returns-clause-does : goal.returns-clause-does
returns-clause-does c =
    Moves.leads-by c.args.class.now _ _ c.give.result c.give.new.self
    (c.in_ok-value.ensures.1 c.args.self.now.state _ ∙ rw c.store.ensures.is refl)
    c.give.ensures.does
