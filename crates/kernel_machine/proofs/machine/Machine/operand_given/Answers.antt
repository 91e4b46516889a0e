-- An operand has its value.
use Rattle.std.proofs.Common.{◌∙◌, refl}
use Rattle.kernel_machine.proofs.Moves
use Rattle.kernel_machine.proofs.Sets
use Rattle.kernel_machine.proofs.machine.Machine.operand_given.Goals as goal

pub returns-in-Ok-clause-does : goal.returns-in-Ok-clause-does
returns-in-Ok-clause-does c =
    Moves.leads-by c.args.class.now _ _ c.operands.result c.operands.new.self
    (c.in-Ok.ensures.more.1 c.args.self.now.state _ ∙ rw (c.in-Ok.ensures.more.0) refl)
    c.operands.ensures.does

pub returns-in-Err-clause-does : goal.returns-in-Err-clause-does
returns-in-Err-clause-does c =
    Sets.unset c.args.class.now c.args.at c.args.value c.args.self.now.state _ c.in-Err.error _
    c.in-Err.ensures.more
