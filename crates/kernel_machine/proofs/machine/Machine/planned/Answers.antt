-- An expression goes by its plan.
use Rattle.kernel_machine.proofs.Moves
use Rattle.kernel_machine.proofs.machine.Machine.planned.Goals as goal

pub returns-in-Reads-clause-does : goal.returns-in-Reads-clause-does
returns-in-Reads-clause-does c =
    Moves.leads-by c.args.class.now _ _ c.operands.result c.operands.new.self
    (Moves.planned-reads c.args.class.now c.args.self.now c.args.part c.args.expression.now
    c.in-Reads.row
    c.in-Reads.from c.in-Reads.count c.requires.tree (rw c.in-Reads.is at
    c.in_ok-error.ensures.plan))
    (rw c.new-values.ensures at c.operands.ensures.does)
