-- What is left is kept.
use Rattle.kernel_machine.proofs.Moves.{kept-left}
use Rattle.kernel_machine.proofs.machine.Machine.leave_variables.Goals as goal

pub returns-in-Some-clause-kept : goal.returns-in-Some-clause-kept
returns-in-Some-clause-kept c =
    rw c.keep.ensures (kept-left c.in-Some.count c.args.self.now.state c.requires.kept)
