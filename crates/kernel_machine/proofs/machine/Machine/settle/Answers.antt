-- The calls of a row come first.
use Rattle.kernel_machine.specs.Going.{rest}
use Rattle.kernel_machine.proofs.Moves.{calls-first}
use Rattle.kernel_machine.proofs.machine.Machine.settle.Goals as goal

pub returns-clause-does : goal.returns-clause-does
returns-clause-does c =
    calls-first c.args.done.calls c.args.done.value c.args.self.now.state
    (rest c.args.class.now c.args.self.now)
