-- `?:` by a stream goes on with its first branch.
use Rattle.std.proofs.Common.{refl}
use Rattle.kernel_meaning.specs.Run.{expr}
use Rattle.kernel_machine.specs.Going.{go}
use Rattle.kernel_machine.proofs.machine.Machine.chosen.Goals as goal

pub returns-in_ok-push-in-Stream-clause-does : goal.returns-in_ok-push-in-Stream-clause-does
unfolding go expr
returns-in_ok-push-in-Stream-clause-does c =
    let pushed = c.in_ok-push-in-Stream.ensures.ok in
    rw (pushed, c.in-Stream.is) refl
