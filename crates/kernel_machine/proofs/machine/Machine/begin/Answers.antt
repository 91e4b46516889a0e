-- A run begins.
use Rattle.std.proofs.Common.{◌∙◌, refl}
use Rattle.kernel_meaning.specs.Constructors.{ctor_of, step_limit}
use Rattle.kernel_plans.specs.Classes.{library_of, members}
use Rattle.kernel_machine.specs.Going.{go, back_of}
use Rattle.kernel_machine.proofs.Begun.{run-begun}
use Rattle.kernel_machine.proofs.machine.Machine.begin.Goals as goal

pub returns-clause-begins : goal.returns-clause-begins
unfolding go back_of
returns-clause-begins c = λ args is.
    run-begun (library_of c.args.class.now.library) (members c.args.class.now) args c.args.values
    step_limit (ctor_of (members c.args.class.now)) _ is c.in-Ok.ensures.body
    ∙ rw (
      c.tasks.view_is,
      c.in_ok-push.ensures.ok,
      c.new-tasks.ensures,
      c.new.ensures,
      c.in_ok-start.ensures.is,
    ) refl
