-- What is left of the run ends with the plan of the run, and each step costs something.
use Rattle.std.proofs.Common.{◌≡◌, []}
use Rattle.kernel_meaning.specs.Answer.{plan_at_end}
use Rattle.kernel_machine.specs.Falls.{load}
use Rattle.kernel_machine.specs.Fit.{IsFitMachine}
use Rattle.kernel_machine.specs.Going.{answer_of}
use Rattle.kernel_eval.specs.Runs.{run_in}
use Rattle.kernel_eval.proofs.manager.run_manager.Given as goal

abbrev pub invariant-loop-machine : goal.invariant-loop-machine
invariant-loop-machine l = record {
  plan :
      plan_at_end (answer_of l.class l.machine) ≡ plan_at_end (run_in l.class []);
  fit : IsFitMachine l.class l.machine;
}

abbrev pub decreases-loop-machine : goal.decreases-loop-machine
decreases-loop-machine l = load l.class l.machine
