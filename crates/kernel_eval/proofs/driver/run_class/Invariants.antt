-- The builder is on its way through the run, and each step costs something.
use Rattle.kernel_machine.specs.Falls.{load}
use Rattle.kernel_machine.specs.Fit.{IsFitMachine}
use Rattle.kernel_machine.specs.Going.{answer_of}
use Rattle.kernel_eval.specs.Runs.{run_in}
use Rattle.kernel_eval.proofs.Way.{IsOnWay}
use Rattle.kernel_eval.proofs.driver.run_class.Given as goal

abbrev pub invariant-loop-vars : goal.invariant-loop-vars
invariant-loop-vars g l = record {
  way :
      IsOnWay g.B.Builder.has_room g.B.Builder.receives g.B.Builder.made
      g.B.Var.Numbered.number l.fn.builder (run_in l.class l.fn.args) l.builder l.vars.items
      (answer_of l.class l.machine);
  fit : IsFitMachine l.class l.machine;
}

abbrev pub decreases-loop-vars : goal.decreases-loop-vars
decreases-loop-vars g l = load l.class l.machine
