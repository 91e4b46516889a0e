-- A step of the run that is refused.
use Rattle.std.proofs.Common.{[]}
use Rattle.kernel_machine.specs.Going.{answer_of}
use Rattle.kernel_eval.specs.Runs.{run_in}
use Rattle.kernel_eval.proofs.Way.{plan_handed}
use Rattle.kernel_eval.proofs.manager.run_manager.Goals as goal

pub returns-in_err-step : goal.returns-in_err-step
returns-in_err-step c =
    let class = c.args.class.now in
    let r = c.from_residual-in_err-step in
    plan_handed class (answer_of class c.loop-machine.machine) (run_in class []) r.result
    c.in_err-step.field-0.0 c.step.new.self c.loop-machine.invariant.plan
    c.in_err-step.ensures.does r.ensures.0 r.ensures.1
