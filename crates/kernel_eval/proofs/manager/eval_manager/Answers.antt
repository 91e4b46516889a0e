-- The manager's plan, or the one kernel.
use Rattle.std.proofs.Common.{sym, subst}
use Rattle.maxj_syntax.specs.Tree.{ClassesAre}
use Rattle.kernel_meaning.specs.Managers.{manager_run, plan_by}
use Rattle.kernel_eval.specs.Building.{IsAnswer}
use Rattle.kernel_eval.proofs.Making.{plans-answer}
use Rattle.kernel_eval.proofs.Planning.{some-manager, no-manager}
use Rattle.kernel_eval.proofs.manager.eval_manager.Goals as goal

pub returns-in-Some : goal.returns-in-Some
returns-in-Some c classes is =
    let own = subst (λ cs. ClassesAre c.args.program.now.tree cs classes)
    (sym c.as_slice-classes.ensures) is in
    let manager = some-manager c.args.program.now.tree c.as_slice-classes.result.now classes
    c.in-Some.manager.now own (sym c.in-Some.ensures) in
    subst (λ o. IsAnswer (plan_by classes o) c.plan_by.result) (sym manager.1)
    (plans-answer (manager_run classes manager.0) c.plan_by.result
    (c.plan_by.ensures classes manager.0 own manager.2))

pub returns-in-None : goal.returns-in-None
returns-in-None c classes is =
    let own = subst (λ cs. ClassesAre c.args.program.now.tree cs classes)
    (sym c.as_slice-classes.ensures) is in
    let none = no-manager c.args.program.now.tree c.as_slice-classes.result.now classes own
    (sym c.in-None.ensures) in
    subst (λ o. IsAnswer (plan_by classes o) c.plan_alone.result) (sym none)
    (c.plan_alone.ensures classes own none)
