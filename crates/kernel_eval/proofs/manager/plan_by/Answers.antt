-- The kernels are those of the source, and the class is the manager's.
use Rattle.std.proofs.Common.{subst}
use Rattle.kernel_eval.specs.Building.{Plans}
use Rattle.kernel_eval.proofs.Planning.{manager-run}
use Rattle.kernel_eval.proofs.manager.plan_by.Goals as goal

pub returns : goal.returns
returns c trees class are is =
    subst (λ run. Plans run c.plan_with.result)
    (manager-run c.args.tree.now c.args.manager.now trees class _ is
    (c.in_ok-kernels.ensures c.args.tree.now trees are))
    c.plan_with.ensures
