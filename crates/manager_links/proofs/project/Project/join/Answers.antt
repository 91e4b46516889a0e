use Rattle.std.proofs.Common.{◌≡◌, true, subst}
use Rattle.manager_links.specs.Rules.{MeetsRules}
use Rattle.manager_links.proofs.project.Project.join.Goals as goal
use Rattle.manager_links.proofs.project.Project.join.Goals.{then-plan+in_ok-joints, else-plan+in_ok-joints-2}

pub returns-clause-rules : goal.returns-clause-rules
returns-clause-rules c =
    elim c.if-plan.branch [
      | then-plan+in_ok-joints w ↦
          subst (λ kernels. c.args.plan.manager ≡ true → MeetsRules c.args.plan kernels) w.as_slice.ensures.value
          w.in_ok-joints.ensures.ok.rules
      | else-plan+in_ok-joints-2 w ↦ λ manager. let none = w.if-plan.false in absurd (cc (none, manager))
    ]
