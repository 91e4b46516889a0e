-- The plan is that of the meaning, which is fit.
use Rattle.std.proofs.Common.{ap, sym}
use Rattle.kernel_meaning.specs.Plans as Plans
use Rattle.kernel_plans.specs.Classes.{scope}
use Rattle.kernel_plans.specs.Trees.{trees_of}
use Rattle.kernel_plans.proofs.FitPlans.{fit_alike, fit_plan}
use Rattle.kernel_plans.proofs.Same.{same_plan}
use Rattle.kernel_plans.proofs.plan.plan_of.Goals as goal

pub returns-clause-plan : goal.returns-clause-plan
returns-clause-plan c =
    let b = c.args.branch.now in
    let class = c.args.class.now in
    let told = c.in_ok-plan.ensures (scope class) (sym c.is_manager.ensures)
    (λ e. sym (c.called_params-params.ensures e)) in
    let same = ap (λ cells. Plans.plan_of (scope class) c.args.state.now b.kind b.word.now b.span.from
    (trees_of cells b.id b.children.now)) (sym c.tree.ensures) in
    same_plan _ _ c.in_ok-plan.plan same told

pub returns-clause-fit : goal.returns-clause-fit
returns-clause-fit c =
    let b = c.args.branch.now in
    let class = c.args.class.now in
    let meant = fit_plan (scope class) c.args.state.now b.kind b.word.now b.span.from
    (trees_of class.cells b.id b.children.now) c.requires.within c.requires.variables
    c.requires.fields in
    let told = c.in_ok-plan.ensures (scope class) (sym c.is_manager.ensures)
    (λ e. sym (c.called_params-params.ensures e)) in
    let same = ap (λ cells. Plans.plan_of (scope class) c.args.state.now b.kind b.word.now b.span.from
    (trees_of cells b.id b.children.now)) (sym c.tree.ensures) in
    fit_alike _ c.in_ok-plan.plan (same_plan _ _ c.in_ok-plan.plan same told) meant.fits
