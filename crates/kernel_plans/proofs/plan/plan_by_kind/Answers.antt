-- A new array.
use Rattle.std.proofs.Common.{ap}
use Rattle.kernel_meaning.specs.Plans as Plans
use Rattle.kernel_plans.specs.Trees.{trees_of}
use Rattle.kernel_plans.proofs.Same.{same_plan, if_ok}
use Rattle.kernel_plans.proofs.plan.plan_by_kind.Goals as goal

pub returns-in-NewArray : goal.returns-in-NewArray
returns-in-NewArray c = λ scope m given.
    let b = c.args.branch.now in
    let s = c.args.state.now in
    let same = ap (λ k. Plans.plan_of scope s k b.word.now b.span.from
    (trees_of c.args.tree.now b.id b.children.now)) c.in-NewArray.is in
    if_ok _ _ _ (λ plan h. same_plan _ _ plan same h) (c.array_plan.ensures scope s)
