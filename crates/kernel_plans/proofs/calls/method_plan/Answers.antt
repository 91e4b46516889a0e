-- A missing part isn't `this`.
use Rattle.std.proofs.Common.{◌∙◌, refl, ap, sym}
use Rattle.kernel_meaning.specs.Plans as Plans
use Rattle.kernel_plans.proofs.Calling.{method_of_kernel}
use Rattle.kernel_plans.proofs.Places.{part_is, said_alike}
use Rattle.kernel_plans.proofs.Same.{same_plan}
use Rattle.kernel_plans.proofs.calls.method_plan.Goals as goal

pub returns-else-manager : goal.returns-else-manager
returns-else-manager c = λ library m.
    let b = c.args.branch.now in
    let p = c.part.ensures in
    let part = part_is c.args.tree.now b.id b.children.now 1 c.part.result p.past p.before p.missing in
    let alike = said_alike Plans.is_this_part refl c.args.tree.now c.part.result _ part in
    same_plan _ _ _ (method_of_kernel library b.word.now b.span.from c.args.count _ (m ∙ c.if-manager.false)
    ∙ ap (Plans.stream_method_plan b.word.now b.span.from c.args.count) (alike ∙ sym c.is_this.ensures))
    c.stream_method_plan.ensures
