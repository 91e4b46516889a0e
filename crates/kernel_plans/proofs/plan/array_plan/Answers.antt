-- The first part says the type, and the others are the sizes.
use Rattle.std.proofs.Common.{◌≡◌, ◌+◌, ◌-◌, ◌∙◌, ap, sym, arith, length, drop}
use Rattle.std.proofs.lemmas.List.{length-drop, length-take}
use Rattle.kernel_meaning.specs.Plans as Plans
use Rattle.kernel_plans.proofs.Calling.{array_call}
use Rattle.kernel_plans.proofs.plan.array_plan.Goals as goal

pub returns-in-Ok : goal.returns-in-Ok
returns-in-Ok c = λ scope s.
    let b = c.args.branch.now in
    let p = c.part.ensures in
    let count = c.in_ok-count.count in
    let children = b.children.now in
    let counted : count + 1 ≡ length children =
    omega (
      arith,
      c.in_ok-count.ensures,
      c.in-len1-up.len_at_least,
      length-drop 1 children,
      length-take (length children - 1) (drop 1 children),
    ) in
    array_call scope s b.word.now b.span.from c.args.tree.now b.id children c.part.result count
    c.in-len1-up.len_at_least counted p.before p.missing
    ∙ ap (λ d. Plans.array_plan d count) (sym c.declared_by.ensures ∙ c.in-Ok.is)
