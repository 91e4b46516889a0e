-- A missing part is no new object.
use Rattle.std.proofs.Common.{◌∙◌, Some, refl, ap, sym}
use Rattle.maxj_syntax.specs.Tree.{Node}
use Rattle.kernel_meaning.specs.Plans as Plans
use Rattle.kernel_plans.specs.Trees.{trees_of}
use Rattle.kernel_plans.proofs.Places.{part_is, said_alike, other_new}
use Rattle.kernel_plans.proofs.calls.is_new_part.Goals as goal

pub returns-in-New : goal.returns-in-New
returns-in-New c =
    let b = c.args.branch.now in
    let p = c.part.ensures in
    let found = c.branch_at.result in
    let part = part_is c.args.tree.now b.id b.children.now 0 c.part.result p.past p.before p.missing in
    let alike = said_alike Plans.is_new refl c.args.tree.now c.part.result _ part in
    sym (alike ∙ (ap (λ t. Plans.is_new (Some t)) c.branch_at.ensures.tree
    ∙ ap (λ k. Plans.is_new (Some (Node k found.word.now found.span
    (trees_of c.args.tree.now found.id found.children.now)))) c.in-New.is))

pub returns-in_default : goal.returns-in_default
returns-in_default c =
    let b = c.args.branch.now in
    let p = c.part.ensures in
    let part = part_is c.args.tree.now b.id b.children.now 0 c.part.result p.past p.before p.missing in
    let alike = said_alike Plans.is_new refl c.args.tree.now c.part.result _ part in
    sym (alike ∙ (ap (λ t. Plans.is_new (Some t)) c.branch_at.ensures.tree
    ∙ other_new _ _ _ _ c.in_default.not-New))
