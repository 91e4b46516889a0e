-- The operand is the only part.
use Rattle.std.proofs.Common.{◌∙◌, ap, sym}
use Rattle.maxj_syntax.specs.Tree.{Node, Nil, Cons}
use Rattle.kernel_meaning.specs.Plans as Plans
use Rattle.kernel_plans.specs.Trees.{trees_of}
use Rattle.kernel_plans.proofs.Places.{only_part, several_least, other_least}
use Rattle.kernel_plans.proofs.plan.is_least.Goals as goal

pub returns-then-branch-ne1 : goal.returns-then-branch-ne1
returns-then-branch-ne1 c =
    let b = c.args.branch.now in
    sym (several_least b.word.now c.args.tree.now b.id b.children.now c.if-branch-ne1.true)

pub returns-in-Whole : goal.returns-in-Whole
returns-in-Whole c =
    let b = c.args.branch.now in
    let cells = c.args.tree.now in
    let p = c.part.ensures in
    let found = c.branch_at-operand.result in
    let only = only_part cells b.id b.children.now c.part.result c.if-branch-ne1.false p.before p.missing in
    c.are_least.ensures ∙ sym (ap (Plans.is_least b.word.now) (only
    ∙ ap (λ t. Cons t Nil) c.branch_at-operand.ensures.tree)
    ∙ ap (λ k. Plans.is_least b.word.now (Cons (Node k found.word.now found.span
    (trees_of cells found.id found.children.now)) Nil)) c.in-Whole.is)

pub returns-in_default : goal.returns-in_default
returns-in_default c =
    let b = c.args.branch.now in
    let cells = c.args.tree.now in
    let p = c.part.ensures in
    let only = only_part cells b.id b.children.now c.part.result c.if-branch-ne1.false p.before p.missing in
    sym (ap (Plans.is_least b.word.now) (only ∙ ap (λ t. Cons t Nil) c.branch_at-operand.ensures.tree)
    ∙ other_least b.word.now _ _ _ _ c.in_default.not-Whole)
