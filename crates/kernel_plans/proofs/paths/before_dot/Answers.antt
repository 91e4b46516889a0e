-- The tree before the dot is that of the only part.
use Rattle.std.proofs.Common.{◌∙◌, ap}
use Rattle.maxj_syntax.specs.Tree.{Node, Nil, Cons}
use Rattle.maxj_syntax.specs.declared.tree.NodeKind.TheVariants as N
use Rattle.kernel_plans.specs.Trees.{trees_of}
use Rattle.kernel_plans.proofs.Places.{only_part, several_undotted}
use Rattle.kernel_plans.proofs.paths.before_dot.Goals as goal

pub returns-then-branch-ne1-clause-none : goal.returns-then-branch-ne1-clause-none
returns-then-branch-ne1-clause-none c =
    let b = c.args.branch.now in
    several_undotted b.kind b.word.now b.span c.args.tree.now b.id b.children.now c.if-branch-ne1.true

pub returns-clause-some : goal.returns-clause-some
returns-clause-some c =
    let b = c.args.branch.now in
    let cells = c.args.tree.now in
    let p = c.part.ensures in
    let only = only_part cells b.id b.children.now c.part.result c.if-branch-ne1.false p.before p.missing in
    ap (λ k. Node k b.word.now b.span (trees_of cells b.id b.children.now)) c.in-Dot.is
    ∙ ap (Node N.Dot b.word.now b.span) (only ∙ ap (λ t. Cons t Nil) c.branch_at.ensures.tree)
