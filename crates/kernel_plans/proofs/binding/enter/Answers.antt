use Rattle.std.proofs.Common.{◌≡◌, [], Ok, drop, ap, sym, subst, ◌∙◌}
use Rattle.kernel_meaning.specs.Methods as Methods
use Rattle.kernel_meaning.specs.Nodes.{tree_at}
use Rattle.kernel_plans.specs.Called.{IsBody}
use Rattle.kernel_plans.specs.Classes.{members}
use Rattle.kernel_plans.specs.Trees.{trees_of}
use Rattle.kernel_plans.proofs.Members.{method_parts}
use Rattle.kernel_plans.proofs.binding.enter.Goals as goal

pub returns-in-Err-clause-body : goal.returns-in-Err-clause-body
returns-in-Err-clause-body c =
    let a = c.args in
    let b = c.branch_at-node.result in
    let m = c.in-Some.ensures in
    let parts = method_parts c.tree-tree.result.now b.kind b.word.now b.span b.id b.children.now
    c.part.result m.word m.span m.result m.rest
    (sym c.branch_at-node.ensures.tree
    ∙ (ap (λ l. tree_at l c.in-Some.method) c.tree-tree.ensures ∙ m.tree))
    c.part.ensures.before c.part.ensures.missing in
    ap (Methods.entered a.at a.values) m.first
    ∙ ap (Methods.entered_by a.at m.rest a.values)
    (ap Methods.result_by parts.0 ∙ (sym c.result_of.ensures ∙ c.in-Err.is))

pub returns-clause-body : goal.returns-clause-body
returns-clause-body c =
    let a = c.args in
    let tree = c.tree-tree.result.now in
    let b = c.branch_at-node.result in
    let m = c.in-Some.ensures in
    let wanted = c.in-Ok.wanted in
    let parts = method_parts tree b.kind b.word.now b.span b.id b.children.now c.part.result m.word
    m.span m.result m.rest
    (sym c.branch_at-node.ensures.tree
    ∙ (ap (λ l. tree_at l c.in-Some.method) c.tree-tree.ensures ∙ m.tree))
    c.part.ensures.before c.part.ensures.missing in
    let whole : Methods.entered a.at a.values (Methods.method_of a.name.now (members a.class.now))
    ≡ Methods.body_by wanted a.at (trees_of tree b.id (drop 1 b.children.now)) a.values (Ok []) =
    ap (Methods.entered a.at a.values) m.first
    ∙ ap (Methods.entered_by a.at m.rest a.values)
    (ap Methods.result_by parts.0 ∙ (sym c.result_of.ensures ∙ c.in-Ok.is))
    ∙ ap (λ t. Methods.body_by wanted a.at t a.values (Ok [])) parts.1 in
    subst (λ l. IsBody l (Methods.entered a.at a.values (Methods.method_of a.name.now
    (members a.class.now))) c.body.result) c.tree-tree.ensures
    (subst (λ body. IsBody tree body c.body.result) (sym whole) c.body.ensures.body)
