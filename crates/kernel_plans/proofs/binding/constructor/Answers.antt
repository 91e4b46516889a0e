use Rattle.std.proofs.Common.{◌+◌, [], None, Ok, ap, sym, subst, ◌∙◌}
use Rattle.kernel_meaning.specs.Methods.{body_by}
use Rattle.kernel_plans.specs.Called.{IsBody, constructed}
use Rattle.kernel_plans.specs.Trees.{trees_of}
use Rattle.kernel_plans.proofs.Members.{wrong_count, right_count}
use Rattle.kernel_plans.proofs.binding.constructor.Goals as goal

pub returns-then-node-len-clause-body : goal.returns-then-node-len-clause-body
returns-then-node-len-clause-body c =
    let b = c.in-Some.node in
    ap (constructed c.args.args) c.in-Some.ensures
    ∙ wrong_count c.args.class.now.cells b.id b.children.now c.args.args b.span.from
    (λ e. c.if-node-len.true (e ∙ sym (ap (λ n. n + 1) c.len.ensures)))

pub returns-clause-body : goal.returns-clause-body
returns-clause-body c =
    let b = c.in-Some.node in
    let cells = c.args.class.now.cells in
    let args = c.args.args in
    subst (λ whole. IsBody cells whole c.body.result)
    (sym (ap (constructed args) c.in-Some.ensures
    ∙ right_count cells b.id b.children.now args b.span.from
    (c.if-node-len.false ∙ ap (λ n. n + 1) c.len.ensures)))
    (subst (λ l. IsBody l (body_by None b.span.from (trees_of l b.id b.children.now) args (Ok []))
    c.body.result) c.tree.ensures c.body.ensures.body)
