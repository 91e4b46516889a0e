use Rattle.std.proofs.Common.{rules, ◌≡◌, ap, ◌∙◌}
use Rattle.maxj_syntax.specs.declared.tree.NodeKind.TheVariants as N
use Rattle.kernel_plans.specs.Trees.{tree_of}
use Rattle.kernel_plans.proofs.MethodTables.{put_method}
use Rattle.kernel_plans.proofs.methods.Methods.put.Goals as goal

pub returns : goal.returns
returns c = λ members old name.
    let cells = c.args.tree.now in
    let b = c.branch_at-method.result in
    let k : b.kind ≡ N.Method = search rules in
    put_method cells members c.in-Some.node c.saturating_sub-params.result b.kind b.word.now b.span
    b.id b.children.now c.args.self.now (record { by_name = c.insert.new.self }) name
    (tree_of cells c.args.member) (ap (tree_of cells) c.in-Some.is)
    (ap (tree_of cells) c.in-Some.is ∙ c.branch_at-method.ensures.tree) k
    c.if-parts-eq0.false c.saturating_sub-params.ensures
    (c.in_ok-insert.ensures.updates.0 (record { ref_ptr = b.word.ref_ptr; now = name })) (old name)
