-- A method of a value, or a path of the library.
use Rattle.std.proofs.Common.{◌≡◌, ◌+◌, ◌-◌, ◌∙◌, ap, sym, arith, length, drop}
use Rattle.std.proofs.lemmas.List.{length-drop, length-take}
use Rattle.kernel_meaning.specs.Names as Names
use Rattle.kernel_meaning.specs.Plans as Plans
use Rattle.kernel_plans.specs.Trees.{tree_of, trees_of}
use Rattle.kernel_plans.proofs.Calling.{dotted_call, no_path, is_path, kernel_path}
use Rattle.kernel_plans.proofs.Same.{same_plan, if_ok}
use Rattle.kernel_plans.proofs.calls.dotted_plan.Goals as goal

pub returns-then-not-is_path : goal.returns-then-not-is_path
returns-then-not-is_path c = λ scope m.
    let b = c.args.branch.now in
    let s = c.args.state.now in
    let p = c.part-base.ensures in
    let count = c.in_ok-count.count in
    let base = tree_of c.args.tree.now c.part-base.result in
    let children = b.children.now in
    let counted : count + 1 ≡ length children =
    omega (
      arith,
      c.in_ok-count.ensures,
      c.in-len1-up.len_at_least,
      length-drop 1 children,
      length-take (length children - 1) (drop 1 children),
    ) in
    let call = dotted_call scope s b.word.now b.span.from c.args.tree.now b.id b.children.now
    c.part-base.result count c.in-len1-up.len_at_least counted p.before p.missing in
    let none = c.root-root.ensures.path s
    ∙ (sym c.is_path.ensures ∙ c.if-not-is_path.true) in
    same_plan _ _ _ (call ∙ no_path scope.library s b.word.now b.span.from count base _ _ none)
    (c.method_plan.ensures scope.library m)

pub returns-else-manager : goal.returns-else-manager
returns-else-manager c = λ scope m.
    let b = c.args.branch.now in
    let s = c.args.state.now in
    let p = c.part-base.ensures in
    let count = c.in_ok-count.count in
    let base = tree_of c.args.tree.now c.part-base.result in
    let trees = trees_of c.args.tree.now b.id b.children.now in
    let children = b.children.now in
    let counted : count + 1 ≡ length children =
    omega (
      arith,
      c.in_ok-count.ensures,
      c.in-len1-up.len_at_least,
      length-drop 1 children,
      length-take (length children - 1) (drop 1 children),
    ) in
    let call = dotted_call scope s b.word.now b.span.from c.args.tree.now b.id b.children.now
    c.part-base.result count c.in-len1-up.len_at_least counted p.before p.missing in
    let some = c.root-root.ensures.path s
    ∙ (sym c.is_path.ensures ∙ c.if-not-is_path.false) in
    let path = is_path (Names.path_of s base) some in
    let rooted = ap Names.is_root c.root-root.ensures.word
    ∙ (sym c.is_root.ensures ∙ c.if-not-is_root.false) in
    let same = call ∙ (ap (Plans.dotted_plan scope.library s b.word.now b.span.from count base trees) path.1
    ∙ kernel_path scope.library s b.word.now b.span.from count base trees path.0 rooted
    (m ∙ c.if-manager.false)) in
    if_ok _ _ _ (λ plan h. same_plan _ _ plan same (h path.0 path.1)) c.path_plan.ensures
