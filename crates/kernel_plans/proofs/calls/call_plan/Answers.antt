-- A method of the own class, or a name of the library.
use Rattle.std.proofs.Common.{◌∙◌}
use Rattle.kernel_plans.proofs.Calling.{own_call, library_call, named_by_manager, named_by_kernel}
use Rattle.kernel_plans.proofs.Same.{same_plan, if_ok}
use Rattle.kernel_plans.proofs.calls.call_plan.Goals as goal

pub returns-in-Some : goal.returns-in-Some
returns-in-Some c = λ scope m given.
    let b = c.args.branch.now in
    let own = own_call scope c.args.state.now b.word.now b.span.from c.args.tree.now b.id b.children.now
    c.in-Some.params c.in_ok-count.count (given ∙ c.in-Some.is) c.in_ok-count.ensures in
    if_ok _ _ _ (λ plan h. same_plan _ _ plan own h) c.own_plan.ensures

pub returns-then-manager : goal.returns-then-manager
returns-then-manager c = λ scope m given.
    let b = c.args.branch.now in
    let s = c.args.state.now in
    let call = library_call scope s b.word.now b.span.from c.args.tree.now b.id b.children.now
    c.in_ok-count.count (given ∙ c.in_default.is) c.in_ok-count.ensures in
    let named = named_by_manager scope.library s b.word.now b.span.from c.in_ok-count.count _ _ _
    (m ∙ c.if-manager.true) (c.as_bytes.ensures ∙ c.in_ok-sign.ensures) c.is_new_part-adds.ensures in
    same_plan _ _ _ (call ∙ named) c.manager_plan.ensures

pub returns : goal.returns
returns c = λ scope m given.
    let b = c.args.branch.now in
    let s = c.args.state.now in
    let call = library_call scope s b.word.now b.span.from c.args.tree.now b.id b.children.now
    c.in_ok-count.count (given ∙ c.in_default.is) c.in_ok-count.ensures in
    let named = named_by_kernel scope.library s b.word.now b.span.from c.in_ok-count.count _ _
    (m ∙ c.if-manager.false) (c.as_bytes-else-manager.ensures ∙ c.in_ok-sign.ensures) in
    same_plan _ _ _ (call ∙ named) c.type_plan.ensures
