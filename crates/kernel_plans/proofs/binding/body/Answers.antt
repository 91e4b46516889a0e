use Rattle.std.proofs.Common.{rules, ◌≡◌, ◌<◌, ◌≤◌, ◌+◌, suc, [], ◌∷◌, length, drop, Ok, ap, sym, subst, ◌∙◌, arith}
use Rattle.std.specs.Vec.Iter.{into_iter_items, into_iter_len}
use Rattle.std.proofs.Math.ListN.{drop_of_length-le}
use Rattle.std.proofs.lemmas.List.{length-drop}
use Rattle.maxj_syntax.specs.Tree.{Nil, Cons}
use Rattle.kernel_meaning.specs.Methods.{body_by}
use Rattle.kernel_rows.specs.Fit.{AreFit}
use Rattle.kernel_rows.specs.Kept.{AreBoundFit}
use Rattle.kernel_plans.specs.Trees.{tree_of, trees_of, branch_tree}
use Rattle.kernel_plans.proofs.Parameters.{ended, no_length, refused, handed_on}
use Rattle.kernel_plans.proofs.Parts.{next_part}
use Rattle.kernel_plans.proofs.binding.body.Goals as goal

pub loop-value-init : goal.loop-value-init
loop-value-init c =
    let items : into_iter_items c.into_iter-value-iterator.result ≡ c.args.values = search rules in
    let of = c.args.callee.now in
    let first = trees_of c.args.tree.now of.node.id (drop of.first of.node.children.now) in (
      ap (λ vs. body_by of.wanted c.args.user first vs (Ok c.new-variables.result)) items
          ∙ ap (λ vs. body_by of.wanted c.args.user first c.args.values (Ok vs)) c.new-variables.ensures,
      c.requires.first,
      subst AreFit (sym items) c.requires.fit,
      subst AreBoundFit (sym c.new-variables.ensures) tt,
      search rules,
    )

pub returns-then-place-node-clause-body : goal.returns-then-place-node-clause-body
returns-then-place-node-clause-body c =
    let of = c.args.callee.now in
    let node = of.node in
    let cells = c.args.tree.now in
    let it = c.loop-value.value-iterator in
    sym c.loop-value.invariant.0
    ∙ (ap (λ l. body_by of.wanted c.args.user (trees_of cells node.id l) (into_iter_items it)
    (Ok c.loop-value.variables)) (drop_of_length-le node.children.now c.if-place-node.true)
    ∙ ap (λ vs. body_by of.wanted c.args.user Nil vs (Ok c.loop-value.variables))
    c.in-Some.ensures.steps.0)

pub bind-requires-clause-value : goal.bind-requires-clause-value
bind-requires-clause-value c =
    let fit = subst AreFit c.in-Some.ensures.steps.0 c.loop-value.invariant.2 in
    fit.0

pub bind-requires-clause-fit : goal.bind-requires-clause-fit
bind-requires-clause-fit c = c.loop-value.invariant.3

pub returns-in_err-bind-clause-body : goal.returns-in_err-bind-clause-body
returns-in_err-bind-clause-body c =
    let of = c.args.callee.now in
    let node = of.node in
    let cells = c.args.tree.now in
    let place = c.loop-value.place in
    let vars = c.loop-value.variables in
    let rest = trees_of cells node.id (drop (suc place) node.children.now) in
    let tree = branch_tree cells c.branch_at-parameter.result in
    let value = c.in-Some.value in
    let left = into_iter_items c.next.new.self in
    let whole = body_by of.wanted c.args.user
    (trees_of cells node.id (drop of.first node.children.now)) c.args.values (Ok []) in
    let here : whole ≡ body_by of.wanted c.args.user (Cons tree rest) (value ∷ left) (Ok vars) =
    sym c.loop-value.invariant.0
    ∙ (ap (λ ts. body_by of.wanted c.args.user ts (into_iter_items c.loop-value.value-iterator)
    (Ok vars))
    (next_part cells node.id node.children.now place c.part.result c.if-place-node.false
    c.part.ensures.before c.part.ensures.missing)
    ∙ (ap (λ vs. body_by of.wanted c.args.user (Cons (tree_of cells c.part.result) rest) vs (Ok vars))
    c.in-Some.ensures.steps.0
    ∙ ap (λ t. body_by of.wanted c.args.user (Cons t rest) (value ∷ left) (Ok vars))
    c.branch_at-parameter.ensures.tree)) in
    handed_on cells whole c.from_residual.result c.in_err-bind.field-0.0 c.from_residual.ensures.0
    c.from_residual.ensures.1
    (refused cells whole of.wanted c.args.user tree rest value left vars c.bind.new.variables
    c.in_err-bind.field-0.0 here c.in_err-bind.ensures.bound)

pub loop-value-preserved : goal.loop-value-preserved
loop-value-preserved c =
    let of = c.args.callee.now in
    let node = of.node in
    let cells = c.args.tree.now in
    let place = c.loop-value.place in
    let vars = c.loop-value.variables in
    let rest = trees_of cells node.id (drop (suc place) node.children.now) in
    let tree = branch_tree cells c.branch_at-parameter.result in
    let value = c.in-Some.value in
    let left = into_iter_items c.next.new.self in
    let fit = subst AreFit c.in-Some.ensures.steps.0 c.loop-value.invariant.2 in
    let more : place + 1 ≡ suc place = omega arith in
    let count = ap length c.in-Some.ensures.steps.0 in
    let counted : into_iter_len c.next.new.self ≡ length left =
    omega (arith, count, c.in-Some.ensures.steps.1, c.loop-value.invariant.4) in (
      ap (λ p. body_by of.wanted c.args.user (trees_of cells node.id (drop p node.children.now)) left
          (Ok c.bind.new.variables)) more
          ∙ (sym (c.in_ok-bind.ensures.bound of.wanted rest left)
          ∙ (ap (λ t. body_by of.wanted c.args.user (Cons t rest) (value ∷ left) (Ok vars))
          (sym c.branch_at-parameter.ensures.tree)
          ∙ (ap (λ vs. body_by of.wanted c.args.user (Cons (tree_of cells c.part.result) rest) vs (Ok vars))
          (sym c.in-Some.ensures.steps.0)
          ∙ (ap (λ ts. body_by of.wanted c.args.user ts (into_iter_items c.loop-value.value-iterator)
          (Ok vars))
          (sym (next_part cells node.id node.children.now place c.part.result c.if-place-node.false
          c.part.ensures.before c.part.ensures.missing)) ∙ c.loop-value.invariant.0)))),
      omega (arith, c.if-place-node.false),
      fit.1,
      c.in_ok-bind.ensures.fit,
      counted,
    )

pub returns-then-left-ne1-clause-body : goal.returns-then-left-ne1-clause-body
returns-then-left-ne1-clause-body c =
    let of = c.args.callee.now in
    let node = of.node in
    let cells = c.args.tree.now in
    let place = c.loop-value.place in
    let none : into_iter_items c.loop-value.value-iterator ≡ [] =
    no_length (into_iter_items c.loop-value.value-iterator)
    (sym c.loop-value.invariant.4 ∙ c.in-None.ensures.steps.0) in
    sym c.loop-value.invariant.0
    ∙ (ap (λ vs. body_by of.wanted c.args.user
    (trees_of cells node.id (drop place node.children.now)) vs (Ok c.loop-value.variables)) none
    ∙ ended cells node.id (drop place node.children.now) of.wanted c.args.user
    c.loop-value.variables (λ e. c.if-left-ne1.true (sym (length-drop place node.children.now) ∙ e)))

pub returns-clause-body : goal.returns-clause-body
returns-clause-body c =
    let of = c.args.callee.now in
    let node = of.node in
    let cells = c.args.tree.now in
    let place = c.loop-value.place in
    let none : into_iter_items c.loop-value.value-iterator ≡ [] =
    no_length (into_iter_items c.loop-value.value-iterator)
    (sym c.loop-value.invariant.4 ∙ c.in-None.ensures.steps.0) in
    let within : place < length node.children.now = omega (arith, c.if-left-ne1.false) in
    let last : length node.children.now ≤ suc place = omega (arith, c.if-left-ne1.false) in
    sym c.loop-value.invariant.0
    ∙ (ap (λ vs. body_by of.wanted c.args.user
    (trees_of cells node.id (drop place node.children.now)) vs (Ok c.loop-value.variables)) none
    ∙ (ap (λ ts. body_by of.wanted c.args.user ts [] (Ok c.loop-value.variables))
    (next_part cells node.id node.children.now place c.part-2.result within c.part-2.ensures.before
    c.part-2.ensures.missing)
    ∙ ap (λ l. body_by of.wanted c.args.user
    (Cons (tree_of cells c.part-2.result) (trees_of cells node.id l)) []
    (Ok c.loop-value.variables)) (drop_of_length-le node.children.now last)))

pub returns-clause-fit : goal.returns-clause-fit
returns-clause-fit c = c.loop-value.invariant.3
