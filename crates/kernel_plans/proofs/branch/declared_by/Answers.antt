use Rattle.std.proofs.Common.{rules, ◌≡◌, ◌+◌, ap, sym, ◌∙◌, arith, zero-add, Ok, Some, refl}
use Rattle.maxj_syntax.specs.declared.tree.NodeKind.TheVariants as N
use Rattle.kernel_meaning.specs.Values.{placed, raised, declared_by}
use Rattle.kernel_plans.specs.Trees.{tree_of, trees_of, branch_tree}
use Rattle.kernel_plans.proofs.Types.{
  raised_by,
  raised_none,
  raised_more,
  element,
  no_element,
  more_elements,
  plain_type,
  no_type,
  no_name,
}
use Rattle.kernel_plans.proofs.branch.declared_by.Goals as goal

pub loop-level-init : goal.loop-level-init
loop-level-init c = (
  raised_none (declared_by (branch_tree c.args.tree.now c.branch_at-level.result))
      ∙ ap declared_by (sym c.branch_at-level.ensures.tree),
  omega (arith, c.branch_at-level.auto.id),
)

pub returns-in_default : goal.returns-in_default
returns-in_default c =
    let b = c.loop-level.level in
    let k : b.kind ≡ N.ArrayOf = search rules in
    sym (ap (raised_by c.loop-level.rank) (no_element c.args.tree.now b.kind b.word.now b.span b.id
    b.children.now k c.in_default.len_below)) ∙ c.loop-level.invariant.0

pub returns-in_default-2 : goal.returns-in_default-2
returns-in_default-2 c =
    let b = c.loop-level.level in
    let k : b.kind ≡ N.ArrayOf = search rules in
    sym (ap (raised_by c.loop-level.rank) (more_elements c.args.tree.now b.kind b.word.now b.span b.id
    b.children.now k c.in_default.len_at_least)) ∙ c.loop-level.invariant.0

pub returns-in_default-part : goal.returns-in_default-part
returns-in_default-part c =
    let cells = c.args.tree.now in
    let b = c.loop-level.level in
    let k : b.kind ≡ N.ArrayOf = search rules in
    let step = element cells b.kind b.word.now b.span b.id b.children.now c.part.result k
    c.in-len1.len_at_least c.in-len1.len_below c.part.ensures.before c.part.ensures.missing
    ∙ ap (λ r. raised (declared_by (tree_of cells r))) c.in_default-part.is in
    sym (ap (raised_by c.loop-level.rank) step) ∙ c.loop-level.invariant.0

pub overflow_add-rank : goal.overflow_add-rank
overflow_add-rank c = omega (arith, c.loop-level.invariant.1, c.in-Some.ensures.below)

pub loop-level-smaller : goal.loop-level-smaller
loop-level-smaller c =
    let e = c.branch_at-level-in-loop-level.ensures.number c.in-Some.elements refl in
    omega (arith, e, c.in-Some.ensures.below)

pub loop-level-preserved : goal.loop-level-preserved
loop-level-preserved c =
    let cells = c.args.tree.now in
    let b = c.loop-level.level in
    let rank = c.loop-level.rank in
    let k : b.kind ≡ N.ArrayOf = search rules in
    let step = element cells b.kind b.word.now b.span b.id b.children.now c.part.result k
    c.in-len1.len_at_least c.in-len1.len_below c.part.ensures.before c.part.ensures.missing
    ∙ ap (λ r. raised (declared_by (tree_of cells r))) c.in-Some.is in
    let e = c.branch_at-level-in-loop-level.ensures.number c.in-Some.elements refl in (
      ap (λ t. raised_by (rank + 1) (declared_by t))
          (sym c.branch_at-level-in-loop-level.ensures.tree)
          ∙ (sym (raised_more rank (declared_by (tree_of cells (Some c.in-Some.elements))))
          ∙ (sym (ap (raised_by rank) step) ∙ c.loop-level.invariant.0)),
      omega (arith, e, c.in-Some.ensures.below, c.loop-level.invariant.1),
    )

pub returns-in-Some-base_of : goal.returns-in-Some-base_of
returns-in-Some-base_of c =
    let b = c.loop-level.level in
    let rank = c.loop-level.rank in
    let k : b.kind ≡ N.Plain = search rules in
    let type = plain_type b.kind b.word.now b.span (trees_of c.args.tree.now b.id b.children.now) k
    ∙ ap (placed b.span.from) (sym c.base_of.ensures ∙ c.in-Some-base_of.is) in
    ap (λ n. Ok (record { base = c.in-Some-base_of.base; rank = n })) (sym (zero-add rank))
    ∙ (sym (ap (raised_by rank) type) ∙ c.loop-level.invariant.0)

pub returns-in_default-base_of : goal.returns-in_default-base_of
returns-in_default-base_of c =
    let b = c.loop-level.level in
    let array : b.kind ≡ N.ArrayOf → ⊥ = search rules in
    let plain : b.kind ≡ N.Plain → ⊥ = search rules in
    sym (ap (raised_by c.loop-level.rank) (no_type b.kind b.word.now b.span
    (trees_of c.args.tree.now b.id b.children.now) array plain)) ∙ c.loop-level.invariant.0

pub returns-in_default-base_of-2 : goal.returns-in_default-base_of-2
returns-in_default-base_of-2 c =
    let b = c.loop-level.level in
    let array : b.kind ≡ N.ArrayOf → ⊥ = search rules in
    sym (ap (raised_by c.loop-level.rank) (no_name b.kind b.word.now b.span
    (trees_of c.args.tree.now b.id b.children.now) array
    (sym c.base_of.ensures ∙ c.in_default-base_of.is))) ∙ c.loop-level.invariant.0
