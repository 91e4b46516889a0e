use Rattle.std.proofs.Common.{rules, ◌≡◌, ◌+◌, suc, drop, Some, ap, sym, ◌∙◌, arith}
use Rattle.std.proofs.Math.ListN.{drop_of_length-le}
use Rattle.maxj_syntax.specs.Tree.{Cons}
use Rattle.maxj_syntax.specs.declared.tree.NodeKind.TheVariants as N
use Rattle.kernel_meaning.specs.Constructors.{ctor_of, members_of}
use Rattle.kernel_meaning.specs.Nodes.{tree_at}
use Rattle.kernel_plans.specs.Trees.{trees_of}
use Rattle.kernel_plans.proofs.Members.{ctor_found, no_ctor}
use Rattle.kernel_plans.proofs.Parts.{next_part}
use Rattle.kernel_plans.proofs.binding.constructor_of.Goals as goal

pub loop-place-init : goal.loop-place-init
loop-place-init c =
    let cells = c.tree-tree.result.now in
    ap (λ t. ctor_of (members_of t)) (sym c.branch_at-node.ensures.tree)
    ∙ (ap (λ n. ctor_of (members_of (tree_at cells n))) c.node.ensures
    ∙ ap (λ l. ctor_of (members_of (tree_at l c.args.class.now.node))) c.tree-tree.ensures)

pub returns-then-eq : goal.returns-then-eq
returns-then-eq c =
    let cells = c.tree-tree.result.now in
    let b = c.branch_at-node.result in
    let m = c.branch_at-member.result in
    let place = c.loop-place.place in
    let rest = trees_of cells b.id (drop (suc place) b.children.now) in
    let k : m.kind ≡ N.Ctor = search rules in
    sym c.loop-place.invariant
    ∙ (ap ctor_of (next_part cells b.id b.children.now place c.part.result c.loop-place-test.true
    c.part.ensures.before c.part.ensures.missing)
    ∙ (ap (λ t. ctor_of (Cons t rest)) c.branch_at-member.ensures.tree
    ∙ (ctor_found m.kind m.word.now m.span (trees_of cells m.id m.children.now) rest k
    ∙ ap (λ l. Some (m.span.from, trees_of l m.id m.children.now)) c.tree-tree.ensures)))

pub loop-place-preserved : goal.loop-place-preserved
loop-place-preserved c =
    let cells = c.tree-tree.result.now in
    let b = c.branch_at-node.result in
    let m = c.branch_at-member.result in
    let place = c.loop-place.place in
    let rest = trees_of cells b.id (drop (suc place) b.children.now) in
    let more : place + 1 ≡ suc place = omega arith in
    let k : m.kind ≡ N.Ctor → ⊥ = search rules in
    ap (λ p. ctor_of (trees_of cells b.id (drop p b.children.now))) more
    ∙ (sym (no_ctor m.kind m.word.now m.span (trees_of cells m.id m.children.now) rest k)
    ∙ (sym (ap (λ t. ctor_of (Cons t rest)) c.branch_at-member.ensures.tree)
    ∙ (sym (ap ctor_of (next_part cells b.id b.children.now place c.part.result
    c.loop-place-test.true c.part.ensures.before c.part.ensures.missing))
    ∙ c.loop-place.invariant)))

pub returns : goal.returns
returns c =
    let cells = c.tree-tree.result.now in
    let b = c.branch_at-node.result in
    sym c.loop-place.invariant
    ∙ ap (λ l. ctor_of (trees_of cells b.id l))
    (drop_of_length-le b.children.now c.loop-place-test.false)
