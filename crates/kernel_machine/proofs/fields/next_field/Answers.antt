-- The members are looked at one after another.
use Rattle.std.proofs.Common.{◌∙◌, ◌≡◌, ap, arith, subst, Some, ℕ}
use Rattle.kernel_meaning.specs.Constructors.{set_fields}
use Rattle.kernel_plans.specs.Trees.{tree_of, branch_tree}
use Rattle.kernel_machine.proofs.FieldFirst
use Rattle.kernel_machine.proofs.fields.next_field.Goals as goal

pub returns-then-is_field : goal.returns-then-is_field
returns-then-is_field c =
    let class = c.args.class.now in
    let own : tree_of class.cells (Some class.node) ≡ branch_tree class.cells c.node_at-node.result =
    subst (λ (n : ℕ). tree_of class.cells (Some n) ≡ branch_tree class.cells c.node_at-node.result)
    c.node.ensures c.node_at-node.ensures.tree in
    let many = FieldFirst.members-many class c.node_at-node.result own in
    let below = c.loop-place-test.true in
    let before = c.loop-place.invariant.0 in (
      omega (arith, before),
      omega (arith, many, below),
      c.if-is_field.ensures.0,
      c.if-is_field.ensures.1,
      λ here before state next.
          c.loop-place.invariant.1 here before state next
          ∙ ap (λ ts. set_fields here before ts state next)
          (FieldFirst.member-at class c.node_at-node.result c.node_at-member.result c.loop-place.place
          c.part.result own c.part.ensures below c.node_at-member.ensures.tree),
    )

pub returns : goal.returns
returns c here before state next =
    let class = c.args.class.now in
    let own : tree_of class.cells (Some class.node) ≡ branch_tree class.cells c.node_at-node.result =
    subst (λ (n : ℕ). tree_of class.cells (Some n) ≡ branch_tree class.cells c.node_at-node.result)
    c.node.ensures c.node_at-node.ensures.tree in
    c.loop-place.invariant.1 here before state next
    ∙ ap (λ ts. set_fields here before ts state next)
    (FieldFirst.members-end class c.node_at-node.result c.loop-place.place own
    c.loop-place-test.false)
