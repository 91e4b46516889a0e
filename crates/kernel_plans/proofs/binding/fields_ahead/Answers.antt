use Rattle.std.proofs.Common.{◌≡◌, ◌+◌, suc, drop, ap, sym, subst, ◌∙◌, arith}
use Rattle.std.proofs.Math.ListN.{drop_of_length-le}
use Rattle.kernel_meaning.specs.Constructors.{all_ahead, members_of}
use Rattle.kernel_meaning.specs.Nodes.{tree_at}
use Rattle.kernel_plans.specs.Classes.{members}
use Rattle.kernel_rows.specs.Kept.{AreBoundFit}
use Rattle.kernel_plans.specs.Trees.{tree_of, trees_of}
use Rattle.kernel_plans.proofs.Members.{fit_ahead}
use Rattle.kernel_plans.proofs.Parts.{next_part}
use Rattle.kernel_plans.proofs.binding.fields_ahead.Goals as goal

pub loop-place-init : goal.loop-place-init
loop-place-init c =
    let cells = c.tree-tree.result.now in
    let none = c.new-fields.result in (
      ap (λ t. all_ahead (members_of t) none) (sym c.branch_at-node.ensures.tree)
          ∙ (ap (λ n. all_ahead (members_of (tree_at cells n)) none) c.node.ensures
          ∙ (ap (λ l. all_ahead (members_of (tree_at l c.args.class.now.node)) none) c.tree-tree.ensures
          ∙ ap (all_ahead (members c.args.class.now)) c.new-fields.ensures)),
      subst AreBoundFit (sym c.new-fields.ensures) tt,
    )

pub loop-place-preserved : goal.loop-place-preserved
loop-place-preserved c =
    let cells = c.tree-tree.result.now in
    let b = c.branch_at-node.result in
    let place = c.loop-place.place in
    let rest = trees_of cells b.id (drop (suc place) b.children.now) in
    let more : place + 1 ≡ suc place = omega arith in (
      ap (λ p. all_ahead (trees_of cells b.id (drop p b.children.now)) c.put_field.new.fields) more
          ∙ (ap (all_ahead rest) c.in_ok-put_field.ensures
          ∙ (sym (ap (λ ts. all_ahead ts c.loop-place.fields) (next_part cells b.id b.children.now place
          c.part.result c.loop-place-test.true c.part.ensures.before c.part.ensures.missing))
          ∙ c.loop-place.invariant.0)),
      subst AreBoundFit (sym c.in_ok-put_field.ensures)
          (fit_ahead (tree_of cells c.part.result) c.loop-place.fields c.loop-place.invariant.1),
    )

pub returns-clause-fields : goal.returns-clause-fields
returns-clause-fields c =
    let cells = c.tree-tree.result.now in
    let b = c.branch_at-node.result in
    sym (ap (λ l. all_ahead (trees_of cells b.id l) c.loop-place.fields)
    (drop_of_length-le b.children.now c.loop-place-test.false)) ∙ c.loop-place.invariant.0

pub returns-clause-fit : goal.returns-clause-fit
returns-clause-fit c = c.loop-place.invariant.1
