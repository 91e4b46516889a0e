-- The next operand.
use Rattle.std.proofs.Common.{◌∙◌, suc, refl, arith, inl, inr}
use Rattle.kernel_plans.specs.Trees.{tree_of}
use Rattle.kernel_machine.specs.Going.{go, standing}
use Rattle.kernel_machine.specs.Left.{from_place, parts}
use Rattle.kernel_machine.proofs.Places.{at-part, at-end}
use Rattle.kernel_machine.proofs.Moves
use Rattle.std.proofs.Common.{◌-◌, ◌≤◌, ℕ}
use Rattle.kernel_machine.proofs.machine.Machine.operands.Goals as goal
use Rattle.kernel_machine.proofs.machine.Machine.operands.Goals.{
  then-count-eq0-via-then-count-eq0,
  then-count-eq0-via-else-count-eq0+then-place-parts,
}

pub returns-then-count-eq0-clause-does : goal.returns-then-count-eq0-clause-does
returns-then-count-eq0-clause-does c =
    Moves.leads-by c.args.class.now _ _ c.finish.result c.finish.new.self
    (Moves.operands-end (standing c.args.class.now c.args.self.now) c.args.at c.args.place
    c.args.count (parts (tree_of c.args.class.now.cells c.args.node))
    c.args.values c.args.self.now.state _
    (elim c.then-count-eq0.branch [
      | then-count-eq0-via-then-count-eq0 w ↦ inl w.if-count-eq0.true
      | then-count-eq0-via-else-count-eq0+then-place-parts w ↦ inr (at-end
          c.args.class.now.cells (tree_of c.args.class.now.cells c.args.node)
          c.branch_at-parts.result c.args.place (rw c.tree.ensures at
          c.branch_at-parts.ensures.tree)
          (past w.if-place-parts.true))
    ]))
    c.finish.ensures.does
  where
    past : {n m : ℕ} → m ≤ n → m ≤ n
    past h = h

pub returns-clause-does : goal.returns-clause-does
unfolding go
returns-clause-does c =
    let tree = tree_of c.args.class.now.cells c.args.node in
    let is = rw c.tree.ensures at c.branch_at-parts.ensures.tree in
    Moves.leads-by c.args.class.now _ _ c.evaluate_for.result c.evaluate_for.new.self
    (Moves.operands-one (standing c.args.class.now c.args.self.now) c.args.at c.args.place
    c.args.count (c.args.count - 1) (parts tree)
    (from_place (suc c.args.place) (parts tree)) (tree_of c.args.class.now.cells c.part.result)
    c.args.values c.args.self.now.state _ (omega arith)
    (at-part c.args.class.now.cells tree c.branch_at-parts.result c.args.place (suc
    c.args.place) c.part.result is c.part.ensures (omega arith) refl)
    ∙ rw (Moves.next-place c.args.place) refl)
    c.evaluate_for.ensures.does
