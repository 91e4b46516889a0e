-- The next condition of an `if`, or its `else`, or its end.
use Rattle.std.proofs.Common.{◌∙◌, suc, ◌+◌, ap, refl, arith}
use Rattle.maxj_syntax.specs.Tree.{Cons}
use Rattle.kernel_plans.specs.Trees.{tree_of}
use Rattle.kernel_machine.specs.Going.{go, standing, leaving, after}
use Rattle.kernel_machine.specs.Left.{from_place, parts}
use Rattle.kernel_machine.proofs.Places.{at-part, at-end}
use Rattle.kernel_machine.proofs.Moves.{leads-by, branches-end, branches-last, branches-next}
use Rattle.kernel_machine.proofs.machine.Machine.branches.Goals as goal

pub returns-then-place-count-clause-does : goal.returns-then-place-count-clause-does
returns-then-place-count-clause-does c =
    leads-by c.args.class.now _ _ c.give.result c.give.new.self
    (branches-end (standing c.args.class.now c.args.self.now) c.args.at _ c.args.self.now.state _ _
    (at-end c.args.class.now.cells (tree_of c.args.class.now.cells c.args.node)
    c.branch_at-parts.result c.args.place (rw c.tree.ensures at c.branch_at-parts.ensures.tree)
    (omega arith)))
    c.give.ensures.does

pub returns-then-place-count-2-clause-does : goal.returns-then-place-count-2-clause-does
returns-then-place-count-2-clause-does c =
    let cells = c.args.class.now.cells in
    let tree = tree_of cells c.args.node in
    let is = rw c.tree.ensures at c.branch_at-parts.ensures.tree in
    branches-last (standing c.args.class.now c.args.self.now) c.args.at (from_place c.args.place
    (parts tree))
    (tree_of cells c.part.result) c.args.self.now.state _ _
    (at-part cells tree c.branch_at-parts.result c.args.place (suc c.args.place)
    c.part.result is c.part.ensures (omega arith) (omega arith)
    ∙ ap (Cons (tree_of cells c.part.result)) (at-end cells tree c.branch_at-parts.result (suc
    c.args.place) is (omega arith)))

pub returns-clause-does : goal.returns-clause-does
unfolding go
returns-clause-does c =
    let cells = c.args.class.now.cells in
    let tree = tree_of cells c.args.node in
    let is = rw c.tree.ensures at c.branch_at-parts.ensures.tree in
    leads-by c.args.class.now _ _ c.evaluate_for.result c.evaluate_for.new.self
    (branches-next (standing c.args.class.now c.args.self.now) c.args.at
    (from_place c.args.place (parts tree)) (from_place (c.args.place + 2) (parts tree))
    (tree_of cells c.part-3.result) (tree_of cells c.part-2.result) c.args.self.now.state
    (after c.args.class.now c.args.self.now) (leaving c.args.class.now c.args.self.now)
    (at-part cells tree c.branch_at-parts.result c.args.place (c.args.place + 1) c.part-3.result is
    c.part-3.ensures (omega arith) (omega arith)
    ∙ ap (Cons (tree_of cells c.part-3.result))
    (at-part cells tree c.branch_at-parts.result (c.args.place + 1) (c.args.place + 2)
    c.part-2.result
    is c.part-2.ensures (omega arith) (omega arith))))
    c.evaluate_for.ensures.does
