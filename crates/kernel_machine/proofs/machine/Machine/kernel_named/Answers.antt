-- The kernel that is added has its name.
use Rattle.std.proofs.Common.{◌∙◌, suc, [], refl, ap, arith, inr}
use Rattle.kernel_meaning.specs.Names.{place_of}
use Rattle.kernel_plans.specs.Trees.{tree_of}
use Rattle.kernel_machine.specs.Going.{rest, standing}
use Rattle.kernel_machine.specs.Left.{parts, from_place, with_name, without_first, added}
use Rattle.kernel_machine.proofs.Places.{at-part, at-end}
use Rattle.kernel_machine.proofs.Moves
use Rattle.kernel_machine.proofs.Kernels
use Rattle.kernel_machine.proofs.machine.Machine.kernel_named.Goals as goal

pub returns-then-made-lt2-clause-does : goal.returns-then-made-lt2-clause-does
returns-then-made-lt2-clause-does c =
    let tree = c.node_at-made.ensures.tree in
    Moves.leads-by c.args.class.now _ _ c.kernel_made.result c.kernel_made.new.self
    (rw (← c.as_slice.ensures) (c.in-Ok.ensures c.args.self.now.state (λ name state. with_name
    (standing c.args.class.now c.args.self.now) (tree_of c.args.class.now.cells c.args.node)
    c.args.number name state (rest c.args.class.now c.args.self.now)))
    ∙ (Moves.operands-end (standing c.args.class.now c.args.self.now) (place_of (tree_of
    c.args.class.now.cells c.args.node)) 1 (without_first (parts (tree_of c.args.class.now.cells
    c.args.node))) (parts (tree_of c.args.class.now.cells c.args.node)) [] c.args.self.now.state
    (λ values state. added (place_of (tree_of c.args.class.now.cells c.args.node)) c.args.number
    c.in-Ok.name values state (rest c.args.class.now c.args.self.now))
    (inr (at-end c.args.class.now.cells (tree_of c.args.class.now.cells c.args.node)
    c.node_at-made.result 1 tree (omega arith)))
    ∙ ap (λ t. added (place_of t) c.args.number c.in-Ok.name [] c.args.self.now.state (rest
    c.args.class.now c.args.self.now)) tree))
    (rw c.new-values.ensures at c.kernel_made.ensures.does)

pub returns-clause-does : goal.returns-clause-does
returns-clause-does c =
    let tree = c.node_at-made.ensures.tree in
    Moves.leads-by c.args.class.now _ _ c.evaluate_for.result c.evaluate_for.new.self
    (rw (← c.as_slice.ensures) (c.in-Ok.ensures c.args.self.now.state (λ name state. with_name
    (standing c.args.class.now c.args.self.now) (tree_of c.args.class.now.cells c.args.node)
    c.args.number name state (rest c.args.class.now c.args.self.now)))
    ∙ (Moves.operands-one (standing c.args.class.now c.args.self.now) (place_of (tree_of
    c.args.class.now.cells c.args.node)) 1 (without_first (parts (tree_of c.args.class.now.cells
    c.args.node))) c.in-Ok-try_from.count (parts (tree_of c.args.class.now.cells c.args.node))
    (from_place 2 (parts (tree_of c.args.class.now.cells c.args.node))) (tree_of
    c.args.class.now.cells c.part.result) [] c.args.self.now.state
    (λ values state. added (place_of (tree_of c.args.class.now.cells c.args.node)) c.args.number
    c.in-Ok.name values state (rest c.args.class.now c.args.self.now))
    (rw tree (Kernels.without-first c.args.class.now.cells c.node_at-made.result.id
    c.node_at-made.result.children.now (suc c.in-Ok-try_from.count) (omega arith)))
    (at-part c.args.class.now.cells (tree_of c.args.class.now.cells c.args.node)
    c.node_at-made.result 1 2 c.part.result tree c.part.ensures (omega arith) refl)
    ∙ Kernels.named-next c.args.class.now c.args.self.now c.args.node c.node_at-made.result
    c.part.result c.args.number c.in-Ok.name c.in-Ok-try_from.count c.new-values.result tree
    c.new-values.ensures))
    c.evaluate_for.ensures.does
