-- The new object of a kernel.
use Rattle.std.proofs.Common.{◌∙◌, sym, arith}
use Rattle.kernel_plans.specs.Trees.{tree_of, trees_of}
use Rattle.kernel_machine.specs.Going.{rest, standing}
use Rattle.kernel_machine.specs.Left.{from_place}
use Rattle.kernel_machine.proofs.Moves
use Rattle.kernel_machine.proofs.Kernels
use Rattle.kernel_machine.proofs.machine.Machine.new_kernel.Goals as goal

pub returns-then-names_kernel-clause-does : goal.returns-then-names_kernel-clause-does
returns-then-names_kernel-clause-does c =
    let names = c.if-names_kernel.ensures in
    Moves.leads-by c.args.class.now _ _ c.name_kernel.result c.name_kernel.new.self
    (Kernels.begins-new c.args.class.now c.args.self.now c.count.new.self (tree_of
    c.args.class.now.cells c.args.node) (tree_of c.args.class.now.cells c.part-first.result)
    c.args.made.now.kind c.args.made.now.word.now c.args.made.now.span (trees_of
    c.args.class.now.cells c.args.made.now.id c.args.made.now.children.now)
    (from_place 1 (trees_of c.args.class.now.cells c.args.made.now.id
    c.args.made.now.children.now)) c.in-Some.number c.requires.tree
    (c.part-first.ensures c.args.class.now.cells (omega arith)) (sym c.in-Some.ensures)
    c.if-not-count.ensures
    ∙ Kernels.settings-are (standing c.args.class.now c.count.new.self) (tree_of
    c.args.class.now.cells c.args.node) (tree_of c.args.class.now.cells c.part-first.result)
    c.in-Some.number c.node_at-settings.result.kind c.node_at-settings.result.word.now
    c.node_at-settings.result.span
    (trees_of c.args.class.now.cells c.node_at-settings.result.id
    c.node_at-settings.result.children.now) c.count.new.self.state (rest c.args.class.now
    c.count.new.self) c.node_at-settings.ensures.tree names.0 names.1)
    c.name_kernel.ensures.does

pub returns-clause-does : goal.returns-clause-does
returns-clause-does c =
    Moves.leads-by c.args.class.now _ _ c.operands.result c.operands.new.self
    (Kernels.begins-new c.args.class.now c.args.self.now c.count.new.self (tree_of
    c.args.class.now.cells c.args.node) (tree_of c.args.class.now.cells c.part-first.result)
    c.args.made.now.kind c.args.made.now.word.now c.args.made.now.span (trees_of
    c.args.class.now.cells c.args.made.now.id c.args.made.now.children.now)
    (from_place 1 (trees_of c.args.class.now.cells c.args.made.now.id
    c.args.made.now.children.now)) c.in-Some.number c.requires.tree
    (c.part-first.ensures c.args.class.now.cells (omega arith)) (sym c.in-Some.ensures)
    c.if-not-count.ensures
    ∙ (Kernels.settings-none c.args.class.now c.count.new.self (tree_of c.args.class.now.cells
    c.args.node) (tree_of c.args.class.now.cells c.part-first.result) c.in-Some.number
    c.node_at-settings.result
    c.count.new.self.state (rest c.args.class.now c.count.new.self)
    c.node_at-settings.ensures.tree c.if-names_kernel.ensures
    ∙ Kernels.wrong-reads c.args.class.now c.count.new.self c.args.node c.args.made.now
    c.in-Ok.count c.requires.tree (omega arith)))
    (rw c.new.ensures at c.operands.ensures.does)
