-- `makeKernelParameters` with the name of the kernel.
use Rattle.std.proofs.Common.{◌∙◌, refl, arith}
use Rattle.kernel_meaning.specs.Plans.{number_of_trees}
use Rattle.kernel_plans.specs.Trees.{tree_of, trees_of}
use Rattle.kernel_machine.proofs.Places.{how-many}
use Rattle.kernel_machine.proofs.Moves
use Rattle.kernel_machine.proofs.Kernels
use Rattle.kernel_machine.proofs.machine.Machine.name_kernel.Goals as goal

pub returns-then-settings-ne1-clause-does : goal.returns-then-settings-ne1-clause-does
returns-then-settings-ne1-clause-does c =
    let many = how-many c.args.class.now.cells c.args.settings.now.id
    c.args.settings.now.children.now in
    Kernels.named-odd c.args.class.now c.args.self.now c.count.new.self (tree_of
    c.args.class.now.cells c.args.node) c.args.number c.args.settings.now.span.from
    (trees_of c.args.class.now.cells c.args.settings.now.id c.args.settings.now.children.now)
    (Kernels.isnt-one (number_of_trees (trees_of c.args.class.now.cells c.args.settings.now.id
    c.args.settings.now.children.now)) (λ e. absurd (omega arith)))
    c.if-not-count.ensures

pub returns-clause-does : goal.returns-clause-does
returns-clause-does c =
    let many = how-many c.args.class.now.cells c.args.settings.now.id
    c.args.settings.now.children.now in
    let one = Kernels.is-one (number_of_trees (trees_of c.args.class.now.cells
    c.args.settings.now.id c.args.settings.now.children.now)) (omega arith) in
    let counted = c.if-not-count.ensures in
    Moves.leads-by c.args.class.now _ _ c.operands.result c.operands.new.self
    (Moves.counted-to c.args.self.now c.count.new.self _ counted ∙ rw (
      one,
      c.requires.tree,
      counted.1,
    ) refl)
    (rw c.new.ensures at c.operands.ensures.does)
