-- `addKernel`, of a new object.
use Rattle.std.proofs.Common.{arith}
use Rattle.kernel_plans.specs.Trees.{tree_of, trees_of}
use Rattle.kernel_machine.specs.Going.{rest, standing}
use Rattle.kernel_machine.proofs.Places.{how-many, one-part}
use Rattle.kernel_machine.proofs.Moves
use Rattle.kernel_machine.proofs.Kernels
use Rattle.kernel_machine.proofs.machine.Machine.add_kernel.Goals as goal

pub returns-then-expression-ne1-clause-does : goal.returns-then-expression-ne1-clause-does
returns-then-expression-ne1-clause-does c =
    let many = how-many c.args.class.now.cells c.args.expression.now.id
    c.args.expression.now.children.now in
    Kernels.addition-odd (standing c.args.class.now c.args.self.now)
    c.args.expression.now.span.from (trees_of c.args.class.now.cells c.args.expression.now.id
    c.args.expression.now.children.now) c.args.self.now.state (rest c.args.class.now
    c.args.self.now) (λ e. absurd (omega arith))

pub returns-in-New-clause-does : goal.returns-in-New-clause-does
returns-in-New-clause-does c =
    Moves.leads-by c.args.class.now _ _ c.new_kernel.result c.new_kernel.new.self
    (Kernels.addition-new (standing c.args.class.now c.args.self.now)
    c.args.expression.now.span.from (trees_of c.args.class.now.cells c.args.expression.now.id
    c.args.expression.now.children.now) (tree_of c.args.class.now.cells c.part-node.result)
    c.node_at-made.result.kind c.node_at-made.result.word.now c.node_at-made.result.span
    (trees_of c.args.class.now.cells c.node_at-made.result.id
    c.node_at-made.result.children.now) c.args.self.now.state (rest c.args.class.now
    c.args.self.now)
    (one-part c.args.class.now.cells c.args.expression.now c.part-node.result (omega arith)
    c.part-node.ensures) c.node_at-made.ensures.tree c.in-New.is)
    c.new_kernel.ensures.does
