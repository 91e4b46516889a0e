-- The variable is found, and then its indices.
use Rattle.std.proofs.Common.{◌∙◌, refl, sym}
use Rattle.kernel_machine.specs.Going.{standing}
use Rattle.kernel_machine.proofs.Moves
use Rattle.kernel_machine.proofs.Sets
use Rattle.kernel_machine.proofs.machine.Machine.target.Goals as goal

pub returns-clause-does : goal.returns-clause-does
returns-clause-does c =
    Moves.leads-by c.args.class.now _ _ c.resolve.result c.resolve.new.self
    (c.in-Ok.ensures.1 (standing c.args.class.now c.args.self.now) c.args.at c.args.self.now.state _
    ∙ Sets.follow-name c.args.class.now.cells (standing c.args.class.now c.args.self.now) c.args.at c.in-Ok.target.named
    c.args.self.now.state _ c.in-Ok.ensures.0 (sym c.if-not-is_variable.ensures)
    ∙ rw (c.requires.at, c.in_ok-name.ensures) refl)
    c.resolve.ensures.does
