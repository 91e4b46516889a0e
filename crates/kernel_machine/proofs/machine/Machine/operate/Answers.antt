-- A row.
use Rattle.std.proofs.Common.{◌∙◌, arith}
use Rattle.kernel_machine.specs.Going.{rest, standing}
use Rattle.kernel_machine.proofs.Moves
use Rattle.kernel_machine.proofs.machine.Machine.operate.Goals as goal

pub returns-in_ok-done-in_default : goal.returns-in_ok-done-in_default
returns-in_ok-done-in_default c =
    let keeps = c.in_ok-done-in_default.ensures.keeps.1 in
    let left = keeps.left in
    record {
      does = Moves.leads-by c.args.class.now _ _ c.settle.result c.settle.new.self
          (Moves.operate-row (standing c.args.class.now c.args.self.now) c.args.row c.args.at
          c.args.values c.args.self.now.state (rest c.args.class.now c.args.self.now)
          c.in_default.not-OwnMethod
          ∙ Moves.does-calls _ c.in_ok-done-in_default.done.calls c.in_ok-done-in_default.done.value
          c.row_of.new.state (rest c.args.class.now c.args.self.now) (rw c.as_slice.ensures at
          c.in_ok-done-in_default.ensures.done))
          c.settle.ensures.does;
      falls = Moves.costs-more c.args.class.now _ _ c.settle.result c.settle.new.self
          (omega arith) c.settle.ensures.falls;
      fit = c.settle.ensures.fit;
    }
