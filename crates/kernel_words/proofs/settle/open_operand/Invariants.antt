use Rattle.std.proofs.Common.{◌≡◌, ℕ, ◌<◌, false, length}
use Rattle.stream_graph.specs.LookUps.{operands_at, operand_at}
use Rattle.kernel_words.specs.Streams.{cell_at}
use Rattle.kernel_words.specs.Filling.{is_open}
use Rattle.kernel_words.proofs.settle.open_operand.Given as goal

-- the operands so far are known
abbrev pub invariant-loop-number : goal.invariant-loop-number
invariant-loop-number l = (i : ℕ) → i < l.number → i < length (operands_at l.kernel.nodes l.node)
    → is_open (cell_at l.streams (operand_at l.kernel.nodes l.node i) l.tick) ≡ false
