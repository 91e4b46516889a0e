use Rattle.std.proofs.Common.{refl, ap, length, List, ℕ}
use Rattle.stream_graph.proofs.Reading.{operands_read}
use Rattle.kernel_words.proofs.nodes.operand_count.Goals as goal

pub returns : goal.returns
returns c =
    ap (λ (xs : List ℕ). length xs)
    (operands_read c.args.kernel.now.nodes c.args.node c.args.node c.operands.result.now refl c.operands.ensures)
