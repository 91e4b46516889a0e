use Rattle.std.proofs.Common.{arith}
use Rattle.stream_graph.specs.LookUps.{operands_at, type_at}
use Rattle.kernel_types.proofs.Typing.{typed}
use Rattle.kernel_words.proofs.Operating.{is_one, is_two}
use Rattle.kernel_words.proofs.evaluate.applied_word.Goals as goal

pub unary_word-requires-clause-one : goal.unary_word-requires-clause-one
unary_word-requires-clause-one c =
    let count = c.operand_count.ensures in
    let test = c.if-operand_count-lt2.true in
    is_one c.args.op (type_at c.args.kernel.now.nodes) (operands_at c.args.kernel.now.nodes c.args.node) c.args.amount (type_at c.args.kernel.now.nodes c.args.node)
    c.requires.other ((typed c.args.kernel.now.nodes c.args.kernel.now.made).operations c.args.node c.args.op c.args.mode c.args.amount c.requires.node c.requires.kind)
    (omega (arith, count, test))

pub binary_word-requires-clause-two : goal.binary_word-requires-clause-two
binary_word-requires-clause-two c =
    let count = c.operand_count.ensures in
    let test = c.if-operand_count-lt2.false in
    is_two c.args.op (type_at c.args.kernel.now.nodes) (operands_at c.args.kernel.now.nodes c.args.node) c.args.amount (type_at c.args.kernel.now.nodes c.args.node)
    c.requires.other ((typed c.args.kernel.now.nodes c.args.kernel.now.made).operations c.args.node c.args.op c.args.mode c.args.amount c.requires.node c.requires.kind)
    (omega (arith, count, test))
