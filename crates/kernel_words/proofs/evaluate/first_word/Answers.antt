use Rattle.std.proofs.Common.{◌∙◌, ap}
use Rattle.std.specs.Prelude.{pos}
use Rattle.kernel_types.proofs.Typing.{typed}
use Rattle.kernel_words.specs.Streams.{values_of}
use Rattle.kernel_words.proofs.evaluate.first_word.Goals as goal

pub operand-requires-clause-place : goal.operand-requires-clause-place
operand-requires-clause-place c = ((typed c.args.kernel.now.nodes c.args.kernel.now.made).firsts c.args.node c.requires.node c.requires.kind).some

pub returns : goal.returns
returns c = c.word.ensures ∙ ap (λ u. values_of c.args.streams.now u (pos c.args.tick)) c.operand.ensures.is
