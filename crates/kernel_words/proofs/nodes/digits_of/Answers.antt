use Rattle.kernel_words.proofs.Reading.{digits_read}
use Rattle.kernel_words.proofs.nodes.digits_of.Goals as goal

pub returns : goal.returns
returns c = digits_read c.args.kernel.now.nodes c.args.node c.digits.result.now c.digits.ensures
