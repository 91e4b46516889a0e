use Rattle.kernel_words.proofs.Reading.{kind_read}
use Rattle.kernel_words.proofs.nodes.kind_of.Goals as goal

pub returns : goal.returns
returns c = kind_read c.args.kernel.now.nodes c.args.node c.node.result c.node.ensures
