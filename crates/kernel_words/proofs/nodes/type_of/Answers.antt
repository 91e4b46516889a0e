use Rattle.kernel_types.proofs.Typing.{typed}
use Rattle.kernel_words.proofs.Reading.{type_read, has_width}
use Rattle.kernel_words.proofs.nodes.type_of.Goals as goal

pub returns-clause-is : goal.returns-clause-is
returns-clause-is c = type_read c.args.kernel.now.nodes c.args.node c.node.result c.node.ensures

pub returns-clause-width : goal.returns-clause-width
returns-clause-width c =
    let nodes = c.args.kernel.now.nodes in
    has_width nodes c.args.node c.node.result c.node.ensures (typed nodes c.args.kernel.now.made) c.requires
