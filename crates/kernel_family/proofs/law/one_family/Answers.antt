use Rattle.stream_graph.proofs.NodeLemmas.{orderly}
use Rattle.kernel_types.proofs.Typing.{typed}
use Rattle.kernel_family.proofs.Families.{one_family}
use Rattle.kernel_family.proofs.law.one_family.Goals as goal

pub returns : goal.returns
returns c =
    let nodes = c.args.kernel.now.nodes in
    let kernel = c.args.kernel.now.made in
    one_family nodes (orderly nodes kernel) (typed nodes kernel)
