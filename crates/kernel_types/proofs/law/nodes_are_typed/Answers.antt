use Rattle.kernel_types.proofs.Counting.{counters}
use Rattle.kernel_types.proofs.Typing.{typed}
use Rattle.kernel_types.proofs.law.nodes_are_typed.Goals as goal

pub returns : goal.returns
returns c =
    let nodes = c.args.kernel.now.nodes in
    let kernel = c.args.kernel.now.made in
    record { typed = typed nodes kernel; counting = counters nodes kernel }
