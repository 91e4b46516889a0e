use Rattle.stream_graph.proofs.NodeLemmas.{orderly}
use Rattle.offset_edges.proofs.EdgeLemmas.{edges_small}
use Rattle.kernel_report.proofs.Shown.{shown_least}
use Rattle.kernel_report.proofs.laws.shown_are_least.Goals as goal

pub returns : goal.returns
returns c =
    let kernel = c.args.kernel.now in
    shown_least c.args.table.now kernel (edges_small kernel.nodes (orderly kernel.nodes kernel.made) kernel.few)
    c.solutions_are_schedules.ensures c.schedules_are_solutions.ensures
