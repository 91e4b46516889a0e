use Rattle.std.proofs.Common.{length}
use Rattle.offset_edges.specs.Edges.{edges_of}
use Rattle.offset_edges.specs.Latencies.{ticks_of}
use Rattle.stream_graph.proofs.NodeLemmas.{orderly}
use Rattle.offset_edges.proofs.EdgeLemmas.{edges_small}
use Rattle.offset_edges.proofs.ScheduleLemmas.{with_kept, of_node, solution_of, bits_same_all}
use Rattle.offset_edges.proofs.law.schedules_are_solutions.Goals as goal

pub returns : goal.returns
returns c =
    let nodes = c.args.kernel.now.nodes in
    let ticks = ticks_of c.args.table.now nodes in
    let edges = edges_of nodes in
    λ s legal. (
      with_kept (length nodes) ticks edges s,
      solution_of (length nodes) ticks edges s (edges_small nodes (orderly nodes
          c.args.kernel.now.made) c.args.kernel.now.few) legal,
      λ v h. of_node (length nodes) ticks edges s v h,
      bits_same_all ticks nodes edges s,
    )
