use Rattle.offset_edges.specs.Edges.{edges_of}
use Rattle.offset_edges.specs.Latencies.{ticks_of}
use Rattle.offset_edges.proofs.ScheduleLemmas.{legal_from, bits_least_all}
use Rattle.offset_edges.proofs.law.solutions_are_schedules.Goals as goal
use Rattle.std.proofs.Common.{length}

pub returns : goal.returns
returns c =
    let nodes = c.args.kernel.now.nodes in
    let ticks = ticks_of c.args.table.now nodes in
    λ x s. (
      legal_from (length nodes) ticks x (edges_of nodes) s,
      bits_least_all ticks nodes
          (edges_of nodes) x s,
    )
