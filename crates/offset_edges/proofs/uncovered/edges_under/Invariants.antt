use Rattle.std.proofs.Common.{◌≡◌, take, map}
use Rattle.offset_edges.specs.Problems.{edge_under}
use Rattle.offset_edges.proofs.uncovered.edges_under.Given as goal

abbrev pub invariant-loop-arc : goal.invariant-loop-arc
invariant-loop-arc l = l.round.items ≡ map edge_under (take l.arc-index l.cycle.arcs)
