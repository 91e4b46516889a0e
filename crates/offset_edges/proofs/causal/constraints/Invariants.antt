use Rattle.std.proofs.Common.{◌≡◌, take, map}
use Rattle.offset_edges.specs.Walks.{constraint_of}
use Rattle.offset_edges.proofs.causal.constraints.Given as goal

abbrev pub invariant-loop-edge : goal.invariant-loop-edge
invariant-loop-edge l = l.list ≡ map (constraint_of l.nodes) (take l.edge-index l.edges)
