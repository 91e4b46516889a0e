use Rattle.offset_edges.specs.Edges.{AreSources}
use Rattle.offset_edges.proofs.source.sources.Given as goal

abbrev pub invariant-loop-number : goal.invariant-loop-number
invariant-loop-number l = AreSources l.kernel.nodes l.number l.sources.items
