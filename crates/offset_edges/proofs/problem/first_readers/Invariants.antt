use Rattle.std.proofs.Common.{drop}
use Rattle.offset_edges.specs.Problems.{AreReaders}
use Rattle.offset_edges.proofs.problem.first_readers.Given as goal

abbrev pub invariant-loop-number : goal.invariant-loop-number
invariant-loop-number l = AreReaders l.nodes (drop l.number l.edges) l.readers.items
