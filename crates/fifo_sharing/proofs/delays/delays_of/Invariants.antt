-- The delays of the edges so far.
use Rattle.std.proofs.Common.{◌≡◌, length}
use Rattle.cycle_find.specs.Constraints.{numbers_of}
use Rattle.fifo_sharing.proofs.DelaysBelow.{AreDelaysBelow}
use Rattle.fifo_sharing.proofs.delays.delays_of.Given as goal

abbrev pub invariant-loop-edge : goal.invariant-loop-edge
invariant-loop-edge l = (length l.delays.items ≡ l.problem.arcs.nodes)
    × AreDelaysBelow l.problem (numbers_of l.times) l.edge l.delays.items
