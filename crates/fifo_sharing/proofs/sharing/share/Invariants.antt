-- The chains of the producers so far.
use Rattle.std.proofs.Common.{length}
use Rattle.cycle_find.specs.Constraints.{numbers_of}
use Rattle.fifo_sharing.proofs.DelaysBelow.{AreChainsBelow}
use Rattle.fifo_sharing.proofs.sharing.share.Given as goal

abbrev pub invariant-loop-producer : goal.invariant-loop-producer
invariant-loop-producer l = AreChainsBelow l.problem (numbers_of l.times) (length l.yielded)
    l.chains
