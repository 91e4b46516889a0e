use Rattle.std.proofs.Common.{◌≡◌, ◌+◌, drop}
use Rattle.counter_chains.specs.Chains.{bits_of}
use Rattle.counter_chains.proofs.places.bits_below.Given as goal

-- the bits so far and those of the counters that are left are all
abbrev pub invariant-loop-digit : goal.invariant-loop-digit
invariant-loop-digit l = l.bits + bits_of (drop l.digit-index l.later) ≡ bits_of l.later
