use Rattle.std.proofs.Common.{length, ◌-◌, ℕ, ◌≤◌, ◌<◌, slice_index}
use Rattle.digraph.proofs.search.first_waiting.Given as goal

abbrev pub invariant-loop-at : goal.invariant-loop-at
invariant-loop-at l = record {
  within : l.at ≤ length l.reads;
  from : l.from ≤ l.at;
  ranked : (i : ℕ) → l.from ≤ i → i < l.at → 0 < slice_index l.rank (slice_index l.reads i);
}

abbrev pub decreases-loop-at : goal.decreases-loop-at
decreases-loop-at l = length l.reads - l.at
