use Rattle.std.proofs.Common.{length, ◌≡◌, ◌-◌, ◌+◌, ℕ, ◌<◌, ◌≤◌, slice_index}
use Rattle.digraph.proofs.walk.walk_from.Given as goal

abbrev pub invariant-loop-i : goal.invariant-loop-i
invariant-loop-i l = record {
  size : length l.walk.items ≡ l.i;
  first : (k : ℕ) → k < l.i → slice_index l.walk.items k ≡ slice_index l.path (l.least - k);
}

abbrev pub invariant-loop-i-2 : goal.invariant-loop-i-2
invariant-loop-i-2 l = record {
  size : length l.walk.items ≡ l.least - l.at + 1 + l.i;
  first : (k : ℕ) → k ≤ l.least - l.at → slice_index l.walk.items k ≡ slice_index l.path (l.least - k);
  after : (k : ℕ) → l.least - l.at < k → k < length l.walk.items → slice_index l.walk.items k ≡ slice_index l.path (l.least + (length l.path - l.at) - k);
}
