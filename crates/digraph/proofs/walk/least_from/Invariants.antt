use Rattle.std.proofs.Common.{length, ℕ, ◌≤◌, ◌<◌, slice_index}
use Rattle.digraph.proofs.walk.least_from.Given as goal

abbrev pub invariant-loop-j : goal.invariant-loop-j
invariant-loop-j l = record {
  within : l.least < length l.path;
  from : l.at ≤ l.least;
  smallest : (i : ℕ) → l.at ≤ i → i < l.j → slice_index l.path l.least ≤ slice_index l.path i;
}
