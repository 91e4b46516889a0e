use Rattle.std.proofs.Common.{◌≡◌, ℕ, ◌<◌, ◌≤◌, ◌+◌, ◌*◌, ◌-◌, length, slice_index, sum_by}
use Rattle.cycle_find.specs.Constraints.{NeedsWithin}
use Rattle.cycle_find.specs.Search.{IsChain}
use Rattle.cycle_find.proofs.Back.{IsStamped}
use Rattle.cycle_find.proofs.search.walk_back.Given as goal

abbrev pub invariant-loop-node : goal.invariant-loop-node
invariant-loop-node l = record {
  node : l.node < length l.x;
  chain : IsChain l.list l.x l.via l.start l.path.items l.node;
  stamped : IsStamped l.list l.path.items l.place;
  count : length l.path.items + sum_by (λ p. 1 - p) l.place ≡ length l.x;
  places : length l.place ≡ length l.x;
  climbed : (size : ℕ) → NeedsWithin size l.list → slice_index l.x l.start ≤ slice_index l.x l.node + length l.path.items * size;
}

abbrev pub decreases-loop-node : goal.decreases-loop-node
decreases-loop-node l = sum_by (λ p. 1 - p) l.place
