use Rattle.std.proofs.Common.{◌≡◌, ℕ, length, slice_index}
use Rattle.schedule_flow.specs.Queue.{Waits}
use Rattle.schedule_flow.proofs.search.nearest.Given as goal

abbrev pub invariant-loop-distance : goal.invariant-loop-distance
invariant-loop-distance l = record {
  kept : (d v : ℕ) → slice_index l.tree.place.items v ≡ 0 → Waits l.initial.queue d v → Waits l.queue d v;
  only : (d v : ℕ) → Waits l.queue d v → Waits l.initial.queue d v;
}

abbrev pub decreases-loop-distance : goal.decreases-loop-distance
decreases-loop-distance l = length l.queue
