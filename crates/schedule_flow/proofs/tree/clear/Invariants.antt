use Rattle.std.proofs.Common.{◌≡◌, ℕ, ◌<◌, slice_index}
use Rattle.schedule_flow.specs.Search.{far}
use Rattle.schedule_flow.proofs.tree.clear.Given as goal

abbrev pub invariant-loop-v : goal.invariant-loop-v
invariant-loop-v l = record {
  places : (u : ℕ) → u < l.v → slice_index l.place u ≡ 0;
  distances : (u : ℕ) → u < l.v → slice_index l.distance u ≡ far;
}
