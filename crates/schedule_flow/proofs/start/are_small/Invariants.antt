use Rattle.std.proofs.Common.{ℕ, ◌<◌, ◌^◌, pos, ◌≤ℤ◌}
use Rattle.cycle_find.specs.Constraints.{numbers_of}
use Rattle.schedule_flow.proofs.start.are_small.Given as goal

abbrev pub invariant-loop-v : goal.invariant-loop-v
invariant-loop-v l = record {
  low : (u : ℕ) → u < l.v → pos 0 ≤ℤ numbers_of l.times u;
  high : (u : ℕ) → u < l.v → numbers_of l.times u ≤ℤ pos (2 ^ 60);
}
