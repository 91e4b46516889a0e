use Rattle.std.proofs.Common.{◌≡◌, ℕ, ◌<◌, ◌≤◌}
use Rattle.cycle_find.specs.Constraints.{numbers_of}
use Rattle.schedule_flow.specs.Search.{risen}
use Rattle.schedule_flow.proofs.search.raise.Given as goal

abbrev pub invariant-loop-v : goal.invariant-loop-v
invariant-loop-v l = record {
  done : (u : ℕ) → u < l.v → numbers_of l.x u ≡ risen l.distance l.reach (numbers_of l.initial.x) u;
  rest : (u : ℕ) → l.v ≤ u → numbers_of l.x u ≡ numbers_of l.initial.x u;
}
