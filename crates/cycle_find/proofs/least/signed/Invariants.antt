use Rattle.std.proofs.Common.{◌≡◌, ℕ, ◌<◌, length}
use Rattle.cycle_find.specs.Constraints.{numbers_of}
use Rattle.cycle_find.specs.Search.{so_far}
use Rattle.cycle_find.proofs.least.signed.Given as goal

abbrev pub invariant-loop-v : goal.invariant-loop-v
invariant-loop-v l = record {
  len : length l.y.items ≡ l.v-index;
  same : (k : ℕ) → k < l.v-index → numbers_of l.y.items k ≡ so_far l.x k;
}
