use Rattle.std.proofs.Common.{◌≡◌, ℕ, ◌<◌, length}
use Rattle.cycle_find.specs.Constraints.{numbers_of}
use Rattle.schedule_flow.proofs.solver.wide.Given as goal

abbrev pub invariant-loop-v : goal.invariant-loop-v
invariant-loop-v l = record {
  len : length l.y.items ≡ l.v-index;
  same : (k : ℕ) → k < l.v-index → numbers_of l.y.items k ≡ numbers_of l.times k;
}
