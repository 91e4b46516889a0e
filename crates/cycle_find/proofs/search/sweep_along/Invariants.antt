use Rattle.std.proofs.Common.{ℕ, ◌≤◌, slice_index}
use Rattle.cycle_find.specs.Search.{IsRaised}
use Rattle.cycle_find.proofs.search.sweep_along.Given as goal

abbrev pub invariant-loop-number : goal.invariant-loop-number
invariant-loop-number l = record {
  raised : IsRaised l.list l.x l.via;
  within : (v : ℕ) → slice_index l.x v ≤ l.limit;
}
