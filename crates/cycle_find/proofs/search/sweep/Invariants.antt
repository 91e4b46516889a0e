use Rattle.std.proofs.Common.{◌≡◌, ℕ, ◌<◌, ◌≤◌, length, slice_index, sum, MatchOption}
use Rattle.cycle_find.specs.Constraints.{Meets}
use Rattle.cycle_find.specs.Search.{IsRaised, so_far, place_at}
use Rattle.cycle_find.proofs.search.sweep.Given as goal

abbrev pub invariant-loop-step : goal.invariant-loop-step
invariant-loop-step l = record {
  raised : IsRaised l.list l.x l.via;
  within : (v : ℕ) → slice_index l.x v ≤ l.limit;
  last : MatchOption l.last ((l.x ≡ l.initial.x) × ((i : ℕ) → i < l.step
      → Meets (so_far l.initial.x) l.list (place_at (length l.list) l.back i)))
      (λ v. (v < length l.x) × (sum l.initial.x < sum l.x));
}
