use Rattle.std.proofs.Common.{◌≡◌, ℕ, ◌*◌, ◌^◌, ◌≤◌, pos, ◌-ℤ◌, ◌≤ℤ◌, unsigned_abs}
use Rattle.cycle_find.specs.Constraints.{numbers_of}
use Rattle.schedule_problem.specs.Flow.{total, amount_at, from_of, to_of, weight_of}
use Rattle.schedule_flow.proofs.network.surpluses.Given as goal

abbrev pub invariant-loop-t : goal.invariant-loop-t
invariant-loop-t l = record {
  so_far : (v : ℕ) → numbers_of l.rest v ≡ (amount_at l.t (from_of l.terms) (weight_of l.terms) v -ℤ amount_at l.t (to_of l.terms) (weight_of l.terms) v);
  small : (v : ℕ) → unsigned_abs (numbers_of l.rest v) ≤ 2 ^ 33 * l.t;
  light : total l.t (λ t. pos (weight_of l.terms t)) ≤ℤ pos (2 ^ 32 * l.t);
}
