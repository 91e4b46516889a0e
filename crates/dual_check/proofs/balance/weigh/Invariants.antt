use Rattle.std.proofs.Common.{◌≡◌, ℕ, ◌+◌, ◌*◌, ◌^◌, ◌≤◌, ◌+ℤ◌, ◌-ℤ◌, unsigned_abs}
use Rattle.cycle_find.specs.Constraints.{numbers_of}
use Rattle.schedule_problem.specs.Flow.{amount_at, from_of, to_of, weight_of}
use Rattle.dual_check.proofs.balance.weigh.Given as goal

abbrev pub invariant-loop-t : goal.invariant-loop-t
invariant-loop-t l = record {
  so_far : (v : ℕ) → numbers_of l.rest v
      ≡ (numbers_of l.initial.rest v +ℤ (amount_at l.t (from_of l.terms) (weight_of l.terms) v -ℤ amount_at l.t (to_of l.terms) (weight_of l.terms) v));
  small : (v : ℕ) → unsigned_abs (numbers_of l.rest v) ≤ 2 ^ 96 + 2 ^ 33 * l.t;
}
