use Rattle.std.proofs.Common.{◌≡◌, ℕ, ◌*◌, ◌^◌, ◌≤◌, ◌-ℤ◌, unsigned_abs}
use Rattle.cycle_find.specs.Constraints.{numbers_of, start_of, end_of}
use Rattle.schedule_problem.specs.Flow.{amount_at, flow_of}
use Rattle.dual_check.proofs.balance.carry.Given as goal

abbrev pub invariant-loop-j : goal.invariant-loop-j
invariant-loop-j l = record {
  so_far : (v : ℕ) → numbers_of l.rest v ≡ (amount_at l.j (end_of l.list) (flow_of l.flow) v -ℤ amount_at l.j (start_of l.list) (flow_of l.flow) v);
  small : (v : ℕ) → unsigned_abs (numbers_of l.rest v) ≤ 2 ^ 64 * l.j;
}
