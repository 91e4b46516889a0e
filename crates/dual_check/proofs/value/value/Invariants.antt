use Rattle.std.proofs.Common.{◌≡◌, ℕ, ◌-◌, ◌*◌, ◌^◌, ◌≤◌, pos, ◌*ℤ◌, unsigned_abs}
use Rattle.cycle_find.specs.Constraints.{need_of, NeedsWithin}
use Rattle.schedule_problem.specs.Flow.{total, flow_of}
use Rattle.dual_check.proofs.value.value.Given as goal

abbrev pub invariant-loop-j : goal.invariant-loop-j
invariant-loop-j l = record {
  so_far : l.sum ≡ total l.j (λ k. pos (flow_of l.flow k) *ℤ need_of l.list k);
  small : (size : ℕ) → NeedsWithin size l.list → unsigned_abs l.sum ≤ (2 ^ 63 - 1) * (l.j * size);
}
