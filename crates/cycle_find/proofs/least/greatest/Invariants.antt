use Rattle.std.proofs.Common.{ℕ, ◌<◌, ◌≤◌, ◌*◌, ◌^◌, unsigned_abs}
use Rattle.cycle_find.specs.Constraints.{need_of, NeedsWithin}
use Rattle.cycle_find.proofs.least.greatest.Given as goal

abbrev pub invariant-loop-j : goal.invariant-loop-j
invariant-loop-j l = record {
  within : (i : ℕ) → i < l.j → unsigned_abs (need_of l.list i) ≤ l.most;
  least : (size : ℕ) → NeedsWithin size l.list → l.most ≤ size;
  small : l.nodes * l.most ≤ 2 ^ 60;
  one : l.most ≤ 2 ^ 60;
}
