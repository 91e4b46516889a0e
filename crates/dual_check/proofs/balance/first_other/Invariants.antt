use Rattle.std.proofs.Common.{◌≡◌, ℕ, ◌<◌, pos}
use Rattle.cycle_find.specs.Constraints.{numbers_of}
use Rattle.dual_check.proofs.balance.first_other.Given as goal

abbrev pub invariant-loop-v : goal.invariant-loop-v
invariant-loop-v l = (u : ℕ) → u < l.v → numbers_of l.rest u ≡ pos 0
