use Rattle.std.proofs.Common.{◌≡◌, ◌<◌, ℕ, get_or}
use Rattle.kernel_wiring.proofs.taps.waiting_signal.Given as goal

-- no wait so far has this number
abbrev pub invariant-loop-place : goal.invariant-loop-place
invariant-loop-place l = record {
  none : (j : ℕ) → j < l.place → get_or l.waits j 0 ≡ l.wait → ⊥;
}
