-- Powers of two.
use Rattle.std.proofs.Common.{ℕ, ◌≤◌, ◌^◌}
use Rattle.std.proofs.Math.Pow.{pow_mono}

-- six bits number all options
pub pow_at_least : (k : ℕ) → 6 ≤ k → 2 ^ 6 ≤ 2 ^ k
pow_at_least k h = pow_mono h
