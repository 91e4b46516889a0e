-- Times are small where needs and nodes are few.
use Rattle.std.proofs.Common.{◌≡◌, ℕ, ◌*◌, ◌≤◌, ◌^◌, pos, ◌≤ℤ◌, arith}
use Rattle.std.proofs.lemmas.Int.{ints}
use Rattle.std.proofs.Math.Nat.{mul-le-mul_right}
use Rattle.std.proofs.lemmas.Nat.{mul-le}
use Rattle.std.specs.Prelude.{unsigned_abs}
use Rattle.cycle_find.specs.Constraints.{Numbers, IsNonNegative}

pub times_small : (x : Numbers) (nodes : ℕ) → nodes ≤ 2 ^ 16 → IsNonNegative x → ((v : ℕ) → x v ≤ℤ pos (nodes * 2 ^ 40)) → (v : ℕ) → unsigned_abs (x v) ≤ 2 ^ 60
times_small x nodes few low high v = omega (arith, ints, low v, high v, mul-le-mul_right (2 ^ 40) few)

pub needs_small : (nodes need : ℕ) → nodes ≤ 2 ^ 16 → need ≤ 2 ^ 40 → nodes * need ≤ 2 ^ 60
needs_small nodes need few small = omega (arith, mul-le nodes need (2 ^ 16) (2 ^ 40) few small)
