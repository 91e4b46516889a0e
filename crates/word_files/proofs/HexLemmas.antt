-- Digits one after another.
use Rattle.std.proofs.Common.{◌≡◌, ℕ, ◌<◌, ◌≤◌, ◌+◌, ◌*◌, ◌^◌, ◌/◌, ◌↔◌, nat_eq, nat_lt, arith}
use Rattle.std.proofs.Math.Nat.{pow-le-pow_right, div-lt_iff_lt-mul}
use Rattle.std.proofs.Math.Pow.{pow_mono}
use Rattle.std.proofs.lemmas.Nat.{pow_pos}
use Rattle.std.proofs.lemmas.Bool.Decides.{nat_tests}
use Rattle.std.proofs.lemmas.Grind.{pow_more}

-- one more digit stays below the next power
pub next_power : (v d i : ℕ) → v < 16 ^ i → d < 16 → v * 16 + d < 16 ^ (i + 1)
next_power v d i h k = omega (arith, pow_more 16 i)

-- and 32 digits fit 128 bits
pub digit_fits : (v d i : ℕ) → v < 16 ^ i → d < 16 → i < 32 → v * 16 + d < 2 ^ 128
digit_fits v d i h k l =
    let up : 16 ^ (i + 1) ≤ 16 ^ 32 = pow-le-pow_right {n = 16} (omega arith) {i = i + 1} {j = 32} (omega arith) in
    omega (arith, up, next_power v d i h k)

-- 128 bits are below every power from the 128th on
pub below_wide : (v w : ℕ) → v < 2 ^ 128 → 128 ≤ w → v < 2 ^ w
below_wide v w h k =
    let up : 2 ^ 128 ≤ 2 ^ w = pow_mono k in
    omega (arith, up)

-- no bit is left above the lowest exactly where the number is below their power
pub none_above : (v w : ℕ) → nat_eq (v / 2 ^ w) 0 ≡ nat_lt v (2 ^ w)
none_above v w =
    let iff : (v / 2 ^ w < 1) ↔ (v < 1 * 2 ^ w) = div-lt_iff_lt-mul (pow_pos w) in
    let there : v / 2 ^ w < 1 → v < 1 * 2 ^ w = iff.0 in
    let back : v < 1 * 2 ^ w → v / 2 ^ w < 1 = iff.1 in
    grind (arith, nat_tests, there, back)
