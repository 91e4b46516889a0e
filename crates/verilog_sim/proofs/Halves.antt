-- Numbers modulo a power of two of at most 64 bits.
use Rattle.std.proofs.Common.{◌≡◌, ◌≤◌, ◌+◌, ◌-◌, ◌/◌, ◌%◌, ◌^◌, ℕ, arith, ap, ◌∙◌, bit_and}
use Rattle.std.proofs.Math.Pow.{mod-mod-pow}
use Rattle.std.proofs.lemmas.Nat.{and_mask}
use Rattle.std.proofs.lemmas.Nat.Bits.{ones_shr}

-- the mask of the low bits
pub half_mask : (n w : ℕ) → w ≤ 64 → bit_and n (18446744073709551615 / 2 ^ (64 - w)) ≡ n % 2 ^ w
half_mask n w h =
    let back : 64 - (64 - w) ≡ w = omega arith in
    ap (bit_and n) (ones_shr 64 (64 - w) (omega arith) ∙ ap (λ k. 2 ^ k - 1) back) ∙ and_mask n w

-- what was reduced to 64 bits reduces further
pub half_again : (n w : ℕ) → w ≤ 64 → n % 18446744073709551616 % 2 ^ w ≡ n % 2 ^ w
half_again n w h =
    let back : 64 ≡ (64 - w) + w = omega arith in
    ap (λ k. n % 2 ^ k % 2 ^ w) back ∙ mod-mod-pow n (64 - w) w

pub ruleset halving = (half_mask, half_again)
