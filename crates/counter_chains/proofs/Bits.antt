-- The fewest bits that hold a number.
use Rattle.std.proofs.Common.{◌≡◌, ℕ, zero, suc, ◌+◌, ◌-◌, ◌/◌, ◌≤◌, ◌<◌, ◌^◌, refl, arith, ap, ◌∙◌, subst}
use Rattle.std.specs.Prelude.{Bool, true, false, nat_lt, ◌⊎◌, if◌then◌else◌}
use Rattle.std.specs.Int.Count.{count_leading_zeros}
use Rattle.std.proofs.Common.{inl, inr}
use Rattle.std.proofs.Math.Pow.{pow_mono}
use Rattle.std.proofs.lemmas.Nat.{leading_top}
use Rattle.std.proofs.lemmas.Nat.Bits.{ones_shr}
use Rattle.std.proofs.lemmas.Bool.Decides.{nat_tests}
use Rattle.counter_chains.specs.Digits.{bits_up_to, least_bits, IsLeastBits}

below_power : (n j fewer : ℕ) → 2 ^ j ≤ n → n < 2 ^ fewer → suc j ≤ fewer
below_power n j fewer low high = elim (below_or fewer j)
    [ inl h ↦ (let m : 2 ^ fewer ≤ 2 ^ j = pow_mono h in absurd (omega arith)) | inr h ↦ h ]
  where
    below_or : (a b : ℕ) → (a ≤ b) ⊎ (suc b ≤ a)
    below_or zero b = inl (omega arith)
    below_or (suc a) zero = inr (omega arith)
    below_or (suc a) (suc b) = elim (below_or a b) [ inl h ↦ inl (omega arith) | inr h ↦ inr (omega arith) ]

pub is_least : (n j : ℕ) → 2 ^ j ≤ n → n < 2 ^ suc j → IsLeastBits n (suc j)
is_least n j low high = record {
  some = omega arith;
  holds = high;
  least = λ fewer some h. below_power n j fewer low
      h;
}

pub none_least : IsLeastBits 0 1
none_least = record { some = omega arith; holds = omega arith; least = λ fewer some h. some }

up_to_tested : (k n bits : ℕ) → IsLeastBits n bits → bits ≤ suc (suc k) → (n < 2 ^ suc k → bits_up_to k n ≡ bits) →
    (b : Bool) → nat_lt n (2 ^ suc k) ≡ b → (if b then bits_up_to k n else suc (suc k)) ≡ bits
up_to_tested k n bits l h fewer true e = fewer (grind (arith, nat_tests))
up_to_tested k n bits l h fewer false e =
    let above : 2 ^ suc k ≤ n = grind (arith, nat_tests) in
    let more : suc (suc k) ≤ bits = below_power n (suc k) bits above l.holds in
    omega arith

pub up_to_is : (k n bits : ℕ) → IsLeastBits n bits → bits ≤ suc k → bits_up_to k n ≡ bits
unfolding bits_up_to
up_to_is zero n bits l h = let s = l.some in omega arith
up_to_is (suc k) n bits l h =
    up_to_tested k n bits l h (λ below. up_to_is k n bits l (l.least (suc k) (omega arith) below))
    (nat_lt n (2 ^ suc k)) refl

-- the bits below the leading zeros of a number above 0
pub below_zeros : (n : ℕ) → 0 < n → n < 2 ^ 32 → IsLeastBits n (32 - count_leading_zeros 32 n)
below_zeros n some h =
    let top = leading_top 32 n some h in
    let j : ℕ = top.0 in
    let sum : count_leading_zeros 32 n + suc j ≡ 32 = top.1 in
    let e : suc j ≡ 32 - count_leading_zeros 32 n = omega arith in
    subst (λ b. IsLeastBits n b) e (is_least n j top.2 top.3)

-- the bits of a number are the fewest
pub least_is : (n bits : ℕ) → IsLeastBits n bits → bits ≤ 128 → least_bits n ≡ bits
least_is n bits l h = up_to_is 127 n bits l h

-- the number whose bits are all 1
pub all_ones : (bits : ℕ) → bits ≤ 128 → 340282366920938463463374607431768211455 / 2 ^ (128 - bits) ≡ 2 ^ bits - 1
all_ones bits h = ones_shr 128 (128 - bits) (omega arith) ∙ ap (λ k. 2 ^ k - 1) (back bits h)
  where
    back : (bits : ℕ) → bits ≤ 128 → 128 - (128 - bits) ≡ bits
    back bits h = omega arith
