-- The fewest bits of a pointer.
use Rattle.std.proofs.Common.{◌≡◌, ℕ, zero, suc, ◌-◌, ◌≤◌, ◌<◌, ◌^◌, inl, inr, ap, subst, arith}
use Rattle.std.specs.Prelude.{◌⊎◌}
use Rattle.std.proofs.Math.Pow.{pow_mono}
use Rattle.std.specs.Int.Count.{count_leading_zeros}
use Rattle.std.proofs.lemmas.Nat.{leading_top}
use Rattle.rtl_delays.specs.Rings.{IsPointerWidth}

top_bits : (words j : ℕ) → 2 ≤ words → 2 ^ j ≤ words - 1 → words - 1 < 2 ^ suc j → IsPointerWidth words (suc j)
top_bits words j some low high =
    let e : suc j - 1 ≡ j = omega arith in
    let f : 2 ^ (suc j - 1) ≡ 2 ^ j = ap (λ k. 2 ^ k) e in
    record { some = omega arith; holds = omega (arith, some, high); least = omega (arith, some, low, f) }

pub pointer_is : (words : ℕ) → 2 ≤ words → words ≤ 2 ^ 32 → IsPointerWidth words (32 - count_leading_zeros 32 (words - 1))
pointer_is words some most =
    let top = leading_top 32 (words - 1) (omega (arith, some)) (omega (arith, some, most)) in
    let sum = top.1 in
    let e : suc top.0 ≡ 32 - count_leading_zeros 32 (words - 1) = omega (arith, sum) in
    subst (IsPointerWidth words) e (top_bits words top.0 some top.2 top.3)

-- a power is below another one only where the number of its bits is
power_below : (a b : ℕ) → 2 ^ a < 2 ^ b → a < b
power_below a b h = elim (below_or a b) [ inl e ↦ e | inr e ↦ (let m : 2 ^ b ≤ 2 ^ a = pow_mono e in absurd (omega (arith, m, h))) ]
  where
    below_or : (a b : ℕ) → (a < b) ⊎ (b ≤ a)
    below_or a zero = inr (omega arith)
    below_or zero (suc b) = inl (omega arith)
    below_or (suc a) (suc b) = elim (below_or a b) [ inl h ↦ inl (omega (arith, h)) | inr h ↦ inr (omega (arith, h)) ]

-- rings are short enough for their pointers
pub narrow : (words bits : ℕ) → IsPointerWidth words bits → words ≤ 2 ^ 28 → bits ≤ 128
narrow words bits p few =
    let l = p.least in
    let lt = power_below (bits - 1) 28 (omega (arith, l, few)) in
    omega (arith, lt)

-- one width alone is the fewest
pub pointer_only : (words a b : ℕ) → IsPointerWidth words a → IsPointerWidth words b → a ≡ b
pointer_only words a b p q =
    let x = power_below (a - 1) b (let l = p.least in let h = q.holds in omega (arith, l, h)) in
    let y = power_below (b - 1) a (let l = q.least in let h = p.holds in omega (arith, l, h)) in
    let s = p.some in
    let t = q.some in
    omega (arith, x, y, s, t)
