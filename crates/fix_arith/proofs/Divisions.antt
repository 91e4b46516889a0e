-- Long division, and quotients below zero.
use Rattle.std.proofs.Common.{◌/◌, ◌%◌, Bool, true, false, refl, subst, ⊎_elim, ◌≡◌, ◌<◌, ◌≤◌, ◌+◌, ◌-◌, ◌*◌, ◌^◌, ℕ, suc, arith, ap, sym, ◌∙◌, lit<, ℤ, pos, negsuc, neg_ℤ, ◌+ℤ◌, ◌*ℤ◌, unsigned_abs}
use Rattle.std.proofs.Math.Pow.{pow_mono}
use Rattle.std.proofs.Math.Nat.{mul-le-mul_left, mul-le-mul_right, pow-le-pow_right, one-le-pow}
use Rattle.std.proofs.lemmas.Nat.{pow-add}
use Rattle.std.proofs.lemmas.Nat.{le-div, div-add-mod'}
use Rattle.std.proofs.Math.Nat.{le_of_mul-le-mul_right, lt_of_mul-lt-mul_right}
use Rattle.std.proofs.lemmas.Bool.{cases_lt}
use Rattle.std.proofs.lemmas.Bool.Decides.{nat_tests}
use Rattle.std.specs.Ordering.{nat_cmp}
use Rattle.std.specs.declared.cmp.Ordering.{Ordering}
use Rattle.std.specs.Int.{int_div_euclid, int_rem_euclid}
use Rattle.fix_arith.specs.declared.types.RoundMode.{RoundMode}
use Rattle.fix_arith.specs.Rounding.{rounded, rounds_up, is_odd}
use Rattle.fix_arith.specs.Values.{signed_of}
use Rattle.fix_arith.proofs.Floors.{Splits, splits, rest_below}
use Rattle.fix_arith.proofs.Roundings.{next_if, rounded_by, up_at_zero}
use Rattle.fix_arith.proofs.Signed.{neg_mul}
use borrow.Author.Differences.{same_in, same_out, sum_is_lem, neg_is, abs_is, product_is}

-- one more bit
pub one_more : (n i q r d : ℕ) → n * 2 ^ i ≡ q * d + r → n * 2 ^ (i + 1) ≡ 2 * (q * d + r)
one_more n i q r d e =
    let next : 2 ^ (i + 1) ≡ 2 ^ i * 2 = pow-add 2 i 1 in
    ap (λ y. n * y) next ∙ omega arith

pub step : (n i q r d x y : ℕ) → n * 2 ^ i ≡ q * d + r → x * d + y ≡ 2 * (q * d + r) → n * 2 ^ (i + 1) ≡ x * d + y
step n i q r d x y e f = one_more n i q r d e ∙ sym f

-- a quotient that has its top bit before the last step
pub too_great : (n i k q r d : ℕ) → n * 2 ^ i ≡ q * d + r → i < k → 2 ^ 127 ≤ q → 2 ^ 128 * d ≤ n * 2 ^ k
too_great n i k q r d e h top =
    let more : 2 ^ (i + 1) ≤ 2 ^ k = pow_mono (omega arith) in
    let rest : n * 2 ^ (i + 1) ≤ n * 2 ^ k = mul-le-mul_left n more in
    let high : 2 ^ 127 * d ≤ q * d = mul-le-mul_right d top in
    let now = one_more n i q r d e in
    omega arith

pub tens_fit : (k : ℕ) → k ≤ 30 → 10 ^ k < 340282366920938463463374607431768211456
tens_fit k h =
    let most : 10 ^ k ≤ 10 ^ 30 = pow-le-pow_right (lit< tt) h in
    omega (arith, lit< {m = 10 ^ 30} {n = 340282366920938463463374607431768211456} tt)

pub tens_some : (k : ℕ) → 0 < 10 ^ k
tens_some k = one-le-pow k 10 (lit< tt)

pub below_exact : (w d : ℕ) → neg_ℤ (pos (w * d + 0)) ≡ neg_ℤ (pos w) *ℤ pos d +ℤ pos 0
below_exact w d = omega (arith, same_in, same_out, sum_is_lem, neg_is, neg_mul (pos w) (pos d))

pub below_next : (w d l : ℕ) → 0 < l → l < d → neg_ℤ (pos (w * d + l)) ≡ negsuc w *ℤ pos d +ℤ pos (d - l)
below_next w d l some h = omega (arith, same_in, sum_is_lem, neg_is, product_is)

-- a number of one sign, times a number
signed_times : (negative : Bool) (n m : ℕ) → signed_of negative n *ℤ pos m ≡ signed_of negative (n * m)
signed_times true n m = neg_mul (pos n) (pos m)
signed_times false n m = refl

size_of_signed : (negative : Bool) (n : ℕ) → unsigned_abs (signed_of negative n) ≡ n
size_of_signed true n = omega (arith, neg_is, abs_is)
size_of_signed false n = refl

pub scaled_splits : (negative : Bool) (n m q l d r : ℕ) (f : ℤ) → n * m ≡ q * d + l → signed_of negative (q * d + l) ≡ f *ℤ pos d +ℤ pos r → Splits (signed_of negative n *ℤ pos m) f d r
scaled_splits negative n m q l d r f e is = signed_times negative n m ∙ ap (signed_of negative) e ∙ is

cmp_rest : (r d : ℕ) → r < d → nat_cmp r (d - r) ≡ nat_cmp (2 * r) d
cmp_rest r d h = grind (arith, nat_tests)

-- rounding by what a division leaves
pub by_division : (mode : RoundMode) (z f : ℤ) (d r : ℕ) (odd up : Bool) (left : Ordering)
    → r < d → Splits z f d r → odd ≡ is_odd f → left ≡ nat_cmp r (d - r)
    → ((r d : ℕ) → left ≡ nat_cmp (2 * r) d → up ≡ rounds_up mode odd r d)
    → next_if up f ≡ rounded mode z d
by_division mode z f d r odd up left below split parity side choice =
    let is : up ≡ rounds_up mode (is_odd f) r d = choice r d (side ∙ cmp_rest r d below) ∙ ap (λ b. rounds_up mode b r d) parity in
    ap (λ b. next_if b f) is ∙ sym (rounded_by mode z f d r below split)

-- the size of a rounded quotient is at least the whole number below the size of the quotient
size_up : (k m d : ℕ) → 0 < d → k * d ≤ m → (b : Bool) → k ≤ unsigned_abs (next_if b (pos (m / d)))
size_up k m d some h true = let low = le-div k m d some h in omega arith
size_up k m d some h false = le-div k m d some h

size_down : (k m d : ℕ) → 0 < d → k * d ≤ m + 1 → (b : Bool) → (d - 1 - m % d ≡ 0 → b ≡ false) → k ≤ unsigned_abs (next_if b (negsuc (m / d)))
size_down k m d some h false exact =
    let whole = div-add-mod' m d in
    le_of_mul-le-mul_right {m = k} {n = suc (m / d)} {k = d} (omega arith) some
size_down k m d some h true exact =
    ⊎_elim
    (λ none. absurd (let off : true ≡ false = exact (omega arith) in cc))
    (λ left.
    let whole = div-add-mod' m d in
    let under : k * d < suc (m / d) * d = omega arith in
    let few = lt_of_mul-lt-mul_right d {m = k} {n = suc (m / d)} under in
    omega (arith, sum_is_lem, abs_is))
    (cases_lt (d - 1 - m % d) 1)

size_of_next : (z : ℤ) (d k : ℕ) (b : Bool) → 0 < d → k * d ≤ unsigned_abs z → (unsigned_abs (int_rem_euclid z (pos d)) ≡ 0 → b ≡ false) → k ≤ unsigned_abs (next_if b (int_div_euclid z (pos d)))
size_of_next (pos m) d k b some h exact = size_up k m d some h b
size_of_next (negsuc m) d k b some h exact = size_down k m d some (omega arith) b exact

pub size_of_rounded : (mode : RoundMode) (z : ℤ) (d k : ℕ) → 0 < d → k * d ≤ unsigned_abs z → k ≤ unsigned_abs (rounded mode z d)
size_of_rounded mode z d k some h =
    let q = int_div_euclid z (pos d) in
    let r = unsigned_abs (int_rem_euclid z (pos d)) in
    subst (λ x. k ≤ unsigned_abs x) (sym (rounded_by mode z q d r (rest_below z d some) (splits z d some)))
    (size_of_next z d k (rounds_up mode (is_odd q) r d) some h (λ none. ap (λ n. rounds_up mode (is_odd q) n d) none ∙ up_at_zero mode (is_odd q) d some))

pub size_of_scaled : (mode : RoundMode) (negative : Bool) (n m d k : ℕ) → 0 < d → k * d ≤ n * m → k ≤ unsigned_abs (rounded mode (signed_of negative n *ℤ pos m) d)
size_of_scaled mode negative n m d k some h = size_of_rounded mode
    (signed_of negative n *ℤ pos m) d k some (subst (λ x. k * d ≤ x)
    (sym (ap unsigned_abs (signed_times negative n m) ∙ size_of_signed negative (n * m))) h)

pub ruleset tens = (tens_fit, tens_some)

pub ruleset belows = (below_exact, below_next)
