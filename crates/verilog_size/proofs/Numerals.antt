-- How many digits a printed number has at most.
use Rattle.std.proofs.Common.{◌≡◌, ℕ, zero, suc, ◌+◌, ◌*◌, ◌/◌, ◌%◌, ◌^◌, ◌<◌, ◌≤◌, Bool, true}
use Rattle.std.proofs.Common.{false, [], ◌∷◌, ◌++◌, length, refl, ltb, arith, length-append}
use Rattle.std.proofs.Common.{if◌then◌else◌, div-lt_iff_lt-mul, pow-suc, pow_mono, ap}
use Rattle.std.proofs.Math.Nat.{pow-zero}
use Rattle.std.proofs.lemmas.Bool.{ltb-false}
use Rattle.verilog_print.specs.Printed.{digit_byte, digits_from, digits}

-- the same after the first turn, where a number of fewer digits is left
few_step : (base k f n : ℕ) → 0 < base → n < base ^ (k + 1)
    → ((j : ℕ) → n / base < base ^ (j + 1) → length (digits_from base f (n / base)) ≤ j + 1)
    → (t : Bool) → ltb n base ≡ t
    → length (if t then digit_byte n ∷ [] else digits_from base f (n / base) ++ digit_byte (n % base) ∷ []) ≤ k + 1
few_step base k f n some h rest true e = omega arith
few_step base zero f n some h rest false e =
    let one = pow-suc base 0 in
    let none = pow-zero base in
    absurd (omega (arith, h, one, none, ltb-false n base e, ap (λ (p : ℕ). p * base) none))
few_step base (suc k) f n some h rest false e =
    let next = pow-suc base (k + 1) in
    let same : base ^ (suc k + 1) ≡ base ^ suc (k + 1) = ap (λ (p : ℕ). base ^ p) (omega arith) in
    let less : n / base < base ^ (k + 1) = (div-lt_iff_lt-mul some).1 (omega (arith, h, next, same)) in
    let few = rest k less in
    let both = length-append (digits_from base f (n / base)) (digit_byte (n % base) ∷ []) in
    omega (arith, few, both)

-- a number below the power of the base to k + 1 has at most k + 1 digits
few_from : (base k f n : ℕ) → 0 < base → n < base ^ (k + 1) → length (digits_from base f n) ≤ k + 1
few_from base k zero n some h = omega arith
few_from base k (suc f) n some h = few_step base k f n some h (λ j less. few_from base j f (n / base) some less) (ltb n base) refl

-- a number below 1000 has at most three decimal digits
pub short_decimal : (n : ℕ) → n < 1000 → length (digits 10 n) ≤ 3
unfolding digits
short_decimal n h = few_from 10 2 n n (omega arith) h

-- a number below 2 ^ 28 has at most nine decimal digits
pub decimal : (n : ℕ) → n < 2 ^ 28 → length (digits 10 n) ≤ 9
unfolding digits
decimal n h = few_from 10 8 n n (omega arith) (omega (arith, h))

-- a word of at most 128 bits has at most 32 digits in base 16
pub hexadecimal : (n width : ℕ) → width ≤ 128 → n < 2 ^ width → length (digits 16 n) ≤ 32
unfolding digits
hexadecimal n width most h =
    let power : 2 ^ width ≤ 2 ^ 128 = pow_mono most in
    few_from 16 31 n n (omega arith) (omega (arith, h, power))
