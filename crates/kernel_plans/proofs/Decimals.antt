-- Decimals of at most 31 bytes.
use Rattle.std.proofs.Common.{
  ◌≡◌,
  ◌+◌,
  ◌*◌,
  ◌^◌,
  ◌<◌,
  ◌≤◌,
  ℕ,
  List,
  [],
  ◌∷◌,
  ◌++◌,
  length,
  get_or,
  refl,
  ap,
  arith,
  zero,
  suc,
  take,
  drop,
}
use Rattle.std.proofs.lemmas.Nat.{pow-add}
use Rattle.std.proofs.Math.Nat.{mul-le-mul_left, mul-le-mul_right, pow-le-pow_right, pow-suc}
use Rattle.std.proofs.lemmas.Bool.Decides.{nat_tests}
use Rattle.std.specs.List.{before_first, after_first, position_or_len}
use Rattle.std.proofs.lemmas.List.{length-take, length-drop}
use Rattle.maxj_tokens.specs.Tokens.{is_dot}
use Rattle.grammar.specs.Bytes.{digits_value, hex_value}

pub digits_value-append : (base v : ℕ) (xs ys : List ℕ)
    → digits_value base v (xs ++ ys) ≡ digits_value base (digits_value base v xs) ys
digits_value-append base v [] ys = refl
digits_value-append base v (x ∷ xs) ys = digits_value-append base (v * base + hex_value x) xs ys

hex_value-le : (b : ℕ) → b < 256 → hex_value b ≤ 168
hex_value-le b h = grind (arith, nat_tests)

-- each digit makes the value ten times as large, and adds at most 168
few : (v : ℕ) (ds : List ℕ) → ((k : ℕ) → get_or ds k 0 < 256)
    → digits_value 10 v ds + 19 ≤ (v + 19) * 10 ^ length ds
few v [] h = omega arith
few v (d ∷ ds) h =
    let rest = few (v * 10 + hex_value d) ds (λ k. h (suc k)) in
    let digit = hex_value-le d (h 0) in
    let more : (v * 10 + hex_value d + 19) * 10 ^ length ds ≤ (v + 19) * 10 * 10 ^ length ds =
    mul-le-mul_right (10 ^ length ds) (omega arith) in
    let power = pow-suc 10 (length ds) in
    let turned : (v + 19) * 10 * 10 ^ length ds ≡ (v + 19) * (10 ^ length ds * 10) = grind arith in
    let same : (v + 19) * 10 ^ suc (length ds) ≡ (v + 19) * (10 ^ length ds * 10) = ap (λ p. (v + 19) * p) power in
    omega (arith, rest, more, turned, same)

-- the digits before the point and those behind it say a number of 128 bits
pub fits_decimal : (xs ys : List ℕ) → ((k : ℕ) → get_or xs k 0 < 256)
    → ((k : ℕ) → get_or ys k 0 < 256) → length xs + length ys ≤ 31
    → digits_value 10 (digits_value 10 0 xs) ys < 2 ^ 128
fits_decimal xs ys p q h =
    let whole = few 0 xs p in
    let all = few (digits_value 10 0 xs) ys q in
    let scaled : (digits_value 10 0 xs + 19) * 10 ^ length ys
    ≤ 19 * 10 ^ length xs * 10 ^ length ys = mul-le-mul_right (10 ^ length ys) whole in
    let joined = pow-add 10 (length xs) (length ys) in
    let most : 10 ^ (length xs + length ys) ≤ 10 ^ 31 = pow-le-pow_right (omega arith) h in
    let turned : 19 * 10 ^ length xs * 10 ^ length ys ≡ 19 * (10 ^ length xs * 10 ^ length ys) = grind arith in
    let bound : 19 * (10 ^ length xs * 10 ^ length ys) ≤ 19 * 10 ^ 31 =
    rw (← joined) (mul-le-mul_left 19 most) in
    omega (arith, all, scaled, turned, bound)

front_bytes : (xs : List ℕ) (n k : ℕ) → ((k : ℕ) → get_or xs k 0 < 256) → get_or (take n xs) k 0 < 256
front_bytes [] zero k h = h k
front_bytes [] (suc n) k h = h k
front_bytes (x ∷ xs) zero k h = omega arith
front_bytes (x ∷ xs) (suc n) zero h = h 0
front_bytes (x ∷ xs) (suc n) (suc k) h = front_bytes xs n k (λ i. h (suc i))

back_bytes : (xs : List ℕ) (n k : ℕ) → ((k : ℕ) → get_or xs k 0 < 256) → get_or (drop n xs) k 0 < 256
back_bytes [] zero k h = h k
back_bytes [] (suc n) k h = h k
back_bytes (x ∷ xs) zero k h = h k
back_bytes (x ∷ xs) (suc n) k h = back_bytes xs n k (λ i. h (suc i))

-- the parts of a decimal of at most 31 bytes
pub fits_word : (word : List ℕ) → ((k : ℕ) → get_or word k 0 < 256) → length word ≤ 31
    → digits_value 10 (digits_value 10 0 (before_first is_dot word)) (after_first is_dot word) < 2 ^ 128
fits_word word bytes h =
    let n = position_or_len is_dot word in
    fits_decimal (take n word) (drop (n + 1) word) (λ k. front_bytes word n k bytes) (λ k. back_bytes word (n + 1) k bytes)
    (omega (arith, h, length-take n word, length-drop (n + 1) word))

pub fits_front : (word : List ℕ) → ((k : ℕ) → get_or word k 0 < 256) → length word ≤ 31
    → digits_value 10 0 (before_first is_dot word) < 2 ^ 128
fits_front word bytes h =
    let n = position_or_len is_dot word in
    fits_decimal (take n word) [] (λ k. front_bytes word n k bytes) (λ k. omega arith)
    (omega (arith, h, length-take n word))
