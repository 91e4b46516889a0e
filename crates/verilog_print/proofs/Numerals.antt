-- What the printed digits of a number say.
use Rattle.std.proofs.Common.{◌≡◌, ℕ, zero, suc, Bool, true, false, List, [], ◌∷◌, ◌++◌, ◌+◌, ◌*◌, ◌/◌, ◌%◌, ◌<◌, ◌≤◌, refl, arith, if◌then◌else◌}
use Rattle.std.proofs.Math.Dec.{ltb}
use Rattle.std.proofs.lemmas.Bool.{ltb-true}
use Rattle.std.proofs.lemmas.List.Folds.{list_all-append}
use Rattle.std.specs.List.{list_all}
use Rattle.grammar.specs.Bytes.{is_digit, is_hex, hex_value, digits_value}
use Rattle.verilog_print.specs.Printed.{digit_byte, digits_from, digits}
use Rattle.verilog_print.proofs.Letters.{byte_is_digit, byte_is_hex, byte_value}
use Rattle.verilog_print.proofs.Steps.{by_less}

value-append : (base s : ℕ) (xs : List ℕ) (d : ℕ) → digits_value base s (xs ++ d ∷ []) ≡ digits_value base s xs * base + hex_value d
value-append base s [] d = refl
value-append base s (x ∷ xs) d = value-append base (s * base + hex_value x) xs d

-- digits that pass a test and say a number, of which there is one at least
pub record AreDigits (base : ℕ) (test : ℕ → Bool) (n : ℕ) (ds : List ℕ) : Type 0 where
  pub first : ℕ
  pub rest : List ℕ
  pub some : ds ≡ first ∷ rest
  pub pass : list_all test ds ≡ true
  pub say : digits_value base 0 ds ≡ n

one_digit : (base : ℕ) (test : ℕ → Bool) → ((d : ℕ) → d < base → test (digit_byte d) ≡ true) → base ≤ 16 → (n : ℕ) → n < base → AreDigits base test n (digit_byte n ∷ [])
one_digit base test p u n h = record { first = digit_byte n; rest = []; some = refl; pass = rw (p n h) refl; say = rw (byte_value n (omega arith)) (omega arith) }

more_digits : (base : ℕ) (test : ℕ → Bool) → ((d : ℕ) → d < base → test (digit_byte d) ≡ true)
    → 2 ≤ base → base ≤ 16 → (n : ℕ) (ds : List ℕ) → AreDigits base test (n / base) ds
    → AreDigits base test n (ds ++ digit_byte (n % base) ∷ [])
more_digits base test p l u n ds a =
    let low : n % base < base = omega arith in
    record {
      first = a.first;
      rest = a.rest ++ digit_byte (n % base) ∷ [];
      some = rw a.some refl;
      pass = rw (list_all-append test ds (digit_byte (n % base) ∷ []), a.pass, p (n % base) low) refl;
      say = rw (value-append base 0 ds (digit_byte (n % base)), a.say, byte_value (n % base) (omega arith)) (omega arith);
    }

digits_step : (base : ℕ) (test : ℕ → Bool) → ((d : ℕ) → d < base → test (digit_byte d) ≡ true) → 2 ≤ base → base ≤ 16 → (f n : ℕ) → AreDigits base test (n / base) (digits_from base f (n / base))
    → (b : Bool) → ltb n base ≡ b → AreDigits base test n (if b then digit_byte n ∷ [] else digits_from base f (n / base) ++ digit_byte (n % base) ∷ [])
digits_step base test p l u f n a true e = one_digit base test p u n (ltb-true n base e)
digits_step base test p l u f n a false e = more_digits base test p l u n (digits_from base f (n / base)) a

digits_ok : (base : ℕ) (test : ℕ → Bool) → ((d : ℕ) → d < base → test (digit_byte d) ≡ true) → 2 ≤ base → base ≤ 16 → (f n : ℕ) → n ≤ f → AreDigits base test n (digits_from base f n)
digits_ok base test p l u zero n h = one_digit base test p u n (omega arith)
digits_ok base test p l u (suc f) n h = digits_step base test p l u f n (digits_ok base test p l u f (n / base) (by_less base n f l h)) (ltb n base) refl

pub decimal_digits : (n : ℕ) → AreDigits 10 is_digit n (digits 10 n)
unfolding digits
decimal_digits n = digits_ok 10 is_digit byte_is_digit (omega arith) (omega arith) n n (omega arith)

pub hex_digits : (n : ℕ) → AreDigits 16 is_hex n (digits 16 n)
unfolding digits
hex_digits n = digits_ok 16 is_hex byte_is_hex (omega arith) (omega arith) n n (omega arith)
