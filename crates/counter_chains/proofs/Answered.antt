-- What the counter by itself is, by the bound that is given.
use Rattle.std.proofs.Common.{◌≡◌, ℕ, zero, suc, ◌-◌, ◌/◌, ◌≤◌, ◌<◌, ◌^◌, refl, arith, subst}
use Rattle.std.specs.Prelude.{Bool, true, false, nat_lt, if◌then◌else◌, ℤ, pos, negsuc, ◌<ℤ◌, Option, Some, None, Result, Ok, Err}
use Rattle.std.proofs.lemmas.Bool.Decides.{nat_tests}
use Rattle.std.proofs.lemmas.Nat.{pow_pos}
use Rattle.std.proofs.lemmas.Int.{to_z-of_z, ints}
use mir.Val.{to_z, of_z, SFits}
use mir.Syntax.{w32}
use Rattle.counter_chains.specs.declared.digits.CounterDigit.{CounterDigit}
use Rattle.counter_chains.specs.declared.digits.CounterError.{CounterError}
use Rattle.counter_chains.specs.declared.digits.CounterError.TheVariants.{CounterRange}
use Rattle.counter_chains.specs.Digits.{simple_of}
use Rattle.counter_chains.proofs.Bits.{all_ones}

pub simple_all : (bits : ℕ) (max : Option ℤ) → max ≡ None → bits ≤ 128 →
    Ok (record { last = 340282366920938463463374607431768211455 / 2 ^ (128 - bits); inc = 1; bits = bits }) ≡
    simple_of bits max
simple_all bits max e h = rw (e, all_ones bits h) refl

first_way : (x y : Result CounterDigit CounterError) (b : Bool) → b ≡ true → x ≡ (if b then x else y)
first_way x y true e = refl
first_way x y false e = absurd (cc)

other_way : (x y : Result CounterDigit CounterError) (b : Bool) → b ≡ false → y ≡ (if b then x else y)
other_way x y false e = refl
other_way x y true e = absurd (cc)

pub simple_below : (bits last : ℕ) (max : ℤ) (o : Option ℤ) → o ≡ Some max → pos (suc last) ≡ max →
    last ≤ 340282366920938463463374607431768211455 / 2 ^ (128 - bits) → bits ≤ 128 →
    Ok (record { last = last; inc = 1; bits = bits }) ≡ simple_of bits o
simple_below bits last max o e m l h = rw (e, ← m) (first_way _ _ (nat_lt last (2 ^ bits))
    (below (2 ^ bits) last (pow_pos bits) (subst (λ x. last ≤ x) (all_ones bits h) l)))
  where
    below : (a b : ℕ) → 0 < a → b ≤ a - 1 → nat_lt b a ≡ true
    below a b some h = grind (arith, nat_tests)

pub simple_above : (bits last : ℕ) (max : ℤ) (o : Option ℤ) → o ≡ Some max → SFits w32 max → pos (suc last) ≡ max →
    340282366920938463463374607431768211455 / 2 ^ (128 - bits) < last → bits ≤ 128 →
    Err (CounterRange (to_z w32 (of_z w32 max)) bits) ≡ simple_of bits o
simple_above bits last max o e f m l h = rw (e, to_z-of_z w32 max f, ← m)
    (other_way _ _ (nat_lt last (2 ^ bits)) (above (2 ^ bits) last (subst (λ x. x < last) (all_ones bits h) l)))
  where
    above : (a b : ℕ) → a - 1 < b → nat_lt b a ≡ false
    above a b h = grind (arith, nat_tests)

pub simple_none : (bits : ℕ) (max : ℤ) (o : Option ℤ) → o ≡ Some max → SFits w32 max → max <ℤ pos 1 →
    Err (CounterRange (to_z w32 (of_z w32 max)) bits) ≡ simple_of bits o
simple_none bits max o e f h = rw (e, to_z-of_z w32 max f) (answer bits max h)
  where
    answer : (bits : ℕ) (max : ℤ) → max <ℤ pos 1 → Err (CounterRange max bits) ≡ simple_of bits (Some max)
    answer bits (pos zero) h = refl
    answer bits (pos (suc n)) h = absurd (omega (arith, ints))
    answer bits (negsuc n) h = refl
