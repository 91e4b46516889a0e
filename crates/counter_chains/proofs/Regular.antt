-- What each counter is like: the multiples of its step up to its last value, and the bits of these.
use Rattle.std.proofs.Common.{◌≡◌, inl, inr, ℕ, zero, suc, ◌-◌, ◌*◌, ◌/◌, ◌≤◌, ◌<◌, ◌^◌, refl, arith, subst}
use Rattle.std.specs.Prelude.{Bool, true, false, nat_lt, if◌then◌else◌, ℤ, pos, negsuc, Option, Some, None, Result, Ok, Err}
use Rattle.std.proofs.lemmas.Bool.Decides.{nat_tests}
use Rattle.std.proofs.lemmas.Nat.{pow_pos}
use Rattle.std.proofs.Math.Nat.{mul-div_left, div-mul-le_self}
use Rattle.counter_chains.specs.declared.digits.CounterDigit.{CounterDigit}
use Rattle.counter_chains.specs.declared.digits.CounterError.{CounterError}
use Rattle.counter_chains.specs.declared.digits.CounterError.TheVariants.{CounterRange}
use Rattle.counter_chains.specs.Digits.{digit_of, simple_of, IsDigit, bits_up_to, least_bits}

pub record IsRegular (d : CounterDigit) : Type 0 where
  pub step : 1 ≤ d.inc
  pub whole : d.inc * (d.last / d.inc) ≡ d.last
  pub some : 1 ≤ d.bits
  pub most : d.bits ≤ 128
  pub inside : d.last < 2 ^ d.bits

test_below : (a b : ℕ) → nat_lt a b ≡ true → a < b
test_below a b e = grind (arith, nat_tests)

holding : (k n : ℕ) → n < 2 ^ suc k →
    (1 ≤ bits_up_to k n) × (bits_up_to k n ≤ suc k) × (n < 2 ^ bits_up_to k n)
unfolding bits_up_to
holding zero n h = (omega arith, omega arith, h)
holding (suc k) n h = by_test (holding k n) (nat_lt n (2 ^ suc k)) refl
  where
    by_test : (n < 2 ^ suc k →
        (1 ≤ bits_up_to k n) × (bits_up_to k n ≤ suc k) × (n < 2 ^ bits_up_to k n)) →
        (b : Bool) → nat_lt n (2 ^ suc k) ≡ b →
        (1 ≤ (if b then bits_up_to k n else suc (suc k)))
        × ((if b then bits_up_to k n else suc (suc k)) ≤ suc (suc k))
        × (n < 2 ^ (if b then bits_up_to k n else suc (suc k)))
    by_test less true e =
        let r = less (test_below n (2 ^ suc k) e) in (r.0, omega arith, r.2)
    by_test less false e = (omega arith, omega arith, h)

of_chain : (greatest less : ℕ) → greatest < 2 ^ 31 → IsRegular (record
    { last = greatest / suc less * suc less; inc = suc less; bits = least_bits greatest })
of_chain greatest less h =
    let below : greatest < 2 ^ 128 = omega arith in
    let r = holding 127 greatest below in
    record {
      step = omega arith;
      whole = whole (greatest / suc less) (suc less) (omega arith);
      some = r.0;
      most = r.1;
      inside = (let l = div-mul-le_self greatest (suc less) in let f = r.2 in omega arith);
    }
  where
    whole : (n inc : ℕ) → 0 < inc → inc * (n * inc / inc) ≡ n * inc
    whole n inc h = rw (mul-div_left n {n = inc} h) (omega arith)

by_one : (last bits : ℕ) → 1 ≤ bits → bits ≤ 128 → last < 2 ^ bits →
    IsRegular (record { last = last; inc = 1; bits = bits })
by_one last bits some most inside = record {
  step = omega arith;
  whole = omega arith;
  some = some;
  most = most;
  inside = inside;
}

chain_regular : (max inc : ℤ) (d : CounterDigit) → digit_of max inc ≡ Ok d → IsRegular d
chain_regular (pos (suc greatest)) (pos (suc less)) d e = by_test (nat_lt greatest (2 ^ 31)) refl e
  where
    by_test : (b : Bool) → nat_lt greatest (2 ^ 31) ≡ b → ◌≡◌ {A = Result CounterDigit CounterError}
        (if b then Ok (record {
          last = greatest / suc less * suc less;
          inc = suc less;
          bits = least_bits greatest;
        }) else Err (CounterRange (pos (suc greatest)) 31)) (Ok d) →
        IsRegular d
    by_test true t e = subst (λ d. IsRegular d) (cc)
        (of_chain greatest less (test_below _ _ t))
    by_test false t e = absurd (cc)
chain_regular (pos (suc greatest)) (pos zero) d e = absurd (cc)
chain_regular (pos (suc greatest)) (negsuc n) d e = absurd (cc)
chain_regular (pos zero) inc d e = absurd (cc)
chain_regular (negsuc n) inc d e = absurd (cc)

simple_regular : (bits : ℕ) (max : Option ℤ) (d : CounterDigit) → 1 ≤ bits → bits ≤ 128 →
    simple_of bits max ≡ Ok d → IsRegular d
simple_regular bits None d some most e = subst (λ d. IsRegular d) (cc)
    (by_one (2 ^ bits - 1) bits some most (let h = pow_pos bits in omega arith))
simple_regular bits (Some (pos (suc greatest))) d some most e =
    by_test (nat_lt greatest (2 ^ bits)) refl e
  where
    by_test : (b : Bool) → nat_lt greatest (2 ^ bits) ≡ b →
        ◌≡◌ {A = Result CounterDigit CounterError}
        (if b then Ok (record { last = greatest; inc = 1; bits = bits }) else
        Err (CounterRange (pos (suc greatest)) bits)) (Ok d) → IsRegular d
    by_test true t e = subst (λ d. IsRegular d) (cc)
        (by_one greatest bits some most (test_below _ _ t))
    by_test false t e = absurd (cc)
simple_regular bits (Some (pos zero)) d some most e = absurd (cc)
simple_regular bits (Some (negsuc n)) d some most e = absurd (cc)

pub is_regular : (d : CounterDigit) → IsDigit d → IsRegular d
is_regular d (inl p) = chain_regular p.0 p.1 d p.2
is_regular d (inr p) = simple_regular p.0 p.1 d p.2 p.3 p.4
