-- A digit has from 1 to 128 bits.
use Rattle.std.proofs.Common.{
  ◌≡◌,
  ℕ,
  ℤ,
  pos,
  negsuc,
  zero,
  suc,
  ◌*◌,
  ◌/◌,
  ◌≤◌,
  ◌^◌,
  arith,
  inl,
  inr,
  true,
  false,
  Ok,
  Err,
  Some,
  None,
  subst,
}
use Rattle.std.specs.Prelude.{Option, Bool, Result, if◌then◌else◌, nat_lt}
use Rattle.counter_chains.specs.declared.digits.CounterDigit.{CounterDigit}
use Rattle.counter_chains.specs.declared.digits.CounterError.{CounterError}
use Rattle.counter_chains.specs.Digits.{digit_of, simple_of, IsDigit, bits_up_to, least_bits}

some_bits : (k n : ℕ) → 1 ≤ bits_up_to k n
unfolding bits_up_to
some_bits zero n = omega arith
some_bits (suc k) n =
    elim (nat_lt n (2 ^ suc k)) as (λ b. 1 ≤ (if b then bits_up_to k n else suc (suc k)))
    [ true ↦ some_bits k n | false ↦ omega arith ]

few_bits : (k n : ℕ) → bits_up_to k n ≤ suc k
unfolding bits_up_to
few_bits zero n = omega arith
few_bits (suc k) n =
    elim (nat_lt n (2 ^ suc k)) as (λ b. (if b then bits_up_to k n else suc (suc k)) ≤ suc (suc k))
    [ true ↦ (let h = few_bits k n in omega arith) | false ↦ omega arith ]

abbrev pub HasBits : CounterDigit → Type 0
HasBits d = (1 ≤ d.bits) × (d.bits ≤ 128)

ranged : (b : Bool) (last inc bits : ℕ) (err : CounterError) (d : CounterDigit)
    → ◌≡◌ {A = Result CounterDigit CounterError}
    (if b then Ok (record { last = last; inc = inc; bits = bits }) else Err err) (Ok d) → bits
    ≡ d.bits
ranged true last inc bits err d e = cc
ranged false last inc bits err d e = absurd (cc)

digit_bits : (max inc : ℤ) (d : CounterDigit) → digit_of max inc ≡ Ok d → HasBits d
digit_bits (pos (suc most)) (pos (suc i)) d e =
    let p : least_bits most ≡ d.bits =
    ranged (nat_lt most (2 ^ 31)) (most / suc i * suc i) (suc i) (least_bits most) _ d e in
    subst (λ n. (1 ≤ n) × (n ≤ 128)) p (some_bits 127 most, few_bits 127 most)
digit_bits (pos (suc most)) (pos zero) d e = absurd (cc)
digit_bits (pos (suc most)) (negsuc i) d e = absurd (cc)
digit_bits (pos zero) inc d e = absurd (cc)
digit_bits (negsuc m) inc d e = absurd (cc)

simple_bits : (bits : ℕ) (max : Option ℤ) (d : CounterDigit) → 1 ≤ bits → bits ≤ 128
    → simple_of bits max ≡ Ok d → HasBits d
simple_bits bits None d l u e = let p : bits ≡ d.bits =
    cc in subst (λ n. (1 ≤ n) × (n ≤ 128)) p (l, u)
simple_bits bits (Some (pos (suc most))) d l u e =
    subst (λ n. (1 ≤ n) × (n ≤ 128)) (ranged (nat_lt most (2 ^ bits)) most 1 bits _ d e) (l, u)
simple_bits bits (Some (pos zero)) d l u e = absurd (cc)
simple_bits bits (Some (negsuc m)) d l u e = absurd (cc)

pub digit_has_bits : (d : CounterDigit) → IsDigit d → HasBits d
digit_has_bits d (inl h) = digit_bits h.0 h.1 d h.2
digit_has_bits d (inr h) = simple_bits h.0 h.1 d h.2 h.3 h.4
