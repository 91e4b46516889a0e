-- One step, digit by digit from the last one on.
use Rattle.std.proofs.Common.{◌≡◌, inl, inr, ℕ, zero, suc, ◌+◌, ◌-◌, ◌*◌, ◌/◌, ◌%◌, ◌≤◌, ◌<◌, ◌^◌, refl, arith, ap, ◌∙◌, sym, subst, length, drop, get_or}
use Rattle.std.specs.Prelude.{Bool, true, false, ◌&&◌, nat_eq, if◌then◌else◌, List, [], ◌∷◌, All, bit_or}
use Rattle.std.proofs.lemmas.Bool.{cases_lt}
use Rattle.std.proofs.lemmas.Bool.Decides.{nat_tests}
use Rattle.std.proofs.lemmas.Nat.{pow-add, field_of, or_comm, or_shifted, shl_whole, shr_split, mul-add-lt, mod_below, pow_pos}
use Rattle.std.proofs.Math.Nat.{mod-eq_of_lt, mul_comm, mul-le-mul_left}
use Rattle.std.proofs.Math.Pow.{mod-mod-pow}
use Rattle.std.proofs.Math.Seq.{drop-cons}
use Rattle.counter_chains.specs.declared.digits.CounterDigit.{CounterDigit}
use Rattle.counter_chains.specs.Digits.{IsDigit}
use Rattle.counter_chains.specs.Chains.{bits_of}
use Rattle.counter_chains.specs.Steps.{IsValue, IsState, is_end, next_value, stepped}
use Rattle.counter_chains.proofs.Regular.{is_regular}
use Rattle.counter_chains.proofs.Ticks.{head_of, tail_of}

-- ---- one digit

next_multiple_most : (inc q n : ℕ) → inc * n ≤ inc * q → 1 ≤ inc → (inc * n ≡ inc * q → ⊥) →
    inc * n + inc ≤ inc * q
next_multiple_most inc q n h some other = elim (cases_lt n q) [
  | inl below ↦ (let m : inc * suc n ≤ inc * q = mul-le-mul_left inc below in omega arith)
  | inr above ↦ (let m : inc * q ≤ inc * n = mul-le-mul_left inc above in
      absurd (other (omega arith)))
]

pub next_most : (d : CounterDigit) (x : ℕ) → IsDigit d → IsValue d x → (x ≡ d.last → ⊥) →
    x + d.inc ≤ d.last
next_most d x digit v other =
    let r = is_regular d digit in
    let n : ℕ = v.multiple.0 in
    let is : x ≡ d.inc * n = v.multiple.1 in
    let whole = r.whole in
    let most = v.most in
    let m : d.inc * n + d.inc ≤ d.inc * (d.last / d.inc) =
    next_multiple_most d.inc (d.last / d.inc) n (omega arith) r.step
    (λ e. other (is ∙ e ∙ whole)) in
    omega arith

-- ---- the digits from some place on

mod_few : (x few all : ℕ) → few ≤ all → x % 2 ^ all % 2 ^ few ≡ x % 2 ^ few
mod_few x few all h =
    let e : all - few + few ≡ all = omega arith in
    subst (λ k. x % 2 ^ k % 2 ^ few ≡ x % 2 ^ few) e (mod-mod-pow x (all - few) few)

bits_from : (digits : List CounterDigit) (place : ℕ) →
    bits_of (drop place digits) ≤ bits_of digits
bits_from [] zero = omega arith
bits_from [] (suc place) = omega arith
bits_from (d ∷ later) zero = omega arith
bits_from (d ∷ later) (suc place) = let h = bits_from later place in omega arith

joined : (x high low : ℕ) → x / 2 ^ low < 2 ^ high → x < 2 ^ (high + low)
joined x high low h =
    let s = shr_split x low in
    let m = mod_below x (2 ^ low) (pow_pos low) in
    let p : suc (x / 2 ^ low) * 2 ^ low ≤ 2 ^ high * 2 ^ low = (rw (
      mul_comm (suc (x / 2 ^ low)) (2 ^ low),
      mul_comm (2 ^ high) (2 ^ low),
    ) (mul-le-mul_left (2 ^ low) h)) in
    rw (pow-add 2 high low) (omega arith)

state_fits : (digits : List CounterDigit) (x : ℕ) → All IsDigit digits → IsState digits x →
    x < 2 ^ bits_of digits
state_fits [] x all s = omega arith
state_fits (d ∷ later) x all s =
    let r = head_of d later all in
    let i = r.inside in
    let v = s.0 in
    let m = v.most in
    joined x d.bits (bits_of later) (omega arith)

state_from : (digits : List CounterDigit) (place x : ℕ) → All IsDigit digits → IsState digits x →
    IsState (drop place digits) (x % 2 ^ bits_of (drop place digits))
state_from [] zero x all s = omega arith
state_from [] (suc place) x all s = omega arith
state_from (d ∷ later) zero x all s =
    let f = state_fits (d ∷ later) x all s in
    subst (λ y. IsState (d ∷ later) y) (sym (mod-eq_of_lt f)) s
state_from (d ∷ later) (suc place) x all s =
    subst (λ y. IsState (drop place later) y)
    (mod_few x (bits_of (drop place later)) (bits_of later) (bits_from later place))
    (state_from later place (x % 2 ^ bits_of later) (tail_of d later all) s.1)

-- the digit before a place that the digits from there on have so many bits
pub record IsBefore (digits : List CounterDigit) (place bits low : ℕ) (d : CounterDigit) :
    Type 0 where
  pub digit : IsDigit d
  pub some : 1 ≤ d.bits
  pub within : low + d.bits ≤ bits_of digits
  pub value : IsValue d (bits / 2 ^ low % 2 ^ d.bits)
  pub first : drop (place - 1) digits ≡ d ∷ drop place digits

-- what an index past the end gives
abbrev none : CounterDigit
none = record { last = 0; inc = 0; bits = 0 }

pub before : (digits : List CounterDigit) (place bits low : ℕ) → All IsDigit digits →
    IsState digits bits → 0 < place → place ≤ length digits → low ≡ bits_of (drop place digits) →
    IsBefore digits place bits low (get_or digits (place - 1) none)
before digits zero bits low all s h l is = absurd (omega arith)
before digits (suc place) bits low all s h l is =
    let e : suc place - 1 ≡ place = omega arith in
    subst (λ k. IsBefore digits (suc place) bits low (get_or digits k none)) (sym e)
    (rw is (record {
      digit = all place none (omega arith);
      some = (is_regular _ (all place none (omega arith))).some;
      within = (let b = bits_from digits place in
          let c : bits_of (drop place digits) ≡ (get_or digits place none).bits + bits_of (drop (suc place) digits) =
          ap bits_of (drop-cons digits place none (omega arith)) in omega arith);
      value = value_at (get_or digits place none) (drop (suc place) digits) bits
          (subst (λ l. IsState l (bits % 2 ^ bits_of l)) (drop-cons digits place none (omega arith))
          (state_from digits place bits all s));
      first = rw e (drop-cons digits place none (omega arith));
    }))
  where
    value_at : (d : CounterDigit) (later : List CounterDigit) (x : ℕ) →
        IsState (d ∷ later) (x % 2 ^ bits_of (d ∷ later)) →
        IsValue d (x / 2 ^ bits_of later % 2 ^ d.bits)
    value_at d later x s = subst (λ y. IsValue d y) (field_of x d.bits (bits_of later)) s.0

pub part_is : (bits low width : ℕ) → 1 ≤ width →
    bits / 2 ^ low % 2 ^ (low + (width - 1) - low + 1) ≡ bits / 2 ^ low % 2 ^ width
part_is bits low width h =
    let e : low + (width - 1) - low + 1 ≡ width = omega arith in
    ap (λ k. bits / 2 ^ low % 2 ^ k) e

-- what these digits step to, so many bits wide, and whether they are at their ends
pub record IsStepped (digits : List CounterDigit) (bits next low : ℕ) (ended : Bool) : Type 0 where
  pub low_is : low ≡ bits_of digits
  pub next_is : next ≡ stepped digits (bits % 2 ^ bits_of digits)
  pub fits : next < 2 ^ low
  pub ended_is : ended ≡ is_end digits (bits % 2 ^ bits_of digits)

one_more : (d : CounterDigit) (later : List CounterDigit) (bits next low value y : ℕ)
    (ended after : Bool) →
    IsStepped later bits next low ended → value ≡ bits / 2 ^ low % 2 ^ d.bits →
    y ≡ (if ended then next_value d value else value) → y < 2 ^ d.bits → d.bits + low ≤ 128 →
    after ≡ (nat_eq value d.last && ended) → IsStepped (d ∷ later) bits (bit_or next (y * 2 ^ low % 2 ^ 128)) (low + d.bits) after
one_more d later bits next low value y ended after s v e f w is =
    let part : bits % 2 ^ (d.bits + bits_of later) / 2 ^ bits_of later ≡ value =
    field_of bits d.bits (bits_of later) ∙ sym (subst (λ k. value ≡ bits / 2 ^ k % 2 ^ d.bits) s.low_is v) in
    let rest : bits % 2 ^ (d.bits + bits_of later) % 2 ^ bits_of later ≡ bits % 2 ^ bits_of later =
    mod-mod-pow bits d.bits (bits_of later) in
    let whole : bit_or next (y * 2 ^ low % 2 ^ 128) ≡ y * 2 ^ low + next =
    ap (λ m. bit_or next m) (shl_whole y d.bits low 128 f w)
    ∙ or_comm next (y * 2 ^ low) ∙ or_shifted y low next s.fits in
    record {
      low_is = (let l = s.low_is in omega arith);
      next_is = rw (part, rest, whole, e, ← s.ended_is, ← s.next_is, ← s.low_is) refl;
      fits = rw (whole, pow-add 2 low d.bits) (mul-add-lt y (2 ^ low) next (2 ^ d.bits) f s.fits);
      ended_is = rw (part, rest, ← s.ended_is, is) refl;
    }

pub one_before : (digits : List CounterDigit) (place bits low : ℕ) (d : CounterDigit) →
    IsBefore digits place bits low d → bits_of digits ≤ 128 → (next value y : ℕ) (ended after : Bool) →
    IsStepped (drop place digits) bits next low ended → value ≡ bits / 2 ^ low % 2 ^ d.bits →
    y ≡ (if ended then next_value d value else value) → y < 2 ^ d.bits →
    after ≡ (nat_eq value d.last && ended) →
    IsStepped (drop (place - 1) digits) bits (bit_or next (y * 2 ^ low % 2 ^ 128)) (low + d.bits) after
one_before digits place bits low d h w next value y ended after s v e f is =
    rw h.first (one_more d (drop place digits) bits next low value y ended after s v e f
    (let i = h.within in omega arith) is)

pub at_last : (x last : ℕ) (ended : Bool) → x ≡ last → ended ≡ (nat_eq x last && ended)
at_last x last ended e = let t : nat_eq x last ≡ true = grind (arith, nat_tests) in rw t refl

pub not_last : (x last : ℕ) (ended : Bool) → (x ≡ last → ⊥) →
    nat_eq x last ≡ (nat_eq x last && ended)
not_last x last ended e = let t : nat_eq x last ≡ false = grind (arith, nat_tests) in rw t refl

pub all_stepped : (digits : List CounterDigit) (place bits next low : ℕ) (ended : Bool) →
    All IsDigit digits → IsState digits bits → place ≤ 0 →
    IsStepped (drop place digits) bits next low ended → next ≡ stepped digits bits
all_stepped digits zero bits next low ended all s h is =
    is.next_is ∙ ap (stepped digits) (mod-eq_of_lt (state_fits digits bits all s))
all_stepped digits (suc place) bits next low ended all s h is = absurd (omega arith)
