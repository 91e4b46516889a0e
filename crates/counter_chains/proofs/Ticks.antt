-- The words of chains, tick by tick.
use Rattle.std.proofs.Common.{◌≡◌, ℕ, zero, suc, ◌+◌, ◌*◌, ◌/◌, ◌%◌, ◌≤◌, ◌<◌, ◌^◌, refl, arith, ap, ◌∙◌, sym, subst}
use Rattle.std.specs.Prelude.{Bool, true, false, ◌&&◌, nat_eq, if◌then◌else◌, List, [], ◌∷◌, Some, slice_get, All}
use Rattle.std.proofs.lemmas.Nat.{pow-add, div-mul-add, mod-mul-add, mul-add-lt}
use Rattle.std.proofs.Math.Nat.{zero-div, zero-mod, div-div-eq-div-mul, mod-eq_of_lt, mul_comm, div-one}
use Rattle.counter_chains.specs.declared.digits.CounterDigit.{CounterDigit}
use Rattle.counter_chains.specs.Digits.{IsDigit}
use Rattle.counter_chains.specs.Chains.{values_of, digit_at, round_of, bits_of, bits_below, part_at, chain_at}
use Rattle.counter_chains.specs.Steps.{IsValue, IsState, is_end, next_value, stepped}
use Rattle.counter_chains.proofs.Rounds.{next_round, same_round, at_most_last, ends_round, goes_on, next_multiple, field_in_low}
use Rattle.counter_chains.proofs.Regular.{IsRegular, is_regular}

pub head_of : (d : CounterDigit) (later : List CounterDigit) → All IsDigit (d ∷ later) → IsRegular d
head_of d later all = is_regular d (all 0 d (omega arith))

pub tail_of : (d : CounterDigit) (later : List CounterDigit) → All IsDigit (d ∷ later) →
    All IsDigit later
tail_of d later all = λ k x h. all (suc k) x (omega arith)

-- ---- one digit

pub most_at : (d : CounterDigit) (n : ℕ) → IsRegular d → digit_at d n ≤ d.last
most_at d n r = subst (λ x. digit_at d n ≤ x) r.whole (at_most_last d.inc (d.last / d.inc) n)

digit_fits : (d : CounterDigit) (n : ℕ) → IsRegular d → digit_at d n < 2 ^ d.bits
digit_fits d n r = let m = most_at d n r in let i = r.inside in omega arith

turned : (d : CounterDigit) (n : ℕ) (b : Bool) → IsRegular d → nat_eq (digit_at d n) d.last ≡ b →
    nat_eq (digit_at d n) (d.inc * (d.last / d.inc)) ≡ b
turned d n b r e = subst (λ x. nat_eq (digit_at d n) x ≡ b) (sym r.whole) e

next_at : (d : CounterDigit) (n : ℕ) → IsRegular d → next_value d (digit_at d n) ≡ digit_at d (suc n)
next_at d n r = next_multiple d.inc (d.last / d.inc) n r.step (nat_eq (digit_at d n) d.last)
    (turned d n _ r refl)

-- ---- chains

pub begins : (digits : List CounterDigit) → chain_at digits 0 ≡ 0
begins [] = refl
begins (d ∷ later) = rw (zero-div (round_of later), zero-mod (values_of d), begins later) (omega arith)

pub fits : (digits : List CounterDigit) (t : ℕ) → All IsDigit digits →
    chain_at digits t < 2 ^ bits_of digits
fits [] t all = omega arith
fits (d ∷ later) t all =
    rw (pow-add 2 d.bits (bits_of later), mul_comm (2 ^ d.bits) (2 ^ bits_of later))
    (mul-add-lt (digit_at d (t / round_of later)) (2 ^ bits_of later) (chain_at later t) (2 ^ d.bits)
    (digit_fits d (t / round_of later) (head_of d later all)) (fits later t (tail_of d later all)))

high : (d : CounterDigit) (later : List CounterDigit) (t : ℕ) → All IsDigit later →
    chain_at (d ∷ later) t / 2 ^ bits_of later ≡ digit_at d (t / round_of later)
high d later t all = div-mul-add _ _ _ (fits later t all)

low : (d : CounterDigit) (later : List CounterDigit) (t : ℕ) → All IsDigit later →
    chain_at (d ∷ later) t % 2 ^ bits_of later ≡ chain_at later t
low d later t all = mod-mul-add _ _ _ (fits later t all)

pub states : (digits : List CounterDigit) (t : ℕ) → All IsDigit digits → IsState digits (chain_at digits t)
states [] t all = refl
states (d ∷ later) t all = (
  subst (λ x. IsValue d x) (sym (high d later t (tail_of d later all))) (record {
    multiple = ((t / round_of later) % values_of d, refl);
    most = most_at d (t / round_of later) (head_of d later all);
  }),
  subst (λ x. IsState later x) (sym (low d later t (tail_of d later all)))
      (states later t (tail_of d later all)),
)

-- whether a round of n ends with tick t
record Ends (ended : Bool) (n t : ℕ) : Type 0 where
  yes : ended ≡ true → suc t / n ≡ suc (t / n)
  no : ended ≡ false → suc t / n ≡ t / n

-- a round of the digits after d ends, or not
round_ends : (d : CounterDigit) (n t : ℕ) → IsRegular d → (b : Bool) → Ends b n t → (c : Bool) →
    nat_eq (digit_at d (t / n)) d.last ≡ c → Ends (c && b) (values_of d * n) t
round_ends d n t r b e c is = subst (λ m. Ends (c && b) m t) (mul_comm n (values_of d)) (record {
  yes = λ h. sym (div-div-eq-div-mul (suc t) n (values_of d)) ∙ yes b c e is h
      ∙ ap suc (div-div-eq-div-mul t n (values_of d));
  no = λ h. sym (div-div-eq-div-mul (suc t) n (values_of d)) ∙ no b c e is h
      ∙ div-div-eq-div-mul t n (values_of d);
})
  where
    yes : (b c : Bool) → Ends b n t → nat_eq (digit_at d (t / n)) d.last ≡ c → c && b ≡ true →
        suc t / n / values_of d ≡ suc (t / n / values_of d)
    yes true true e is h = ap (λ x. x / values_of d) (e.yes refl)
        ∙ next_round (t / n) (values_of d)
        (ends_round d.inc (d.last / d.inc) (t / n) r.step (turned d (t / n) _ r is))
    yes true false e is h = absurd (cc)
    yes false true e is h = absurd (cc)
    yes false false e is h = absurd (cc)

    no : (b c : Bool) → Ends b n t → nat_eq (digit_at d (t / n)) d.last ≡ c → c && b ≡ false →
        suc t / n / values_of d ≡ t / n / values_of d
    no true true e is h = absurd (cc)
    no true false e is h = ap (λ x. x / values_of d) (e.yes refl)
        ∙ same_round (t / n) (values_of d)
        (goes_on d.inc (d.last / d.inc) (t / n) (turned d (t / n) _ r is))
    no false c e is h = ap (λ x. x / values_of d) (e.no refl)

chain_ends : (digits : List CounterDigit) (t : ℕ) → All IsDigit digits →
    Ends (is_end digits (chain_at digits t)) (round_of digits) t
chain_ends [] t all = record {
  yes = λ h. div-one (suc t) ∙ ap suc (sym (div-one t));
  no = λ h. absurd (cc);
}
chain_ends (d ∷ later) t all =
    rw (high d later t (tail_of d later all), low d later t (tail_of d later all))
    (round_ends d (round_of later) t (head_of d later all) _ (chain_ends later t (tail_of d later all)) _
    refl)

digit_steps : (d : CounterDigit) (n t : ℕ) → IsRegular d → (b : Bool) → Ends b n t →
    (if b then next_value d (digit_at d (t / n)) else digit_at d (t / n)) ≡ digit_at d (suc t / n)
digit_steps d n t r true e = next_at d (t / n) r ∙ ap (λ x. digit_at d x) (sym (e.yes refl))
digit_steps d n t r false e = ap (λ x. digit_at d x) (sym (e.no refl))

pub steps : (digits : List CounterDigit) (t : ℕ) → All IsDigit digits →
    stepped digits (chain_at digits t) ≡ chain_at digits (suc t)
steps [] t all = refl
steps (d ∷ later) t all =
    rw (
      high d later t (tail_of d later all),
      low d later t (tail_of d later all),
      steps later t (tail_of d later all),
      digit_steps d (round_of later) t (head_of d later all) _ (chain_ends later t (tail_of d later all)),
    )

-- ---- the bits of one place

below_all : (digits : List CounterDigit) (place : ℕ) (d : CounterDigit) →
    slice_get digits place ≡ Some d → bits_below digits place + d.bits ≤ bits_of digits
below_all [] place d e = absurd (cc)
below_all (x ∷ later) zero d e =
    let same : x ≡ d = cc in
    subst (λ d. bits_of later + d.bits ≤ x.bits + bits_of later) same (omega arith)
below_all (x ∷ later) (suc place) d e = let h = below_all later place d e in omega arith

pub parts : (digits : List CounterDigit) (place t : ℕ) (d : CounterDigit) → All IsDigit digits →
    slice_get digits place ≡ Some d →
    chain_at digits t / 2 ^ bits_below digits place % 2 ^ d.bits ≡ part_at digits place t
parts [] place t d all e = absurd (cc)
parts (x ∷ later) zero t d all e =
    let same : x ≡ d = cc in
    subst (λ d. chain_at (x ∷ later) t / 2 ^ bits_of later % 2 ^ d.bits ≡ digit_at x (t / round_of later))
    same
    (ap (λ n. n % 2 ^ x.bits) (high x later t (tail_of x later all))
    ∙ mod-eq_of_lt (digit_fits x (t / round_of later) (head_of x later all)))
parts (x ∷ later) (suc place) t d all e =
    field_in_low (digit_at x (t / round_of later)) (chain_at later t) (bits_below later place) d.bits
    (bits_of later) (below_all later place d e) (fits later t (tail_of x later all))
    ∙ parts later place t d (tail_of x later all) e
