-- In hardware a chain steps as it does tick by tick.
use Rattle.std.proofs.Common.{◌≡◌, ℕ, suc, ◌+◌, ◌*◌, ◌/◌, ◌%◌, ◌^◌, ◌<◌, Bool, true, false, cond, eqb, List, [], ◌∷◌, refl, sym, ap, ◌∙◌, arith}
use Rattle.std.specs.Prelude.{All}
use Rattle.std.proofs.Math.Nat.{div-one, mod-eq_of_lt, mul-add-div_right, mul-add-mod_self_right, div-eq_of_lt}
use Rattle.std.proofs.lemmas.List.Elements.{All-nil, All-cons}
use Rattle.counter_chains.specs.declared.digits.CounterDigit.{CounterDigit}
use Rattle.counter_chains.specs.Digits.{IsDigit}
use Rattle.counter_chains.specs.Chains.{digit_at, round_of, bits_of, chain_at}
use Rattle.counter_chains.specs.Steps.{is_end, next_value, stepped}
use Rattle.kernel_states.specs.Stepping.{word_after, state_after}

pub head_of : (d : CounterDigit) (ds : List CounterDigit) → All IsDigit (d ∷ ds) → IsDigit d
head_of d ds all = all 0 d (omega arith)

pub tail_of : (d : CounterDigit) (ds : List CounterDigit) → All IsDigit (d ∷ ds) → All IsDigit ds
tail_of d ds all k e lt = all (suc k) e (omega (arith, lt))

-- a number above another one
parted : (a c m : ℕ) → c < m → ((a * m + c) % m ≡ c) × ((a * m + c) / m ≡ a)
parted a c m lt = (
  mul-add-mod_self_right a m c ∙ mod-eq_of_lt lt,
  mul-add-div_right (omega (arith, lt)) a c ∙ ap (λ x. a + x) (div-eq_of_lt lt) ∙ (let z : a + 0 ≡ a = omega arith in z),
)

-- by the law of chains
module _ (steps : (digits : List CounterDigit) (t : ℕ) → All IsDigit digits → stepped digits (chain_at digits t) ≡ chain_at digits (suc t))
    (fits : (digits : List CounterDigit) (t : ℕ) → All IsDigit digits → chain_at digits t < 2 ^ bits_of digits) where
  one : (d : CounterDigit) → IsDigit d → All IsDigit (d ∷ [])
  one d h = All-cons IsDigit d [] h (All-nil IsDigit)

  -- the value of a digit, and the one after it
  value_fits : (d : CounterDigit) (n : ℕ) → IsDigit d → digit_at d n < 2 ^ d.bits
  value_fits d n h =
      let few = fits (d ∷ []) n (one d h) in
      let same : digit_at d (n / 1) ≡ digit_at d n = ap (digit_at d) (div-one n) in
      let bits : 2 ^ (d.bits + 0) ≡ 2 ^ d.bits = ap (λ b. 2 ^ b) (let z : d.bits + 0 ≡ d.bits = omega arith in z) in
      omega (arith, few, same, bits)

  next_fits : (d : CounterDigit) (n : ℕ) → IsDigit d → next_value d (digit_at d n) < 2 ^ d.bits
  next_fits d n h =
      let few = fits (d ∷ []) (suc n) (one d h) in
      let step = steps (d ∷ []) n (one d h) in
      let same : digit_at d (n / 1) ≡ digit_at d n = ap (digit_at d) (div-one n) in
      let whole : digit_at d (n / 1) * 1 + 0 ≡ digit_at d n = omega (arith, same) in
      let at : (digit_at d (n / 1) * 1 + 0) / 1 ≡ digit_at d n = div-one (digit_at d (n / 1) * 1 + 0) ∙ whole in
      let next = ap (next_value d) at in
      let bits : 2 ^ (d.bits + 0) ≡ 2 ^ d.bits = ap (λ b. 2 ^ b) (let z : d.bits + 0 ≡ d.bits = omega arith in z) in
      omega (arith, few, step, next, bits)

  word_same : (d : CounterDigit) (n : ℕ) → IsDigit d → word_after d (digit_at d n) ≡ next_value d (digit_at d n)
  word_same d n h = by_test (eqb (digit_at d n) d.last) (next_fits d n h)
    where
      by_test : (b : Bool) → cond b 0 (digit_at d n + d.inc) < 2 ^ d.bits
          → cond b 0 ((digit_at d n + d.inc) % 2 ^ d.bits) ≡ cond b 0 (digit_at d n + d.inc)
      by_test true lt = refl
      by_test false lt = mod-eq_of_lt lt

  same_step : (digits : List CounterDigit) (t : ℕ) → All IsDigit digits → state_after digits (chain_at digits t) ≡ stepped digits (chain_at digits t)
  same_step [] t all = refl
  same_step (d ∷ later) t all =
      let n = t / round_of later in
      let a = digit_at d n in
      let c = chain_at later t in
      let m = 2 ^ bits_of later in
      let h = head_of d later all in
      let parts = parted a c m (fits later t (tail_of d later all)) in
      ap (λ p. cond (is_end later p) (word_after d ((a * m + c) / m % 2 ^ d.bits)) ((a * m + c) / m % 2 ^ d.bits) * m + state_after later p) parts.0
      ∙ ap (λ q. cond (is_end later c) (word_after d q) q * m + state_after later c) (ap (λ q. q % 2 ^ d.bits) parts.1 ∙ mod-eq_of_lt (value_fits d n h))
      ∙ ap (λ x. cond (is_end later c) x a * m + state_after later c) (word_same d n h)
      ∙ ap (λ x. cond (is_end later c) (next_value d a) a * m + x) (same_step later t (tail_of d later all))
      ∙ sym (ap (λ p. cond (is_end later p) (next_value d ((a * m + c) / m)) ((a * m + c) / m) * m + stepped later p) parts.0
      ∙ ap (λ q. cond (is_end later c) (next_value d q) q * m + stepped later c) parts.1)

  pub state_steps : (digits : List CounterDigit) (t : ℕ) → All IsDigit digits → state_after digits (chain_at digits t) ≡ chain_at digits (suc t)
  state_steps digits t all = same_step digits t all ∙ steps digits t all
