-- The counters of a chain from a place on, and the wires of them.
use Rattle.std.proofs.Common.{◌≡◌, ◌+◌, ◌-◌, ◌*◌, ◌/◌, ◌%◌, ◌^◌, ◌≤◌, ◌<◌, ◌&&◌, ◌∷◌, ◌∙◌}
use Rattle.std.proofs.Common.{ℕ, zero, suc, Bool, true, false, cond, eqb, List, [], length, drop, get_or, refl, sym, ap, subst, arith, drop-cons}
use Rattle.std.proofs.Math.Nat.{mod-mod, mod-eq_of_lt}
use Rattle.std.proofs.Math.Pow.{mod-mod-pow}
use Rattle.std.proofs.lemmas.Nat.{field_of}
use Rattle.counter_chains.specs.declared.digits.CounterDigit.{CounterDigit}
use Rattle.counter_chains.specs.Chains.{bits_of}
use Rattle.counter_chains.specs.Steps.{is_end}
use Rattle.rtl_ir.specs.declared.design.Module.{Module}
use Rattle.rtl_ir.specs.Value.{bit}
use Rattle.rtl_build.specs.declared.signal.Signal.{Signal}
use Rattle.rtl_build.proofs.Growing.{same_value}
use Rattle.kernel_control.proofs.Bits.{after, test_bit}
use Rattle.kernel_states.specs.declared.counters.Stepped.{Stepped}
use Rattle.kernel_states.specs.declared.counters.Later.{Later}
use Rattle.kernel_states.specs.Stepping.{word_after, state_after, counter_in, MakesCounter, MakesLater}

pub drop_front : {A : Type 0} (xs : List A) (k : ℕ) (d : A) → 1 ≤ k → k ≤ length xs → drop (k - 1) xs ≡ get_or xs (k - 1) d ∷ drop k xs
drop_front xs zero d some le = absurd (omega arith)
drop_front xs (suc k) d some le =
    let e : suc k - 1 ≡ k = omega arith in
    rw (e, drop-cons xs k d) refl

-- the bits of counters from a place on
pub bits_more : (ds : List CounterDigit) (place : ℕ) → bits_of (drop place ds) ≤ bits_of ds
bits_more [] zero = omega arith
bits_more [] (suc k) = omega arith
bits_more (d ∷ ds) zero = omega arith
bits_more (d ∷ ds) (suc k) = let e = bits_more ds k in omega (arith, e)

pub drop_all : {A : Type 0} (xs : List A) → drop (length xs) xs ≡ []
drop_all [] = refl
drop_all (x ∷ xs) = drop_all xs

pub drop_last : {A : Type 0} (xs : List A) (d : A) → 1 ≤ length xs → drop (length xs - 1) xs ≡ get_or xs (length xs - 1) d ∷ []
drop_last xs d some = drop_front xs (length xs) d some (omega arith) ∙ ap (λ l. get_or xs (length xs - 1) d ∷ l) (drop_all xs)

-- there is room for the counter before a place
pub front_fits : (ds : List CounterDigit) (place : ℕ) (d : CounterDigit) → 1 ≤ place → place ≤ length ds
    → bits_of (drop place ds) + (get_or ds (place - 1) d).bits ≤ bits_of ds
front_fits ds place d some le =
    let e = ap bits_of (drop_front ds place d some le) in
    let m = bits_more ds (place - 1) in
    omega (arith, e, m)

-- ---- how the state steps, by the word of the first counter and what is below

module _ (d : CounterDigit) (ds : List CounterDigit) (x : ℕ) where
  abbrev low : ℕ
  low = bits_of ds

  below : x % 2 ^ (d.bits + low) % 2 ^ low ≡ x % 2 ^ low
  below = mod-mod-pow x d.bits low

  first : x % 2 ^ (d.bits + low) / 2 ^ low ≡ counter_in d low x
  first = field_of x d.bits low

  pub after_is : state_after (d ∷ ds) (x % 2 ^ (d.bits + low))
      ≡ cond (is_end ds (x % 2 ^ low)) (word_after d (counter_in d low x)) (counter_in d low x) * 2 ^ low + state_after ds (x % 2 ^ low)
  after_is =
      ap (λ p. cond (is_end ds p) (word_after d at) at * 2 ^ low + state_after ds p) below
      ∙ ap (λ q. cond (is_end ds (x % 2 ^ low)) (word_after d q) q * 2 ^ low + state_after ds (x % 2 ^ low))
      (ap (λ q. q % 2 ^ d.bits) first ∙ mod-mod (x / 2 ^ low) (2 ^ d.bits))
    where
      at : ℕ
      at = x % 2 ^ (d.bits + low) / 2 ^ low % 2 ^ d.bits

  pub end_is : is_end (d ∷ ds) (x % 2 ^ (d.bits + low)) ≡ eqb (counter_in d low x) d.last && is_end ds (x % 2 ^ low)
  end_is = ap (λ q. eqb q d.last && is_end ds (x % 2 ^ (d.bits + low) % 2 ^ low)) first
      ∙ ap (λ p. eqb (counter_in d low x) d.last && is_end ds p) below

-- the wires of counters whose words stand in the low bits of a net's word
abbrev pub AreStepped : Module → Module → ℕ → ℕ → List CounterDigit → Later → Type 0
AreStepped old new most net ds later =
    MakesLater old new most (bits_of ds) (λ v. state_after ds (v net % 2 ^ bits_of ds)) (λ v. is_end ds (v net % 2 ^ bits_of ds)) later

times_one : (x : ℕ) → x ≡ x * 1 + 0
times_one x = omega arith

and_true : (b : Bool) → b ≡ b && true
and_true true = refl
and_true false = refl

pub last_counter : {m n : Module} (d : CounterDigit) (net : ℕ) (s : Stepped) → MakesCounter m n d 0 net s
    → AreStepped m n 10 net (d ∷ []) (record { next = s.next; ended = s.is_last })
last_counter d net s made = record {
  next = same_value 10 (d.bits + 0) _ made.next (omega arith) (omega arith)
      (λ c v h. times_one (word_after d (counter_in d 0 (v net))) ∙ sym (after_is d [] (v net)));
  ended = same_value 10 1 _ made.is_last (omega arith) refl
      (λ c v h. ap bit (and_true (eqb (counter_in d 0 (v net)) d.last) ∙ sym (end_is d [] (v net))));
}

test_is : (x : ℕ) (b : Bool) → x ≡ bit b → eqb x 1 ≡ b
test_is x b e = ap (λ y. eqb y 1) e ∙ test_bit b

-- one counter before later ones
pub counter_before : {l m k n : Module} {most : ℕ} (d : CounterDigit) (ds : List CounterDigit) (net : ℕ) (s : Stepped) (old new : Later)
    → AreStepped l m most net ds old → MakesCounter m k d (bits_of ds) net s
    → MakesLater k n 3 (s.word.width + old.next.width) (λ v. cond (eqb (v old.ended.net) 1) (v s.next.net) (v s.word.net) * 2 ^ old.next.width + v old.next.net)
    (λ v. eqb (v s.is_last.net) 1 && eqb (v old.ended.net) 1) new
    → AreStepped l n (most + 10) net (d ∷ ds) new
counter_before {most = most} d ds net s old new i made joins = record {
  next = same_value (most + 10) (d.bits + bits_of ds) _ (after i.next (after made.next joins.next)) (omega arith) wide (λ c v h.
      let h2 = joins.next.before c v h in
      let h1 = made.next.before c v h2 in
      ap (λ w. cond (eqb (v old.ended.net) 1) (v s.next.net) (v s.word.net) * 2 ^ w + v old.next.net) i.next.width
      ∙ ap (λ b. cond b (v s.next.net) (v s.word.net) * 2 ^ bits_of ds + v old.next.net) (test_is _ _ (i.ended.value c v h1))
      ∙ ap (λ x. cond (is_end ds (v net % 2 ^ bits_of ds)) x (v s.word.net) * 2 ^ bits_of ds + v old.next.net) (made.next.value c v h2)
      ∙ ap (λ x. cond (is_end ds (v net % 2 ^ bits_of ds)) (word_after d (counter_in d (bits_of ds) (v net))) x * 2 ^ bits_of ds + v old.next.net)
      (made.word.value c v h2)
      ∙ ap (λ x. cond (is_end ds (v net % 2 ^ bits_of ds)) (word_after d (counter_in d (bits_of ds) (v net))) (counter_in d (bits_of ds) (v net))
      * 2 ^ bits_of ds + x) (i.next.value c v h1)
      ∙ sym (after_is d ds (v net)));
  ended = same_value (most + 10) 1 _ (after i.ended (after made.is_last joins.ended)) (omega arith) refl (λ c v h.
      let h2 = joins.ended.before c v h in
      let h1 = made.next.before c v h2 in
      ap (λ b. bit (b && eqb (v old.ended.net) 1)) (test_is _ _ (made.is_last.value c v h2))
      ∙ ap (λ b. bit (eqb (counter_in d (bits_of ds) (v net)) d.last && b)) (test_is _ _ (i.ended.value c v h1))
      ∙ ap bit (sym (end_is d ds (v net))));
}
  where
    wide : s.word.width + old.next.width ≡ d.bits + bits_of ds
    wide = let a = made.word.width in let b = i.next.width in omega (arith, a, b)

-- a word that fits is as it is
pub whole : (s : Signal) (ds : List CounterDigit) (x : ℕ) → s.width ≡ bits_of ds → x < 2 ^ s.width → x % 2 ^ bits_of ds ≡ x
whole s ds x e h = mod-eq_of_lt (subst (λ w. x < 2 ^ w) e h)
