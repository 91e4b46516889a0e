-- One tick more, and the round of so many ticks that it is in; over plain numbers.
use Rattle.std.proofs.Common.{◌≡◌, inl, inr, ℕ, suc, ◌+◌, ◌-◌, ◌*◌, ◌/◌, ◌%◌, ◌≤◌, ◌<◌, ◌^◌, arith, ap, ◌∙◌, sym, subst}
use Rattle.std.specs.Prelude.{Bool, true, false, nat_eq, if◌then◌else◌}
use Rattle.std.proofs.lemmas.Bool.{cases_lt}
use Rattle.std.proofs.lemmas.Bool.Decides.{nat_tests}
use Rattle.std.proofs.lemmas.Nat.{div-mul-add, mod-mul-add, div-add-mod', mod_below, field_of}
use Rattle.std.proofs.Math.Nat.{mul-le-mul_left, le_of_mul-le-mul_left}
use Rattle.std.proofs.Math.Pow.{mod-mod-pow}

-- the last tick of a round of n
begins : (t n : ℕ) → suc (t % n) ≡ n → suc t ≡ suc (t / n) * n + 0
begins t n h = let e = div-add-mod' t n in omega arith

more : (t n : ℕ) → suc t ≡ t / n * n + suc (t % n)
more t n = let e = div-add-mod' t n in omega arith

pub next_round : (t n : ℕ) → suc (t % n) ≡ n → suc t / n ≡ suc (t / n)
next_round t n h = ap (λ x. x / n) (begins t n h) ∙ div-mul-add (suc (t / n)) n 0 (omega arith)

pub same_round : (t n : ℕ) → suc (t % n) < n → suc t / n ≡ t / n
same_round t n h = ap (λ x. x / n) (more t n) ∙ div-mul-add (t / n) n (suc (t % n)) h

first_in_round : (t n : ℕ) → suc (t % n) ≡ n → suc t % n ≡ 0
first_in_round t n h = ap (λ x. x % n) (begins t n h) ∙ mod-mul-add (suc (t / n)) n 0 (omega arith)

next_in_round : (t n : ℕ) → suc (t % n) < n → suc t % n ≡ suc (t % n)
next_in_round t n h = ap (λ x. x % n) (more t n) ∙ mod-mul-add (t / n) n (suc (t % n)) h

-- multiples of inc that go round after inc * q
pub inside_round : (q n : ℕ) → n % (q + 1) ≤ q
inside_round q n = let h = mod_below n (q + 1) (omega arith) in omega arith

pub at_most_last : (inc q n : ℕ) → inc * (n % (q + 1)) ≤ inc * q
at_most_last inc q n = mul-le-mul_left inc (inside_round q n)

last_only : (inc q x : ℕ) → 1 ≤ inc → x ≤ q → inc * x ≡ inc * q → x ≡ q
last_only inc q x some most e =
    let h : q ≤ x = le_of_mul-le-mul_left {m = q} {n = x} {k = inc} (omega arith) (omega arith) in
    omega arith

pub ends_round : (inc q n : ℕ) → 1 ≤ inc → nat_eq (inc * (n % (q + 1))) (inc * q) ≡ true →
    suc (n % (q + 1)) ≡ q + 1
ends_round inc q n some e =
    let same : inc * (n % (q + 1)) ≡ inc * q = grind (arith, nat_tests) in
    let h = last_only inc q (n % (q + 1)) some (inside_round q n) same in
    omega arith

pub goes_on : (inc q n : ℕ) → nat_eq (inc * (n % (q + 1))) (inc * q) ≡ false →
    suc (n % (q + 1)) < q + 1
goes_on inc q n e = elim (cases_lt (n % (q + 1)) q) [
  | inl h ↦ omega arith
  | inr h ↦
      (let same : n % (q + 1) ≡ q = (let l = inside_round q n in omega arith) in
      let f : nat_eq (inc * q) (inc * q) ≡ false =
      subst (λ x. nat_eq (inc * x) (inc * q) ≡ false) same e in
      absurd (differs (inc * q) f))
]
  where
    differs : (x : ℕ) → nat_eq x x ≡ false → ⊥
    differs x e = grind (arith, nat_tests)

pub next_multiple : (inc q n : ℕ) → 1 ≤ inc → (b : Bool) →
    nat_eq (inc * (n % (q + 1))) (inc * q) ≡ b →
    (if b then 0 else inc * (n % (q + 1)) + inc) ≡ inc * (suc n % (q + 1))
next_multiple inc q n some true e =
    let h = first_in_round n (q + 1) (ends_round inc q n some e) in
    rw h (omega arith)
next_multiple inc q n some false e =
    let h = next_in_round n (q + 1) (goes_on inc q n e) in
    rw h (omega arith)

-- a field within the low part of a number
pub field_in_low : (a c low width all : ℕ) → low + width ≤ all → c < 2 ^ all →
    (a * 2 ^ all + c) / 2 ^ low % 2 ^ width ≡ c / 2 ^ low % 2 ^ width
field_in_low a c low width all h fits =
    sym (field_of (a * 2 ^ all + c) width low)
    ∙ ap (λ x. x / 2 ^ low) (cut a c (width + low) all (omega arith) fits)
    ∙ field_of c width low
  where
    cut : (a c few all : ℕ) → few ≤ all → c < 2 ^ all →
        (a * 2 ^ all + c) % 2 ^ few ≡ c % 2 ^ few
    cut a c few all h fits =
        let e : all - few + few ≡ all = omega arith in
        sym (subst (λ k. (a * 2 ^ all + c) % 2 ^ k % 2 ^ few ≡ (a * 2 ^ all + c) % 2 ^ few) e
        (mod-mod-pow (a * 2 ^ all + c) (all - few) few))
        ∙ ap (λ x. x % 2 ^ few) (mod-mul-add a (2 ^ all) c fits)
