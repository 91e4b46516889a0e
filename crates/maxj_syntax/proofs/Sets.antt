-- Sets of kinds as numbers.
use Rattle.std.proofs.Common.{◌≡◌, ◌^◌, ◌∙◌, ℕ, Bool, true, false, List, [], ◌∷◌, refl, ap, bit_or, bit_and, arith, ◌≤◌, nat_eq, ◌⊎◌, inl, inr}
use Rattle.std.proofs.lemmas.Nat.Bits.{bit_at_or, bit_at_and, bit_at-zero, bit_at-pow_same, bit_at-pow_other}
use Rattle.std.proofs.lemmas.Bool.{eqb-true, eq-eqb}
use Rattle.std.specs.Int.{bit_at}
use Rattle.maxj_syntax.specs.Choosing.{has, within, apart, set_of_kinds, set_of}
use Rattle.std.specs.List.{list_any}
use Rattle.maxj_syntax.specs.declared.kind.Kind.{Kind}
use Rattle.maxj_syntax.specs.declared.symbol.TokenClass.{TokenClass}
use Rattle.maxj_syntax.specs.TokenClasses.{number, same, among, kinds_in, class_has}
use Rattle.text_scan.proofs.ByteTests.{or_true, or_left, or_right, clash}

has_one : (s k : ℕ) → has s k ≡ true → bit_at s k ≡ 1
has_one s k e = eqb-true (bit_at s k) 1 e

one_has : (s k : ℕ) → bit_at s k ≡ 1 → has s k ≡ true
one_has s k e = eq-eqb (bit_at s k) 1 e

small : (s k : ℕ) → bit_at s k ≤ 1
small s k = omega arith

pub within_has : (a b k : ℕ) → within a b ≡ true → has a k ≡ true → has b k ≡ true
within_has a b k e h =
    let f = eqb-true (bit_or a b) b e in
    let g = bit_at_or a b k in
    let i : bit_at (bit_or a b) k ≡ bit_at b k = ap (λ x. bit_at x k) f in
    let j = has_one a k h in
    let l = small b k in
    one_has b k (omega (arith, g, i, j, l))

pub apart_has : (a b k : ℕ) → apart a b ≡ true → has a k ≡ true → has b k ≡ true → ⊥
apart_has a b k e h i =
    let f = eqb-true (bit_and a b) 0 e in
    let g = bit_at_and a b k in
    let j : bit_at (bit_and a b) k ≡ bit_at 0 k = ap (λ x. bit_at x k) f in
    let l = bit_at-zero k in
    let m = has_one a k h in
    let n = has_one b k i in
    omega (arith, g, j, l, m, n)

pub or_has_left : (a b k : ℕ) → has a k ≡ true → has (bit_or a b) k ≡ true
or_has_left a b k h = let g = bit_at_or a b k in let i = has_one a k h in let l = small b k in one_has (bit_or a b) k (omega (arith, g, i, l))

pub or_has_right : (a b k : ℕ) → has b k ≡ true → has (bit_or a b) k ≡ true
or_has_right a b k h = let g = bit_at_or a b k in let i = has_one b k h in let l = small a k in one_has (bit_or a b) k (omega (arith, g, i, l))

pub none_has : (k : ℕ) → has 0 k ≡ true → ⊥
none_has k e = let f = has_one 0 k e in let g = bit_at-zero k in omega (arith, f, g)

pub or_has : (a b k : ℕ) → has (bit_or a b) k ≡ true → (has a k ≡ true) ⊎ (has b k ≡ true)
or_has a b k e = step (has a k) refl
  where
    none_one : has a k ≡ false → bit_at a k ≡ 0
    none_one f = part (nat_eq (bit_at a k) 1) refl
      where
        part : (x : Bool) → has a k ≡ x → bit_at a k ≡ 0
        part true g = absurd (clash g f)
        part false g = let l = small a k in let n : bit_at a k ≡ 1 → ⊥ = λ i. clash (one_has a k i) f in omega (arith, l, n)

    step : (x : Bool) → has a k ≡ x → (has a k ≡ true) ⊎ (has b k ≡ true)
    step true f = inl f
    step false f = let g = bit_at_or a b k in let i = has_one (bit_or a b) k e in let j = none_one f in inr (one_has b k (omega (arith, g, i, j, small b k)))

pow_has : (m k : ℕ) → has (2 ^ m) k ≡ true → nat_eq k m ≡ true
pow_has m k e = step (nat_eq k m) refl
  where
    step : (x : Bool) → nat_eq k m ≡ x → nat_eq k m ≡ true
    step true f = f
    step false f = let g = bit_at-pow_other m k (λ i. clash (eq-eqb k m i) f) in let h = has_one (2 ^ m) k e in absurd (omega (arith, g, h))

has_pow : (m k : ℕ) → nat_eq k m ≡ true → has (2 ^ m) k ≡ true
has_pow m k e = let f = eqb-true k m e in one_has (2 ^ m) k (ap (λ n. bit_at (2 ^ m) n) f ∙ bit_at-pow_same m)

-- the set of a list of kinds
pub kinds_have : (k : Kind) (ks : List Kind) → among k ks ≡ true → has (set_of_kinds ks) (number k) ≡ true
kinds_have k [] e = absurd (cc)
kinds_have k (j ∷ js) e = elim (or_true (same k j) _ e) [
  | inl f ↦ or_has_left (2 ^ number j) (set_of_kinds js) (number k) (has_pow (number j) (number k) f)
  | inr f ↦ or_has_right (2 ^ number j) (set_of_kinds js) (number k) (kinds_have k js f)
]

pub have_kinds : (k : Kind) (ks : List Kind) → has (set_of_kinds ks) (number k) ≡ true → among k ks ≡ true
have_kinds k [] e = absurd (none_has (number k) e)
have_kinds k (j ∷ js) e = elim (or_has (2 ^ number j) (set_of_kinds js) (number k) e) [
  | inl f ↦ or_left (same k j) _ (pow_has (number j) (number k) f)
  | inr f ↦ or_right (same k j) _ (have_kinds k js f)
]

-- and of a list of classes
pub classes_have : (k : Kind) (cs : List TokenClass) → list_any (λ (d : TokenClass). class_has d k) cs ≡ true → has (set_of cs) (number k) ≡ true
classes_have k [] e = absurd (cc)
classes_have k (c ∷ cs) e = elim (or_true (class_has c k) _ e) [
  | inl f ↦ or_has_left (set_of_kinds (kinds_in c)) (set_of cs) (number k) (kinds_have k (kinds_in c) f)
  | inr f ↦ or_has_right (set_of_kinds (kinds_in c)) (set_of cs) (number k) (classes_have k cs f)
]

pub have_classes : (k : Kind) (cs : List TokenClass) → has (set_of cs) (number k) ≡ true → list_any (λ (d : TokenClass). class_has d k) cs ≡ true
have_classes k [] e = absurd (none_has (number k) e)
have_classes k (c ∷ cs) e = elim (or_has (set_of_kinds (kinds_in c)) (set_of cs) (number k) e) [
  | inl f ↦ or_left (class_has c k) _ (have_kinds k (kinds_in c) f)
  | inr f ↦ or_right (class_has c k) _ (have_classes k cs f)
]
