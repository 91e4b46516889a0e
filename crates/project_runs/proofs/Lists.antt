-- What stands at a place of a list.
use Rattle.std.proofs.Common.{◌≡◌, ◌⊎◌, ℕ, zero, suc, ◌+◌, ◌-◌, ◌<◌, ◌≤◌, List, [], ◌∷◌, ◌++◌, map, Option, Some, None, length, refl, sym, ap, ◌∙◌, arith, inl, inr}
use Rattle.std.specs.Prelude.{slice_get, unwrap_or}
use Rattle.std.proofs.lemmas.Option.{same_Some}
use Rattle.project_rtl.specs.Tops.{range}

pub get_left : {A : Type 0} (xs ys : List A) (k : ℕ) → k < length xs → slice_get (xs ++ ys) k ≡ slice_get xs k
get_left [] ys k h = absurd (omega arith)
get_left (x ∷ xs) ys zero h = refl
get_left (x ∷ xs) ys (suc k) h = get_left xs ys k (omega arith)

get_right : {A : Type 0} (xs ys : List A) (k : ℕ) → slice_get (xs ++ ys) (length xs + k) ≡ slice_get ys k
get_right [] ys k = let e : 0 + k ≡ k = omega arith in ap (λ j. slice_get ys j) e
get_right (x ∷ xs) ys k = let e : suc (length xs) + k ≡ suc (length xs + k) = omega arith in ap (λ j. slice_get (x ∷ xs ++ ys) j) e ∙ get_right xs ys k

pub get_behind : {A : Type 0} (xs ys : List A) (n k : ℕ) → n ≡ length xs → slice_get (xs ++ ys) (n + k) ≡ slice_get ys k
get_behind xs ys n k e = ap (λ j. slice_get (xs ++ ys) (j + k)) e ∙ get_right xs ys k

-- there is one at each place within
pub record IsThere {A : Type 0} (found : Option A) : Type 0 where
  pub one : A
  pub at : found ≡ Some one

pub there : {A : Type 0} (xs : List A) (k : ℕ) → k < length xs → IsThere (slice_get xs k)
there [] k h = absurd (omega arith)
there (x ∷ xs) zero h = record { one = x; at = refl }
there (x ∷ xs) (suc k) h = there xs k (omega arith)

pub within : {A : Type 0} (xs : List A) (k : ℕ) (x : A) → slice_get xs k ≡ Some x → k < length xs
within [] k x e = absurd (cc)
within (y ∷ xs) zero x e = omega arith
within (y ∷ xs) (suc k) x e = let h = within xs k x e in omega arith

pub get_some : {A : Type 0} (o : Option A) (d : A) → IsThere o → o ≡ Some (unwrap_or o d)
get_some None d h = absurd (let e = h.at in cc)
get_some (Some x) d h = refl

pub length_map : {A B : Type 0} (f : A → B) (xs : List A) → length (map f xs) ≡ length xs
length_map f [] = refl
length_map f (x ∷ xs) = ap suc (length_map f xs)

pub get_map : {A B : Type 0} (f : A → B) (xs : List A) (k : ℕ) (x : A) → slice_get xs k ≡ Some x → slice_get (map f xs) k ≡ Some (f x)
get_map f [] k x e = absurd (cc)
get_map f (y ∷ xs) zero x e = let same : y ≡ x = cc in ap (λ z. Some (f z)) same
get_map f (y ∷ xs) (suc k) x e = get_map f xs k x e

-- what stands at a place of an image
pub record IsFrom {A B : Type 0} (f : A → B) (xs : List A) (i : ℕ) (y : B) : Type 0 where
  pub one : A
  pub at : slice_get xs i ≡ Some one
  pub is : f one ≡ y

pub from_map : {A B : Type 0} (f : A → B) (xs : List A) (i : ℕ) (y : B) → slice_get (map f xs) i ≡ Some y → IsFrom f xs i y
from_map f [] i y e = absurd (cc)
from_map f (x ∷ xs) zero y e = record { one = x; at = refl; is = same_Some (f x) y e }
from_map f (x ∷ xs) (suc i) y e = let r = from_map f xs i y e in record { one = r.one; at = r.at; is = r.is }

pub length_range : (from count : ℕ) → length (range from count) ≡ count
length_range from zero = refl
length_range from (suc count) = ap suc (length_range (from + 1) count)

pub range_at : (from count k : ℕ) → k < count → slice_get (range from count) k ≡ Some (from + k)
range_at from zero k h = absurd (omega arith)
range_at from (suc count) zero h = let e : from ≡ from + 0 = omega arith in ap (λ (n : ℕ). Some n) e
range_at from (suc count) (suc k) h = let e : from + 1 + k ≡ from + suc k = omega arith in range_at (from + 1) count k (omega arith) ∙ ap (λ (n : ℕ). Some n) e

-- a range behind so many others
pub range_behind : (before : List ℕ) (n from count k : ℕ) → length before ≡ n → k < count → slice_get (before ++ range from count) (n + k) ≡ Some (from + k)
range_behind before n from count k e h = get_behind before (range from count) n k (sym e) ∙ range_at from count k h

-- one place in a list of two parts
pub either_part : {A : Type 0} (xs ys : List A) (k : ℕ) (x : A) → slice_get (xs ++ ys) k ≡ Some x
    → (slice_get xs k ≡ Some x) ⊎ ((length xs ≤ k) × (slice_get ys (k - length xs) ≡ Some x))
either_part [] ys k x e = let z : k ≡ k - 0 = omega arith in inr (omega arith, ap (λ j. slice_get ys j) (sym z) ∙ e)
either_part (y ∷ xs) ys zero x e = inl e
either_part (y ∷ xs) ys (suc k) x e =
    let s : k - length xs ≡ suc k - suc (length xs) = omega arith in
    elim (either_part xs ys k x e) [ inl h ↦ inl h | inr h ↦ let l = h.0 in inr (omega arith, ap (λ j. slice_get ys j) (sym s) ∙ h.1) ]
