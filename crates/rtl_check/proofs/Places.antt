-- Items of a list by their place, after a change of the list.
use Rattle.std.proofs.Common.{◌≡◌, ◌≢◌, ℕ, zero, suc, ◌+◌, ◌<◌, ◌≤◌, List, [], ◌∷◌, ◌++◌, length, set, take, drop, get_or, Some, refl, sym, zero-add, ◌∙◌, ap, subst, arith, ◌⊎◌, inl, inr, ⊎_elim}
use Rattle.std.specs.Prelude.{slice_get}
use Rattle.std.proofs.lemmas.Option.{slice_get_read, slice_get_within}
use Rattle.std.proofs.lemmas.List.{append-nil, drop_all, take_all}
use Rattle.std.proofs.lemmas.Bool.{cases_lt}

pub at_set : {A : Type 0} (xs : List A) (i : ℕ) (y : A) → i < length xs → slice_get (set xs i y) i ≡ Some y
at_set [] i y lt = absurd (omega arith)
at_set (x ∷ xs) zero y lt = refl
at_set (x ∷ xs) (suc i) y lt = at_set xs i y (omega arith)

pub beside_set : {A : Type 0} (xs : List A) (i j : ℕ) (y : A) → j ≢ i → slice_get (set xs i y) j ≡ slice_get xs j
beside_set [] i j y ne = refl
beside_set (x ∷ xs) zero zero y ne = absurd (ne refl)
beside_set (x ∷ xs) zero (suc j) y ne = refl
beside_set (x ∷ xs) (suc i) zero y ne = refl
beside_set (x ∷ xs) (suc i) (suc j) y ne = beside_set xs i j y (λ e. ne (ap suc e))

pub in_front : {A : Type 0} (xs ys : List A) (i : ℕ) (x : A) → slice_get xs i ≡ Some x → slice_get (xs ++ ys) i ≡ Some x
in_front [] ys i x e = absurd (cc)
in_front (z ∷ xs) ys zero x e = e
in_front (z ∷ xs) ys (suc i) x e = in_front xs ys i x e

pub at_seam : {A : Type 0} (xs : List A) (y : A) (ys : List A) → slice_get (xs ++ y ∷ ys) (length xs) ≡ Some y
at_seam [] y ys = refl
at_seam (x ∷ xs) y ys = at_seam xs y ys

-- an item of two lists joined is in the first one or the second one
pub joined_at : {A : Type 0} (xs ys : List A) (i : ℕ) (x : A) → slice_get (xs ++ ys) i ≡ Some x → (slice_get xs i ≡ Some x) ⊎ ((j : ℕ) × (slice_get ys j ≡ Some x))
joined_at [] ys i x e = inr (i, e)
joined_at (z ∷ xs) ys zero x e = inl e
joined_at (z ∷ xs) ys (suc i) x e = joined_at xs ys i x e

pub in_back : {A : Type 0} (xs ys : List A) (i : ℕ) (x : A) → slice_get ys i ≡ Some x → slice_get (xs ++ ys) (length xs + i) ≡ Some x
in_back [] ys i x e = rw (zero-add i) e
in_back (z ∷ xs) ys i x e = let q : suc (length xs) + i ≡ suc (length xs + i) = omega arith in rw q (in_back xs ys i x e)

pub some_is : {A : Type 0} {x y : A} → Some x ≡ Some y → x ≡ y
some_is e = cc

-- the item that a loop over a list comes to
pub item_at : {A : Type 0} (xs ys : List A) (i : ℕ) (x : A) → ys ≡ xs → i < length ys → x ≡ get_or ys i x → slice_get xs i ≡ Some x
item_at xs ys i x e lt is = rw (← e) (slice_get_read ys (length ys) i x refl lt is)

pub take_more_at : {A : Type 0} (xs : List A) (i : ℕ) (x : A) → slice_get xs i ≡ Some x → take (i + 1) xs ≡ take i xs ++ x ∷ []
take_more_at [] i x e = absurd (cc)
take_more_at (z ∷ xs) zero x e = let p : z ≡ x = some_is e in rw p refl
take_more_at (z ∷ xs) (suc i) x e = let q : suc i + 1 ≡ suc (i + 1) = omega arith in rw q (ap (λ l. z ∷ l) (take_more_at xs i x e))

-- what holds of the items before a place and of the item there
pub more_hold : {A : Type 0} (P : A → Type 0) (xs : List A) (i : ℕ) (x : A)
    → slice_get xs i ≡ Some x → P x → ((j : ℕ) (y : A) → j < i → slice_get xs j ≡ Some y → P y)
    → (j : ℕ) (y : A) → j < i + 1 → slice_get xs j ≡ Some y → P y
more_hold P xs i x at here before j y lt is = by_place (cases_lt j i)
  where
    by_place : (j < i) ⊎ (i ≤ j) → P y
    by_place (inl less) = before j y less is
    by_place (inr ge) =
        let e : j ≡ i = omega arith in
        subst P (some_is (sym at ∙ sym (ap (slice_get xs) e) ∙ is)) here

pub all_hold : {A : Type 0} (P : A → Type 0) (xs : List A) (i : ℕ) → length xs ≤ i → ((j : ℕ) (y : A) → j < i → slice_get xs j ≡ Some y → P y) → (j : ℕ) (y : A) → slice_get xs j ≡ Some y → P y
all_hold P xs i past before j y is = before j y (omega (arith, slice_get_within xs j y is)) is

-- a list behind which nothing of the old one is left
pub written_back : {A : Type 0} (n : ℕ) (new old : List A) → length new ≡ length old → n ≡ length old → take n (new ++ drop (length new) old) ≡ new
written_back n new old e f = rw (drop_all (length new) old (omega (arith, e)), append-nil new) (take_all n new (omega (arith, e, f)))

-- an item of a list with one more
pub pushed_at : {A : Type 0} (xs : List A) (i : ℕ) (y x : A) → slice_get (xs ++ y ∷ []) i ≡ Some x → (slice_get xs i ≡ Some x) ⊎ ((i ≡ length xs) × (y ≡ x))
pushed_at [] zero y x is = inr (refl, some_is is)
pushed_at [] (suc i) y x is = absurd (cc)
pushed_at (z ∷ xs) zero y x is = inl is
pushed_at (z ∷ xs) (suc i) y x is = ⊎_elim (λ old. inl old) (λ new. inr (ap suc new.0, new.1)) (pushed_at xs i y x is)
