-- Lists at a place, and lists of which the items belong together.
use Rattle.std.proofs.Common.{
  ◌≡◌,
  ◌∙◌,
  ℕ,
  zero,
  suc,
  ◌+◌,
  ◌<◌,
  List,
  [],
  ◌∷◌,
  ◌++◌,
  length,
  get_or,
  take,
  drop,
  refl,
  sym,
  ap,
  subst,
  arith,
}
use Rattle.std.specs.List.{AllZip}
use Rattle.std.proofs.lemmas.List.{take_more, take-append-drop, drop_more}

-- an item within a list
pub item_at : {A : Type 0} (xs : List A) (i : ℕ) → i < length xs → (x : A) × (x ≡ get_or xs i x)
item_at [] i lt = absurd (omega arith)
item_at (x ∷ xs) zero lt = (x, refl)
item_at (x ∷ xs) (suc i) lt = item_at xs i (omega arith)

pub take_read : {A : Type 0} (xs : List A) (i : ℕ) (x : A) → i < length xs → x ≡ get_or xs i x
    → take (i + 1) xs ≡ take i xs ++ x ∷ []
take_read xs i x lt is = take_more xs i x lt ∙ ap (λ y. take i xs ++ y ∷ []) (sym is)

pub drop_read : {A : Type 0} (xs : List A) (i : ℕ) (x : A) → i < length xs → x ≡ get_or xs i x
    → drop i xs ≡ x ∷ drop (i + 1) xs
drop_read xs i x lt is = drop_more xs i x lt ∙ ap (λ y. y ∷ drop (i + 1) xs) (sym is)

pub split_read : {A : Type 0} (xs : List A) (i : ℕ) (x : A) → i < length xs → x ≡ get_or xs i x
    → xs ≡ take i xs ++ x ∷ drop (i + 1) xs
split_read xs i x lt is =
    sym (take-append-drop i xs) ∙ ap (λ rest. take i xs ++ rest) (drop_read xs i x lt is)

zip_push : {A B : Type 0} (R : A → B → Type 0) (xs : List A) (ys : List B) (x : A) (y : B)
    → AllZip R xs ys → R x y → AllZip R (xs ++ x ∷ []) (ys ++ y ∷ [])
zip_push R [] [] x y all one = (one, tt)
zip_push R [] (b ∷ ys) x y all one = absurd all
zip_push R (a ∷ xs) [] x y all one = absurd all
zip_push R (a ∷ xs) (b ∷ ys) x y all one = (all.0, zip_push R xs ys x y all.1 one)

-- the items up to a place, and those at it
pub zip_made : {A B : Type 0} (R : A → B → Type 0) (xs : List A) (ys : List B) (i : ℕ) (x : A) (y : B)
    → i < length xs → x ≡ get_or xs i x → AllZip R (take i xs) ys → R x y
    → AllZip R (take (i + 1) xs) (ys ++ y ∷ [])
zip_made R xs ys i x y lt is all one =
    subst (λ zs. AllZip R zs (ys ++ y ∷ [])) (sym (take_read xs i x lt is))
    (zip_push R (take i xs) ys x y all one)

pub zip_more : {A B : Type 0} (R : A → B → Type 0) (xs : List A) (ys : List B) (i : ℕ) (x : A) (y : B)
    → i < length xs → x ≡ get_or xs i x → i < length ys → y ≡ get_or ys i y
    → AllZip R (take i xs) (take i ys) → R x y → AllZip R (take (i + 1) xs) (take (i + 1) ys)
zip_more R xs ys i x y lt is within at all one =
    subst (AllZip R (take (i + 1) xs)) (sym (take_read ys i y within at))
    (zip_made R xs (take i ys) i x y lt is all one)

pub zip_length : {A B : Type 0} (R : A → B → Type 0) (xs : List A) (ys : List B)
    → AllZip R xs ys → length xs ≡ length ys
zip_length R [] [] all = refl
zip_length R [] (b ∷ ys) all = absurd all
zip_length R (a ∷ xs) [] all = absurd all
zip_length R (a ∷ xs) (b ∷ ys) all = ap suc (zip_length R xs ys all.1)

pub zip_at : {A B : Type 0} (R : A → B → Type 0) (xs : List A) (ys : List B) (i : ℕ) (x : A) (y : B)
    → AllZip R xs ys → i < length xs → R (get_or xs i x) (get_or ys i y)
zip_at R [] ys i x y all lt = absurd (omega arith)
zip_at R (a ∷ xs) [] i x y all lt = absurd all
zip_at R (a ∷ xs) (b ∷ ys) zero x y all lt = all.0
zip_at R (a ∷ xs) (b ∷ ys) (suc i) x y all lt = zip_at R xs ys i x y all.1 (omega arith)

-- what holds of items that were read
pub zip_read : {A B : Type 0} (R : A → B → Type 0) (xs : List A) (ys : List B) (i : ℕ) (x : A) (y : B)
    → AllZip R xs ys → i < length xs → x ≡ get_or xs i x → y ≡ get_or ys i y → R x y
zip_read R xs ys i x y all lt is at =
    subst (R x) (sym at) (subst (λ a. R a (get_or ys i y)) (sym is) (zip_at R xs ys i x y all lt))
