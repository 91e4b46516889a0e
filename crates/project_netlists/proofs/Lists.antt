-- Lists of which the items belong together.
use Rattle.std.proofs.Common.{◌≡◌, ◌∙◌, ℕ, zero, suc, ◌<◌, List, [], ◌∷◌, length, map, get_or, sym, subst, arith, refl}
use Rattle.std.specs.Prelude.{Some, All, slice_get}
use Rattle.std.specs.List.{AllZip}
use Rattle.std.proofs.lemmas.List.Elements.{All-nil, All-cons}
use Rattle.std.proofs.lemmas.Option.{same_Some}
use Rattle.manager_links.proofs.Pieces.{get_read, zip_get}

-- an item within a list
pub item_at : {A : Type 0} (xs : List A) (i : ℕ) → i < length xs → (x : A) × (slice_get xs i ≡ Some x)
item_at [] i lt = absurd (omega arith)
item_at (x ∷ xs) zero lt = (x, refl)
item_at (x ∷ xs) (suc i) lt = item_at xs i (omega arith)

-- what holds of items that were read
pub zip_read : {A B : Type 0} (R : A → B → Type 0) (xs : List A) (ys : List B) (i : ℕ) (x : A) (y : B)
    → AllZip R xs ys → i < length xs → x ≡ get_or xs i x → i < length ys → y ≡ get_or ys i y → R x y
zip_read R xs ys i x y all lt is within at =
    let there = zip_get R xs ys i x all (get_read xs i x lt is) in
    subst (R x) (same_Some there.0 y (sym there.1 ∙ get_read ys i y within at)) there.2

-- what follows of each item of the first list
pub zip_left : {A B : Type 0} (R : A → B → Type 0) (P : A → Type 0) (xs : List A) (ys : List B)
    → ((x : A) (y : B) → R x y → P x) → AllZip R xs ys → All P xs
zip_left R P [] ys follows all = All-nil P
zip_left R P (x ∷ xs) [] follows all = absurd all
zip_left R P (x ∷ xs) (y ∷ ys) follows all =
    All-cons P x xs (follows x y all.0) (zip_left R P xs ys follows all.1)

-- what follows of items and the images of those that belong to them
pub zip_map : {A B C : Type 0} (R : A → B → Type 0) (S : A → C → Type 0) (f : B → C) (xs : List A)
    (ys : List B) → ((x : A) (y : B) → R x y → S x (f y)) → AllZip R xs ys → AllZip S xs (map f ys)
zip_map R S f [] [] follows all = tt
zip_map R S f [] (y ∷ ys) follows all = absurd all
zip_map R S f (x ∷ xs) [] follows all = absurd all
zip_map R S f (x ∷ xs) (y ∷ ys) follows all =
    (follows x y all.0, zip_map R S f xs ys follows all.1)
