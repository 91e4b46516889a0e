-- Elements of lists by their numbers.
use Rattle.std.proofs.Common.{◌≡◌, ◌∙◌, ℕ, zero, suc, ◌*◌, ◌<◌, ◌≤◌, List, [], ◌∷◌, length, get_or, take, Some, refl, ap, subst, arith}
use Rattle.std.specs.Prelude.{map, slice_get}
use Rattle.std.specs.List.{All, sum_by}
use Rattle.std.proofs.lemmas.List.{get_or-map}
use Rattle.std.proofs.lemmas.List.Sums.{sum_by-cons}
use Rattle.std.proofs.lemmas.Option.{slice_get_within, get_or_from_slice_get}

-- what holds of all elements holds of the one with this number
pub one_of : {A : Type 0} (P : A → Type 0) (xs : List A) → All P xs → (k : ℕ) (x : A) → slice_get xs k ≡ Some x → P x
one_of P xs all k x e = subst P (get_or_from_slice_get xs k x x e) (all k x (slice_get_within xs k x e))

-- there is an element for each number below the length
pub found : {A : Type 0} (xs : List A) (k : ℕ) → k < length xs → (x : A) × (slice_get xs k ≡ Some x)
found [] k h = absurd (omega (arith, h))
found (x ∷ xs) zero h = (x, refl)
found (x ∷ xs) (suc k) h = found xs k (omega (arith, h))

-- what a list of images has at a number is the image of what the list has there
pub mapped : {A : Type 0} (f : A → ℕ) (xs : List A) (k d : ℕ) (x : A) → slice_get xs k ≡ Some x → get_or (map f xs) k d ≡ f x
mapped f xs k d x e = get_or-map f xs k x d (slice_get_within xs k x e) ∙ ap f (get_or_from_slice_get xs k x x e)

-- the first elements of a list are its own
pub get_taken : {A : Type 0} (xs : List A) (n k : ℕ) → k < length (take n xs) → slice_get (take n xs) k ≡ slice_get xs k
get_taken [] zero k h = refl
get_taken [] (suc n) k h = refl
get_taken (x ∷ xs) zero k h = absurd (omega (arith, h))
get_taken (x ∷ xs) (suc n) zero h = refl
get_taken (x ∷ xs) (suc n) (suc k) h = get_taken xs n k (omega (arith, h))

-- sums of which each term of the first is at most a multiple of that of the second
pub sum_few : {A : Type 0} (f g : A → ℕ) (n : ℕ) (xs : List A) → ((k : ℕ) (x : A) → slice_get xs k ≡ Some x → f x ≤ n * g x)
    → sum_by f xs ≤ n * sum_by g xs
sum_few f g n [] each = omega arith
sum_few f g n (x ∷ xs) each =
    let first = each 0 x refl in
    let rest = sum_few f g n xs (λ k. each (suc k)) in
    let a = sum_by-cons f x xs in
    let b = ap (λ s. n * s) (sum_by-cons g x xs) in
    omega (arith, first, rest, a, b)
