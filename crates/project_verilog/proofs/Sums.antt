-- Sums over the kernels of a project and over their modules.
use Rattle.std.proofs.Common.{◌≡◌, ℕ, suc, ◌*◌, ◌≤◌, List, [], ◌∷◌, Some, length, refl, ap, arith}
use Rattle.std.specs.Prelude.{slice_get}
use Rattle.std.specs.List.{sum_by}
use Rattle.std.proofs.lemmas.List.Sums.{sum_by-cons}

-- sums of which each term of the first is at most a multiple of that of the second at its place
pub sums_few : {A B : Type 0} (f : A → ℕ) (g : B → ℕ) (n : ℕ) (xs : List A) (ys : List B)
    → length xs ≡ length ys
    → ((k : ℕ) (x : A) (y : B) → slice_get xs k ≡ Some x → slice_get ys k ≡ Some y → f x ≤ n * g y)
    → sum_by f xs ≤ n * sum_by g ys
sums_few f g n [] [] long each = omega arith
sums_few f g n [] (y ∷ ys) long each = omega arith
sums_few f g n (x ∷ xs) [] long each = absurd (omega (arith, long))
sums_few f g n (x ∷ xs) (y ∷ ys) long each =
    let first = each 0 x y refl refl in
    let rest = sums_few f g n xs ys (omega (arith, long)) (λ k. each (suc k)) in
    let a = sum_by-cons f x xs in
    let b = ap (λ s. n * s) (sum_by-cons g y ys) in
    omega (arith, first, rest, a, b)

-- a sum of terms of which each is at least one
pub as_many : {A : Type 0} (f : A → ℕ) (xs : List A) → ((x : A) → 1 ≤ f x) → length xs ≤ sum_by f xs
as_many f [] each = omega arith
as_many f (x ∷ xs) each =
    let first = each x in
    let rest = as_many f xs each in
    let a = sum_by-cons f x xs in
    omega (arith, first, rest, a)
