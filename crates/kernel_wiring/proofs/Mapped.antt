-- Items of lists to which a function was applied.
use Rattle.std.proofs.Common.{◌≡◌, ◌<◌, ℕ, zero, suc, List, [], ◌∷◌, map, length, get_or, Some, refl, ap, arith}
use Rattle.std.specs.Prelude.{slice_get}

pub get_map : {X Y : Type 0} (f : X → Y) (xs : List X) (i : ℕ) (y : Y) (x : X) → i < length xs → get_or (map f xs) i y ≡ f (get_or xs i x)
get_map f [] i y x h = absurd (omega arith)
get_map f (z ∷ xs) zero y x h = refl
get_map f (z ∷ xs) (suc i) y x h = get_map f xs i y x (omega (arith, h))

pub slice_map : {X Y : Type 0} (f : X → Y) (xs : List X) (i : ℕ) (x : X) → i < length xs → slice_get (map f xs) i ≡ Some (f (get_or xs i x))
slice_map f [] i x h = absurd (omega arith)
slice_map f (z ∷ xs) zero x h = refl
slice_map f (z ∷ xs) (suc i) x h = slice_map f xs i x (omega (arith, h))

pub length_map : {X Y : Type 0} (f : X → Y) (xs : List X) → length (map f xs) ≡ length xs
length_map f [] = refl
length_map f (z ∷ xs) = ap suc (length_map f xs)
