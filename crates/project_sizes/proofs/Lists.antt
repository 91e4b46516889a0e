-- What stands behind others in a list, and numbers one after another.
use Rattle.std.proofs.Common.{◌≡◌, ◌∙◌, ℕ, zero, suc, ◌+◌, List, [], ◌∷◌, ◌++◌, length, refl, ap, arith}
use Rattle.std.specs.Prelude.{slice_get}
use Rattle.project_rtl.specs.Tops.{range}

get_right : {A : Type 0} (xs ys : List A) (k : ℕ) → slice_get (xs ++ ys) (length xs + k) ≡ slice_get ys k
get_right [] ys k = let e : 0 + k ≡ k = omega arith in ap (λ j. slice_get ys j) e
get_right (x ∷ xs) ys k =
    let e : suc (length xs) + k ≡ suc (length xs + k) = omega arith in
    ap (λ j. slice_get (x ∷ xs ++ ys) j) e ∙ get_right xs ys k

pub get_behind : {A : Type 0} (xs ys : List A) (n k : ℕ) → n ≡ length xs → slice_get (xs ++ ys) (n + k) ≡ slice_get ys k
get_behind xs ys n k e = ap (λ j. slice_get (xs ++ ys) (j + k)) e ∙ get_right xs ys k

pub length_range : (from count : ℕ) → length (range from count) ≡ count
length_range from zero = refl
length_range from (suc count) = ap suc (length_range (from + 1) count)

pub range_append : (from a b : ℕ) → range from (a + b) ≡ range from a ++ range (from + a) b
range_append from zero b =
    let e : 0 + b ≡ b = omega arith in
    let f : from ≡ from + 0 = omega arith in
    ap (λ k. range from k) e ∙ ap (λ k. range k b) f
range_append from (suc a) b =
    let e : suc a + b ≡ suc (a + b) = omega arith in
    let f : from + 1 + a ≡ from + suc a = omega arith in
    ap (λ k. range from k) e ∙ ap (λ l. from ∷ l) (range_append (from + 1) a b ∙ ap (λ k. range (from + 1) a ++ range k b) f)
