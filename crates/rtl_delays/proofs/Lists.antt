-- Items of lists that grow at their end.
use Rattle.std.proofs.Common.{◌≡◌, ℕ, zero, suc, ◌<◌, Bool, true, false, ◌||◌, List, [], ◌∷◌, ◌++◌, length, Some, refl, sym, arith}
use Rattle.std.proofs.lemmas.Bool.{false≢true}
use Rattle.std.specs.Prelude.{slice_get}

pub get_left : {A : Type 0} (xs ys : List A) (n : ℕ) (x : A) → slice_get xs n ≡ Some x → slice_get (xs ++ ys) n ≡ Some x
get_left [] ys n x h = cc
get_left (y ∷ xs) ys zero x h = h
get_left (y ∷ xs) ys (suc n) x h = get_left xs ys n x h

pub get_within : {A : Type 0} (xs ys : List A) (n : ℕ) → n < length xs → slice_get (xs ++ ys) n ≡ slice_get xs n
get_within [] ys n h = absurd (omega arith)
get_within (x ∷ xs) ys zero h = refl
get_within (x ∷ xs) ys (suc n) h = get_within xs ys n (omega arith)

pub get_last : {A : Type 0} (xs : List A) (x : A) → slice_get (xs ++ x ∷ []) (length xs) ≡ Some x
get_last [] x = refl
get_last (y ∷ xs) x = get_last xs x

pub or_first : (a b : Bool) → a || b ≡ false → a ≡ false
or_first true b h = h
or_first false b h = refl

pub or_second : (a b : Bool) → a || b ≡ false → b ≡ false
or_second true b h = absurd (false≢true (sym h))
or_second false b h = h

pub or_both : (a b : Bool) → a ≡ false → b ≡ false → a || b ≡ false
or_both true b h k = absurd (false≢true (sym h))
or_both false b h k = k

-- an item of two lists
pub of_two : {A : Type 0} (P : A → Type 0) (xs ys : List A)
    → ((j : ℕ) (a : A) → slice_get xs j ≡ Some a → P a)
    → ((j : ℕ) (a : A) → slice_get ys j ≡ Some a → P a) → (j : ℕ) (a : A)
    → slice_get (xs ++ ys) j ≡ Some a → P a
of_two P [] ys f g j a e = g j a e
of_two P (x ∷ xs) ys f g zero a e = f 0 a e
of_two P (x ∷ xs) ys f g (suc j) a e = of_two P xs ys (λ i b q. f (suc i) b q) g j a e
