-- Items of lists by their places.
use Rattle.std.proofs.Common.{◌≡◌, ℕ, zero, suc, ◌+◌, List, [], ◌∷◌, ◌++◌, length, map, Some, option_map, refl, sym, ap, ◌∙◌, arith}
use Rattle.std.specs.Prelude.{slice_get}
use Rattle.std.proofs.lemmas.List.{length-map}
use Rattle.std.proofs.lemmas.Option.{slice_get-map}

-- the item from which a function gives the one at this place
pub record MappedAt {A B : Type 0} (f : A → B) (xs : List A) (k : ℕ) (b : B) : Type 0 where
  pub item : A
  pub at : slice_get xs k ≡ Some item
  pub is : f item ≡ b

pub mapped_at : {A B : Type 0} (f : A → B) (xs : List A) (k : ℕ) (b : B) → slice_get (map f xs) k ≡ Some b → MappedAt f xs k b
mapped_at f [] k b at = absurd (cc)
mapped_at f (x ∷ xs) zero b at = record { item = x; at = refl; is = cc }
mapped_at f (x ∷ xs) (suc k) b at = let r = mapped_at f xs k b at in record { item = r.item; at = r.at; is = r.is }

-- the item of the other list at the same place
pub beside : {A B C : Type 0} (h : A → C) (f : B → C) (xs : List A) (ys : List B) (k : ℕ) (a : A) → map h xs ≡ map f ys → slice_get xs k ≡ Some a → MappedAt f ys k (h a)
beside h f xs ys k a e at = mapped_at f ys k (h a) (ap (λ l. slice_get l k) (sym e) ∙ slice_get-map h xs k ∙ ap (option_map h) at)

pub same_lengths : {A B C : Type 0} (h : A → C) (f : B → C) (xs : List A) (ys : List B) → map h xs ≡ map f ys → length xs ≡ length ys
same_lengths h f xs ys e = sym (length-map xs h) ∙ ap length e ∙ length-map ys f

-- an item keeps its place where others are put behind it
pub before_others : {A : Type 0} (xs ys : List A) (k : ℕ) (x : A) → slice_get xs k ≡ Some x → slice_get (xs ++ ys) k ≡ Some x
before_others [] ys k x at = absurd (cc)
before_others (z ∷ xs) ys zero x at = at
before_others (z ∷ xs) ys (suc k) x at = before_others xs ys k x at

-- and is moved by their number where they are put before it
pub behind_others : {A : Type 0} (xs ys : List A) (k : ℕ) → slice_get (xs ++ ys) (length xs + k) ≡ slice_get ys k
behind_others {A = A} [] ys k = let place : length {A = A} [] + k ≡ k = omega arith in ap (slice_get ys) place
behind_others (z ∷ xs) ys k =
    let place : length (z ∷ xs) + k ≡ suc (length xs + k) = omega arith in
    ap (slice_get (z ∷ (xs ++ ys))) place ∙ behind_others xs ys k
