-- A list as far as a loop has come, and the rest.
use Rattle.std.proofs.Common.{◌≡◌, ◌∙◌, ℕ, zero, suc, ◌+◌, ◌<◌, List, [], ◌∷◌, ◌++◌, map, take, length, Some, get_or, ap}
use Rattle.std.specs.Prelude.{slice_get}
use Rattle.rtl_check.proofs.Places.{take_more_at}
use Rattle.std.proofs.lemmas.Option.{slice_get-get_or}
use Rattle.verilog_read.proofs.Tables.{map_joined}

-- the items before a place, the one there, and those behind it
pub record Split {A : Type 0} (xs : List A) (i : ℕ) (x : A) : Type 0 where
  pub rest : List A
  pub whole : xs ≡ take i xs ++ x ∷ rest
  pub more : take (i + 1) xs ≡ take i xs ++ x ∷ []

pub split_at : {A : Type 0} (xs : List A) (i : ℕ) (x : A) → slice_get xs i ≡ Some x → Split xs i x
split_at xs i x e = let r = behind xs i x e in record { rest = r.0; whole = r.1; more = take_more_at xs i x e }
  where
    behind : {A : Type 0} (xs : List A) (i : ℕ) (x : A) → slice_get xs i ≡ Some x → (rest : List A) × (xs ≡ take i xs ++ x ∷ rest)
    behind [] i x e = absurd (cc)
    behind (y ∷ xs) zero x e = let p : y ≡ x = cc in (xs, ap (λ z. z ∷ xs) p)
    behind (y ∷ xs) (suc i) x e = let r = behind xs i x e in (r.0, ap (λ l. y ∷ l) r.1)

pub get_split : {A : Type 0} (xs : List A) (i : ℕ) (d : A) → i < length xs → Split xs i (get_or xs i d)
get_split xs i d lt = split_at xs i (get_or xs i d) (slice_get-get_or xs i d lt)

-- the same of what is made of each item
pub map_more : {A B : Type 0} (f : A → B) {xs : List A} {i : ℕ} {x : A} → Split xs i x → map f (take (i + 1) xs) ≡ map f (take i xs) ++ f x ∷ []
map_more f {xs = xs} {i = i} {x = x} s = ap (map f) s.more ∙ map_joined f (take i xs) (x ∷ [])

pub map_whole : {A B : Type 0} (f : A → B) {xs : List A} {i : ℕ} {x : A} (s : Split xs i x) → map f xs ≡ map f (take i xs) ++ f x ∷ map f s.rest
map_whole f {xs = xs} {i = i} {x = x} s = ap (map f) s.whole ∙ map_joined f (take i xs) (x ∷ s.rest)
