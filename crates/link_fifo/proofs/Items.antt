-- What holds of each item of a list, where the items are numbered from some number on.
use Rattle.std.proofs.Common.{◌≡◌, ℕ, zero, suc, ◌+◌, ◌<◌, Bool, true, false, ◌&&◌, ◌||◌, not, List, [], ◌∷◌, length, refl, subst, arith}
use Rattle.std.specs.Prelude.{slice_get, Some}

abbrev pub Each : {A : Type 0} → (ℕ → A → Type 0) → ℕ → List A → Type 0
Each P k [] = Unit {0}
Each P k (x ∷ xs) = P k x × Each P (k + 1) xs

each_from : {A : Type 0} (P : ℕ → A → Type 0) (k : ℕ) (xs : List A) → Each P k xs → (j : ℕ) (x : A) → slice_get xs j ≡ Some x → P (k + j) x
each_from P k [] h j x e = absurd (cc)
each_from P k (y ∷ ys) h zero x e =
    let same : y ≡ x = cc in
    let n : k ≡ k + 0 = omega arith in
    subst (λ i. P i x) n (subst (P k) same h.0)
each_from P k (y ∷ ys) h (suc j) x e =
    let n : k + 1 + j ≡ k + suc j = omega arith in
    subst (λ i. P i x) n (each_from P (k + 1) ys h.1 j x e)

pub each_at : {A : Type 0} (P : ℕ → A → Type 0) (xs : List A) → Each P 0 xs → (j : ℕ) (x : A) → slice_get xs j ≡ Some x → P j x
each_at P xs h j x e = let n : 0 + j ≡ j = omega arith in subst (λ i. P i x) n (each_from P 0 xs h j x e)

pub and_true : (a b : Bool) → a && b ≡ true → (a ≡ true) × (b ≡ true)
and_true true b h = (refl, h)
and_true false b h = absurd (cc)

pub or_second : (a b : Bool) → a || b ≡ true → a ≡ false → b ≡ true
or_second true b h e = absurd (cc)
or_second false b h e = h

pub not_true : (a : Bool) → not a ≡ true → a ≡ false
not_true true h = absurd (cc)
not_true false h = refl

-- whether a test holds of each item with its number
abbrev pub holds_all : {A : Type 0} → (ℕ → A → Bool) → ℕ → List A → Bool
holds_all f k [] = true
holds_all f k (x ∷ xs) = f k x && holds_all f (k + 1) xs

pub each_holds : {A : Type 0} (f : ℕ → A → Bool) (k : ℕ) (xs : List A) → holds_all f k xs ≡ true → Each (λ j x. f j x ≡ true) k xs
each_holds f k [] h = tt
each_holds f k (x ∷ xs) h =
    let parts = and_true (f k x) (holds_all f (k + 1) xs) h in
    (parts.0, each_holds f (k + 1) xs parts.1)

pub holds_at : {A : Type 0} (f : ℕ → A → Bool) (xs : List A) → holds_all f 0 xs ≡ true → (j : ℕ) (x : A) → slice_get xs j ≡ Some x → f j x ≡ true
holds_at f xs h = each_at (λ j x. f j x ≡ true) xs (each_holds f 0 xs h)

-- whether a test holds of each number
abbrev pub all_of : (ℕ → Bool) → List ℕ → Bool
all_of f [] = true
all_of f (x ∷ xs) = f x && all_of f xs

pub all_at : (f : ℕ → Bool) (xs : List ℕ) → all_of f xs ≡ true → (i x : ℕ) → slice_get xs i ≡ Some x → f x ≡ true
all_at f [] h i x e = absurd (cc)
all_at f (y ∷ ys) h zero x e =
    let same : y ≡ x = cc in
    subst (λ z. f z ≡ true) same (and_true (f y) (all_of f ys) h).0
all_at f (y ∷ ys) h (suc i) x e = all_at f ys (and_true (f y) (all_of f ys) h).1 i x e

-- the item at a place that there is
pub item_at : {A : Type 0} (xs : List A) (n : ℕ) → n < length xs → (x : A) × (slice_get xs n ≡ Some x)
item_at [] n h = absurd (omega arith)
item_at (x ∷ xs) zero h = (x, refl)
item_at (x ∷ xs) (suc n) h = item_at xs n (omega arith)

-- what a table gives, and 0 past its end
abbrev pub in_table : List ℕ → ℕ → ℕ
in_table [] n = 0
in_table (x ∷ xs) zero = x
in_table (x ∷ xs) (suc n) = in_table xs n
