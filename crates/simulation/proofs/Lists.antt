-- Lists whose items are written one by one.
use Rattle.std.proofs.Common.{◌≡◌, ◌≢◌, ℕ, zero, suc, ◌+◌, ◌<◌, List, [], ◌∷◌, ◌++◌, length, map, set, take, Option, Some, refl, sym, ap, ◌∙◌, subst, ⊎_elim, arith}
use Rattle.std.specs.Prelude.{slice_get}
use Rattle.std.proofs.lemmas.Bool.{cases_eq}
use Rattle.std.proofs.lemmas.List.{length-set}
use Rattle.std.proofs.lemmas.Option.{slice_get_within}

pub get_set_same : {A : Type 0} (xs : List A) (k : ℕ) (x : A) → k < length xs → slice_get (set xs k x) k ≡ Some x
get_set_same [] k x h = absurd (omega arith)
get_set_same (y ∷ xs) zero x h = refl
get_set_same (y ∷ xs) (suc k) x h = get_set_same xs k x (omega arith)

pub get_set_other : {A : Type 0} (xs : List A) (k j : ℕ) (x : A) → j ≢ k → slice_get (set xs k x) j ≡ slice_get xs j
get_set_other [] k j x h = refl
get_set_other (y ∷ xs) zero zero x h = absurd (h refl)
get_set_other (y ∷ xs) zero (suc j) x h = refl
get_set_other (y ∷ xs) (suc k) zero x h = refl
get_set_other (y ∷ xs) (suc k) (suc j) x h = get_set_other xs k j x (λ e. h (ap suc e))

-- a function that sees the same of the new item
pub map_set_same : {A B : Type 0} (f : A → B) (xs : List A) (k : ℕ) (old new : A) → slice_get xs k ≡ Some old → f new ≡ f old → map f (set xs k new) ≡ map f xs
map_set_same f [] k old new e same = absurd (cc)
map_set_same f (y ∷ xs) zero old new e same = let q : y ≡ old = cc in ap (λ z. z ∷ map f xs) (same ∙ ap f (sym q))
map_set_same f (y ∷ xs) (suc k) old new e same = ap (λ zs. f y ∷ zs) (map_set_same f xs k old new e same)

-- what holds of an item of a list in which one was written: it is the one written, or an old one
pub in_set : {A P : Type 0} (xs : List A) (k j : ℕ) (x y : A) → slice_get (set xs k x) j ≡ Some y → (j ≡ k → k < length xs → y ≡ x → P) → (j ≢ k → slice_get xs j ≡ Some y → P) → P
in_set xs k j x y e here there = ⊎_elim
    (λ q. let w : j < length xs = (let r = slice_get_within (set xs k x) j y e in omega (arith, length-set xs k x)) in
    let lt : k < length xs = omega arith in
    let s = get_set_same xs k x lt in
    here q lt (let t : slice_get (set xs k x) k ≡ Some y = ap (slice_get (set xs k x)) (sym q) ∙ e in cc))
    (λ n. there n (sym (get_set_other xs k j x n) ∙ e))
    (cases_eq j k)

-- what holds of each item before a place, and of the one written there
pub each_more : {A : Type 0} (P : ℕ → A → Type 0) (xs : List A) (k : ℕ) (x : A)
    → ((j : ℕ) (y : A) → j < k → slice_get xs j ≡ Some y → P j y) → P k x → (j : ℕ) (y : A)
    → j < k + 1 → slice_get (set xs k x) j ≡ Some y → P j y
each_more P xs k x below here j y lt e = in_set xs k j x y e
    (λ q w s. subst (λ z. P j z) (sym s) (subst (λ i. P i x) (sym q) here))
    (λ n there. below j y (omega arith) there)

-- what holds of each item, and of the one written in place of another
pub each_set : {A : Type 0} (P : ℕ → A → Type 0) (xs : List A) (k : ℕ) (x : A)
    → ((j : ℕ) (y : A) → slice_get xs j ≡ Some y → P j y) → P k x → (j : ℕ) (y : A)
    → slice_get (set xs k x) j ≡ Some y → P j y
each_set P xs k x each here j y e = in_set xs k j x y e
    (λ q w s. subst (λ z. P j z) (sym s) (subst (λ i. P i x) (sym q) here))
    (λ n there. each j y there)

pub same_some : {A : Type 0} (o : Option A) (x y : A) → o ≡ Some x → o ≡ Some y → x ≡ y
same_some o x y e f = cc

pub map_at : {A B : Type 0} (f : A → B) (xs : List A) (k : ℕ) (x : A) → slice_get xs k ≡ Some x → slice_get (map f xs) k ≡ Some (f x)
map_at f [] k x e = absurd (cc)
map_at f (y ∷ xs) zero x e = let q : y ≡ x = cc in ap (λ z. Some (f z)) q
map_at f (y ∷ xs) (suc k) x e = map_at f xs k x e

pub map_from : {A B : Type 0} (f : A → B) (xs : List A) (k : ℕ) (y : B) → slice_get (map f xs) k ≡ Some y → (x : A) × (slice_get xs k ≡ Some x) × (f x ≡ y)
map_from f [] k y e = absurd (cc)
map_from f (x ∷ xs) zero y e = (x, refl, (let q = e in cc))
map_from f (x ∷ xs) (suc k) y e = map_from f xs k y e

pub item_in : {A : Type 0} (xs : List A) (k : ℕ) → k < length xs → (x : A) × (slice_get xs k ≡ Some x)
item_in [] k h = absurd (omega arith)
item_in (x ∷ xs) zero h = (x, refl)
item_in (x ∷ xs) (suc k) h = item_in xs k (omega arith)

-- what holds of each item, and of one more
pub each_push : {A : Type 0} (P : ℕ → A → Type 0) (xs : List A) (x : A)
    → ((j : ℕ) (y : A) → slice_get xs j ≡ Some y → P j y) → P (length xs) x → (j : ℕ) (y : A)
    → slice_get (xs ++ x ∷ []) j ≡ Some y → P j y
each_push P [] x each here zero y e = let q : x ≡ y = cc in subst (P zero) q here
each_push P [] x each here (suc j) y e = absurd (cc)
each_push P (z ∷ xs) x each here zero y e = each zero y e
each_push P (z ∷ xs) x each here (suc j) y e = each_push (λ i w. P (suc i) w) xs x (λ i w h. each (suc i) w h) here j y e

pub in_take : {A : Type 0} (n : ℕ) (xs : List A) (j : ℕ) (y : A) → slice_get (take n xs) j ≡ Some y → slice_get xs j ≡ Some y
in_take zero xs j y e = absurd (cc)
in_take (suc n) [] j y e = absurd (cc)
in_take (suc n) (x ∷ xs) zero y e = e
in_take (suc n) (x ∷ xs) (suc j) y e = in_take n xs j y e

-- the items of two lists, one behind the other
pub get_left : {A : Type 0} (xs ys : List A) (i : ℕ) (x : A) → slice_get xs i ≡ Some x → slice_get (xs ++ ys) i ≡ Some x
get_left [] ys i x e = absurd (cc)
get_left (z ∷ xs) ys zero x e = e
get_left (z ∷ xs) ys (suc i) x e = get_left xs ys i x e

pub get_right : {A : Type 0} (xs ys : List A) (i j : ℕ) (x : A) → i ≡ length xs + j → slice_get ys j ≡ Some x → slice_get (xs ++ ys) i ≡ Some x
get_right [] ys i j x e at = let q : i ≡ j = omega (arith, e) in ap (slice_get ys) q ∙ at
get_right (z ∷ xs) ys zero j x e at = absurd (omega (arith, e))
get_right (z ∷ xs) ys (suc i) j x e at = get_right xs ys i j x (omega (arith, e)) at

pub get_either : {A P : Type 0} (xs ys : List A) (i : ℕ) (x : A) → slice_get (xs ++ ys) i ≡ Some x → (slice_get xs i ≡ Some x → P) → ((j : ℕ) → i ≡ length xs + j → slice_get ys j ≡ Some x → P) → P
get_either [] ys i x e left right = right i (omega arith) e
get_either (z ∷ xs) ys zero x e left right = left e
get_either (z ∷ xs) ys (suc i) x e left right = get_either xs ys i x e left (λ j q at. right j (omega (arith, q)) at)

-- lists that a function sees alike
pub same_map_at : {A B C : Type 0} (f : A → C) (g : B
    → C) (xs : List A) (ys : List B) (k : ℕ) (x : A) → map f xs ≡ map g ys
    → slice_get xs k ≡ Some x → (y : B) × (slice_get ys k ≡ Some y) × (g y ≡ f x)
same_map_at f g xs ys k x e at = map_from g ys k (f x) (ap (λ l. slice_get l k) (sym e) ∙ map_at f xs k x at)
