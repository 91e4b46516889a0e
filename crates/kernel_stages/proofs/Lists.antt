-- What is left of lists from a place on.
use Rattle.std.proofs.Common.{◌≡◌, ℕ, zero, suc, ◌+◌, ◌<◌, ◌≤◌, Bool, true, false, eqb, List, []}
use Rattle.std.proofs.Common.{◌∷◌, ◌++◌, length, drop, get_or, Some, refl, sym, ◌∙◌, subst, arith, add-one, drop-cons, length-append}
use Rattle.std.specs.Prelude.{All, slice_get}
use Rattle.std.proofs.lemmas.Bool.{eqb-true}

pub drop_front : {A : Type 0} (xs : List A) (i : ℕ) (d : A) → i < length xs → drop i xs ≡ get_or xs i d ∷ drop (i + 1) xs
drop_front xs i d h = rw (add-one, drop-cons xs i d) refl

pub drop_all : {A : Type 0} (xs : List A) (i : ℕ) → length xs ≤ i → drop i xs ≡ []
drop_all [] zero h = refl
drop_all [] (suc i) h = refl
drop_all (x ∷ xs) zero h = absurd (omega arith)
drop_all (x ∷ xs) (suc i) h = drop_all xs i (omega arith)

-- an item of a list is there whatever stands for one past the end
pub same_item : {A : Type 0} (xs : List A) (i : ℕ) (d e : A) → i < length xs → get_or xs i d ≡ get_or xs i e
same_item [] i d e h = absurd (omega arith)
same_item (x ∷ xs) zero d e h = refl
same_item (x ∷ xs) (suc i) d e h = same_item xs i d e (omega arith)

-- a list that was read from a list of lists
pub item_is : {A : Type 0} (xss : List (List A)) (u : ℕ) (it read : List A) → read ≡ it → it ≡ get_or xss u it → u < length xss → read ≡ get_or xss u []
item_is xss u it read e is lt = e ∙ (is ∙ same_item xss u it [] lt)

pub all_more : {A : Type 0} (P : A → Type 0) (xs : List A) (x : A) → All P xs → P x → All P (xs ++ x ∷ [])
all_more P [] x h p zero d lt = p
all_more P [] x h p (suc k) d lt = absurd (omega arith)
all_more P (y ∷ ys) x h p zero d lt = h zero d (omega arith)
all_more P (y ∷ ys) x h p (suc k) d lt = all_more P ys x (λ j e l. h (suc j) e (omega (arith, l))) p k d (omega arith)

pub got : {A : Type 0} (xs : List A) (i : ℕ) (d x : A) → slice_get xs i ≡ Some x → get_or xs i d ≡ x
got [] i d x h = cc
got (y ∷ ys) zero d x h = cc
got (y ∷ ys) (suc i) d x h = got ys i d x h

-- one number more
pub each_more : (P : ℕ → Type 0) (i : ℕ) → ((j : ℕ) → j < i → P j) → P i → (j : ℕ) → j < i + 1 → P j
each_more P i h x j lt = by_test (eqb j i) refl
  where
    by_test : (b : Bool) → eqb j i ≡ b → P j
    by_test true e = subst P (sym (eqb-true j i e)) x
    by_test false e = h j (grind (arith, lt, e))

pub push_before : {A : Type 0} (xs : List A) (x d : A) (i : ℕ) → i < length xs → get_or (xs ++ x ∷ []) i d ≡ get_or xs i d
push_before [] x d i h = absurd (omega (arith, h))
push_before (y ∷ xs) x d zero h = refl
push_before (y ∷ xs) x d (suc i) h = push_before xs x d i (omega (arith, h))

pub push_last : {A : Type 0} (xs : List A) (x d : A) → get_or (xs ++ x ∷ []) (length xs) d ≡ x
push_last [] x d = refl
push_last (y ∷ xs) x d = push_last xs x d

-- what holds of each item, by its place, holds when one more was added of which it holds
pub each_pushed : {A : Type 0} (P : ℕ → A → Type 0) (xs : List A) (x d : A) → ((i : ℕ) → i < length xs → P i (get_or xs i d)) → P (length xs) x
    → (i : ℕ) → i < length (xs ++ x ∷ []) → P i (get_or (xs ++ x ∷ []) i d)
each_pushed P xs x d each last i lt = by_test (eqb i (length xs)) refl
  where
    by_test : (b : Bool) → eqb i (length xs) ≡ b → P i (get_or (xs ++ x ∷ []) i d)
    by_test true e =
        let at : i ≡ length xs = eqb-true i (length xs) e in
        subst (λ k. P k (get_or (xs ++ x ∷ []) k d)) (sym at) (subst (P (length xs)) (sym (push_last xs x d)) last)
    by_test false e =
        let size = length-append xs (x ∷ []) in
        let below : i < length xs = grind (arith, lt, e, size) in
        subst (P i) (sym (push_before xs x d i below)) (each i below)
