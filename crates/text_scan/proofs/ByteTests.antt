-- Tests of bytes and of lists of bytes.
use Rattle.std.proofs.Common.{suc, ◌+◌, take, drop, ◌≡◌, ◌∙◌, ◌⊎◌, inl, inr, ℕ, ◌==◌, Bool, true, false, cond, ◌&&◌, ◌||◌, List, [], ◌∷◌, ◌++◌, Option, Some, None, IsSome, IfNone, refl, ap, arith}
use Rattle.std.specs.List.{list_all, before_first, after_first}
use Rattle.std.specs.Str.{bytes_eq}
use Rattle.std.proofs.lemmas.Bool.Decides.{nat_tests}
use Rattle.std.proofs.lemmas.Slice.Eq.{bytes_eq-Decides}

pub and_true : (a b : Bool) → (a && b) ≡ true → (a ≡ true) × (b ≡ true)
and_true true b e = (refl, e)
and_true false b e = cc

pub both_true : (a b : Bool) → a ≡ true → b ≡ true → (a && b) ≡ true
both_true true b e f = f
both_true false b e f = e

pub or_true : (a b : Bool) → (a || b) ≡ true → (a ≡ true) ⊎ (b ≡ true)
or_true true b e = inl refl
or_true false b e = inr e

pub or_left : (a b : Bool) → a ≡ true → (a || b) ≡ true
or_left true b e = refl
or_left false b e = cc

pub or_right : (a b : Bool) → b ≡ true → (a || b) ≡ true
or_right true b e = refl
or_right false b e = e

pub clash : {b : Bool} → b ≡ true → b ≡ false → ⊥
clash e f = cc

pub not_true : (b : Bool) → (b ≡ true → ⊥) → b ≡ false
not_true true f = absurd (f refl)
not_true false f = refl

pub true_or_false : (b : Bool) → (b ≡ true) ⊎ (b ≡ false)
true_or_false true = inl refl
true_or_false false = inr refl

pub cond_split : {A : Type 0} (b : Bool) (x y z : A) → cond b x y ≡ z → ((b ≡ true) × (x ≡ z)) ⊎ ((b ≡ false) × (y ≡ z))
cond_split true x y z e = inl (refl, e)
cond_split false x y z e = inr (refl, e)

pub eq_same : (a b : ℕ) → (a == b) ≡ true → a ≡ b
eq_same a b e = grind (arith, nat_tests)

pub bytes_same : (xs ys : List ℕ) → bytes_eq xs ys ≡ true → xs ≡ ys
bytes_same xs ys e = (bytes_eq-Decides xs ys).0 e

pub bytes_refl : (xs : List ℕ) → bytes_eq xs xs ≡ true
bytes_refl xs = (bytes_eq-Decides xs xs).1 refl

pub some_is : {A : Type 0} (o : Option A) {a : A} → o ≡ Some a → IsSome o
some_is None e = cc
some_is (Some x) e = refl

pub none_some : {A : Type 0} (o : Option A) → o ≡ None → IsSome o → ⊥
none_some None e s = cc
none_some (Some t) e s = cc

pub if_none : {A : Type 0} (o : Option A) (P : Type 0) → P → IfNone o P
if_none None P p = p
if_none (Some x) P p = tt

-- a list with an item that is not in the class
pub not_all : (q : ℕ → Bool) (xs : List ℕ) (c : ℕ) (cs : List ℕ) → q c ≡ false → list_all q (xs ++ c ∷ cs) ≡ false
not_all q [] c cs e = not_true _ (λ t. clash (and_true (q c) _ t).0 e)
not_all q (x ∷ xs) c cs e = not_true _ (λ t. clash (and_true (q x) _ t).1 (not_all q xs c cs e))

take_one : (n x : ℕ) (xs : List ℕ) → take (1 + n) (x ∷ xs) ≡ x ∷ take n xs
take_one n x xs = let e : 1 + n ≡ suc n = omega arith in rw e refl

drop_one : (n x : ℕ) (xs : List ℕ) → drop (1 + n + 1) (x ∷ xs) ≡ drop (n + 1) xs
drop_one n x xs = let e : 1 + n + 1 ≡ suc (n + 1) = omega arith in rw e refl

pub before_here : (p : ℕ → Bool) (x : ℕ) (xs : List ℕ) → p x ≡ true → before_first p (x ∷ xs) ≡ []
before_here p x xs h = rw h refl

pub after_here : (p : ℕ → Bool) (x : ℕ) (xs : List ℕ) → p x ≡ true → after_first p (x ∷ xs) ≡ xs
after_here p x xs h = rw h refl

pub before_later : (p : ℕ → Bool) (x : ℕ) (xs : List ℕ) → p x ≡ false → before_first p (x ∷ xs) ≡ x ∷ before_first p xs
before_later p x xs h = rw h (take_one _ x xs)

pub after_later : (p : ℕ → Bool) (x : ℕ) (xs : List ℕ) → p x ≡ false → after_first p (x ∷ xs) ≡ after_first p xs
after_later p x xs h = rw h (drop_one _ x xs)

-- the parts of a list round the first item of the class
pub record PartsAre (p : ℕ → Bool) (xs ys zs : List ℕ) : Type 0 where
  pub before : before_first p xs ≡ ys
  pub after : after_first p xs ≡ zs

pub parts_at : (p q : ℕ → Bool) → ((b : ℕ) → q b ≡ true → p b ≡ false) → (xs : List ℕ) (c : ℕ) (cs : List ℕ) → list_all q xs ≡ true → p c ≡ true → PartsAre p (xs ++ c ∷ cs) xs cs
parts_at p q f [] c cs e h = record { before = before_here p c cs h; after = after_here p c cs h }
parts_at p q f (x ∷ xs) c cs e h =
    let (a, b) = and_true (q x) _ e in
    let no = f x a in
    let r = parts_at p q f xs c cs b h in
    record { before = before_later p x _ no ∙ ap (λ l. x ∷ l) r.before; after = after_later p x _ no ∙ r.after }

-- what stands before the first item of the class, behind items that are not of it
pub before_more : (p q : ℕ → Bool) → ((b : ℕ) → q b ≡ true → p b ≡ false) → (xs ys : List ℕ) → list_all q xs ≡ true → before_first p (xs ++ ys) ≡ xs ++ before_first p ys
before_more p q f [] ys e = refl
before_more p q f (x ∷ xs) ys e =
    let (a, b) = and_true (q x) _ e in
    before_later p x _ (f x a) ∙ ap (λ l. x ∷ l) (before_more p q f xs ys b)
