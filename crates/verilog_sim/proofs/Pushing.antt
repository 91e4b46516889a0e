-- Loops that push what they make of each item of a list.
use Rattle.std.proofs.Common.{◌≡◌, ℕ, ◌+◌, ◌<◌, Bool, true, false, List, [], ◌∷◌, ◌++◌, map, take, replicate, length, get_or, sym, ap, ◌∙◌, append_assoc, append-nil, refl, subst, ⊎_elim, arith}
use Rattle.std.specs.List.{filter}
use Rattle.std.proofs.Math.Seq.{get_or-append_seam}
use Rattle.std.proofs.lemmas.Bool.{cases_lt}
use Rattle.std.proofs.lemmas.List.{take_more, map-append, replicate_more, length_push, get_or_append_left}
use Rattle.std.proofs.lemmas.List.Elements.{filter-append}

-- the items up to this one
up_to : {A : Type 0} (xs : List A) (i : ℕ) (x : A) → i < length xs → x ≡ get_or xs i x → take (i + 1) xs ≡ take i xs ++ x ∷ []
up_to xs i x lt is = take_more xs i x lt ∙ ap (λ z. take i xs ++ z ∷ []) (sym is)

-- what is made of one item more stands behind these and what is made of those before it
pub pushed_more :
    {A B : Type 0} (f : A → B) (xs : List A) (i : ℕ) (x : A) (old items new : List B) (y : B)
    → i < length xs → x ≡ get_or xs i x → items ≡ old ++ map f (take i xs) → new ≡ items ++ y ∷ [] → y ≡ f x
    → new ≡ old ++ map f (take (i + 1) xs)
pushed_more f xs i x old items new y lt is was now made =
    now
    ∙ ap (λ l. l ++ y ∷ []) was
    ∙ append_assoc old (map f (take i xs)) (y ∷ [])
    ∙ ap (λ z. old ++ (map f (take i xs) ++ z ∷ [])) made
    ∙ ap (λ l. old ++ l) (sym (map-append f (take i xs) (x ∷ [])) ∙ ap (map f) (sym (up_to xs i x lt is)))

-- the same with none before them
pub mapped_more :
    {A B : Type 0} (f : A → B) (xs : List A) (i : ℕ) (x : A) (items new : List B) (y : B)
    → i < length xs → x ≡ get_or xs i x → items ≡ map f (take i xs) → new ≡ items ++ y ∷ [] → y ≡ f x
    → new ≡ map f (take (i + 1) xs)
mapped_more f xs i x items new y = pushed_more f xs i x [] items new y

-- one item more of those that pass a test, and one that does not
pub picked_more :
    {A : Type 0} (p : A → Bool) (xs : List A) (i : ℕ) (x : A) (items new : List A)
    → i < length xs → x ≡ get_or xs i x → items ≡ filter p (take i xs) → p x ≡ true → new ≡ items ++ x ∷ []
    → new ≡ filter p (take (i + 1) xs)
picked_more p xs i x items new lt is was test now =
    now
    ∙ ap (λ l. l ++ x ∷ []) was
    ∙ ap (λ l. filter p (take i xs) ++ l) (one test)
    ∙ sym (filter-append p (take i xs) (x ∷ []))
    ∙ ap (filter p) (sym (up_to xs i x lt is))
  where
    one : p x ≡ true → x ∷ [] ≡ filter p (x ∷ [])
    one e = rw (e) refl

pub left_out :
    {A : Type 0} (p : A → Bool) (xs : List A) (i : ℕ) (x : A) (items : List A)
    → i < length xs → x ≡ get_or xs i x → items ≡ filter p (take i xs) → p x ≡ false → items ≡ filter p (take (i + 1) xs)
left_out p xs i x items lt is was test =
    was
    ∙ sym (append-nil (filter p (take i xs)))
    ∙ ap (λ l. filter p (take i xs) ++ l) (none test)
    ∙ sym (filter-append p (take i xs) (x ∷ []))
    ∙ ap (filter p) (sym (up_to xs i x lt is))
  where
    none : p x ≡ false → [] ≡ filter p (x ∷ [])
    none e = rw (e) refl

-- one of the same item more
pub repeated_more :
    {A : Type 0} (i : ℕ) (x y : A) (items new : List A)
    → items ≡ replicate i x → new ≡ items ++ y ∷ [] → y ≡ x → new ≡ replicate (i + 1) x
repeated_more i x y items new was now same = now ∙ ap (λ l. l ++ y ∷ []) was ∙ ap (λ z. replicate i x ++ z ∷ []) same ∙ replicate_more i x

-- one item more of those that are kept as they are
pub taken_more :
    {A : Type 0} (xs : List A) (i : ℕ) (x : A) (items new : List A) (y : A)
    → i < length xs → x ≡ get_or xs i x → items ≡ take i xs → new ≡ items ++ y ∷ [] → y ≡ x
    → new ≡ take (i + 1) xs
taken_more xs i x items new y lt is was now same =
    now ∙ ap (λ l. l ++ y ∷ []) was ∙ ap (λ z. take i xs ++ z ∷ []) same ∙ sym (up_to xs i x lt is)

-- each number stands at its own place, and one number more
pub own_more :
    (i : ℕ) (items new : List ℕ) (y : ℕ)
    → length items ≡ i → ((n : ℕ) → n < i → get_or items n 0 ≡ n) → new ≡ items ++ y ∷ [] → y ≡ i
    → (length new ≡ i + 1) × ((n : ℕ) → n < i + 1 → get_or new n 0 ≡ n)
own_more i items new y size own now same = (
  ap length now ∙ length_push items y ∙ ap (λ k. k + 1) size,
  λ n less. ap (λ l. get_or l n 0) now ∙ ⊎_elim (λ lt. get_or_append_left items (y ∷ []) 0 n (omega (arith, lt, size)) ∙ own n lt) (λ ge. (
      let here : n ≡ length items = omega (arith, less, ge, size) in
      subst (λ k. get_or (items ++ y ∷ []) k 0 ≡ n) (sym here) (get_or-append_seam items y [] 0 ∙ same ∙ sym size ∙ sym here)
      )) (cases_lt n i),
)
