-- Items that differ, that stand first, and that stand again.
use Rattle.std.proofs.Common.{◌≡◌, ◌≢◌, ℕ, zero, suc, ◌+◌, ◌<◌, Bool, true, false, List, [], ◌∷◌, ◌++◌, cond, length, map}
use Rattle.std.proofs.Common.{append_assoc, get_or, take, drop, refl, sym, ap, ◌∙◌, subst, arith, inl, inr, ◌⊎◌, ⊎_elim}
use Rattle.std.specs.Prelude.{All, Some, None, Option, slice_get}
use Rattle.std.specs.List.{AllZip, Contains, filter, filter_map, cons_option}
use Rattle.std.proofs.lemmas.Bool.{cases_order}
use Rattle.std.proofs.lemmas.List.{append-nil, map_more, take_more, take-append-drop, drop_more}
use Rattle.std.proofs.lemmas.List.Elements.{All-nil, All-cons, All-tail, All-head, Contains-get_or, Contains-append_cases, filter_map-append}
use Rattle.std.proofs.lemmas.List.Elements.{All-contains, All-filter, All-contains_itself, filter_passes, filter-append}
use Rattle.std.proofs.lemmas.List.Quantifiers.{all_pairs_push}
use Rattle.std.proofs.lemmas.Option.{same_Some, slice_get_within, get_or_from_slice_get, slice_get-get_or}
use Rattle.manager_links.specs.Lists.{AllDiffer, IsFirst, IsFirstAgain}

-- ---- lists at a place

pub take_read : {A : Type 0} (xs : List A) (i : ℕ) (x : A) → i < length xs → x ≡ get_or xs i x
    → take (i + 1) xs ≡ take i xs ++ x ∷ []
take_read xs i x lt is = take_more xs i x lt ∙ ap (λ y. take i xs ++ y ∷ []) (sym is)

pub split_read : {A : Type 0} (xs : List A) (i : ℕ) (x : A) → i < length xs → x ≡ get_or xs i x
    → xs ≡ take i xs ++ x ∷ drop (i + 1) xs
split_read xs i x lt is =
    sym (take-append-drop i xs) ∙ ap (λ rest. take i xs ++ rest)
    (drop_more xs i x lt ∙ ap (λ y. y ∷ drop (i + 1) xs) (sym is))

-- what is read of a list is read of an equal one
pub read_in : {A : Type 0} (items xs : List A) (i : ℕ) (x : A) → items ≡ xs → i < length items
    → x ≡ get_or items i x → (i < length xs) × (x ≡ get_or xs i x)
read_in items xs i x same lt is =
    (subst (λ ys. i < length ys) same lt, subst (λ ys. x ≡ get_or ys i x) same is)

pub in_more : {A : Type 0} (x y : A) (xs : List A) → Contains xs x → Contains (y ∷ xs) x
in_more x y xs (k, lt, is) = (suc k, omega arith, is)

pub some_within : {A : Type 0} (xs : List A) (i : ℕ) → i < length xs → slice_get xs i ≡ None → ⊥
some_within [] i lt e = absurd (omega arith)
some_within (x ∷ xs) zero lt e = cc
some_within (x ∷ xs) (suc i) lt e = some_within xs i (omega arith) e

pub get_read : {A : Type 0} (xs : List A) (i : ℕ) (x : A) → i < length xs → x ≡ get_or xs i x
    → slice_get xs i ≡ Some x
get_read xs i x lt is = slice_get-get_or xs i x lt ∙ ap Some (sym is)

-- what is kept of one more
pub filter_map_step : {A B : Type 0} (f : A → Option B) (xs : List A) (i : ℕ) (x : A)
    → slice_get xs i ≡ Some x
    → filter_map f (take (i + 1) xs) ≡ filter_map f (take i xs) ++ cons_option (f x) []
filter_map_step f xs i x at =
    ap (filter_map f) (take_read xs i x (slice_get_within xs i x at) (sym (get_or_from_slice_get xs i x x at)))
    ∙ filter_map-append f (take i xs) (x ∷ [])

-- the images of items behind others, one more
pub map_step : {A B : Type 0} (f : A → B) (front : List B) (xs : List A) (i : ℕ) (x : A)
    → i < length xs → x ≡ get_or xs i x
    → (front ++ map f (take i xs)) ++ f x ∷ [] ≡ front ++ map f (take (i + 1) xs)
map_step f front xs i x lt is =
    append_assoc front (map f (take i xs)) (f x ∷ [])
    ∙ ap (λ rest. front ++ rest)
    (ap (λ y. map f (take i xs) ++ f y ∷ []) is ∙ sym (map_more f xs i x lt))

-- what a test keeps of items, behind others, one more
pub kept_step : {A B : Type 0} (f : A → Option B) (front : List B) (xs : List A) (i : ℕ) (x : A)
    (y : B) → slice_get xs i ≡ Some x → f x ≡ Some y
    → (front ++ filter_map f (take i xs)) ++ y ∷ [] ≡ front ++ filter_map f (take (i + 1) xs)
kept_step f front xs i x y at is =
    append_assoc front (filter_map f (take i xs)) (y ∷ [])
    ∙ ap (λ rest. front ++ rest) (sym (filter_map_step f xs i x at ∙ ap (λ o. filter_map f (take i xs) ++ cons_option o []) is))

pub passed_step : {A B : Type 0} (f : A → Option B) (front : List B) (xs : List A) (i : ℕ) (x : A)
    → slice_get xs i ≡ Some x → f x ≡ None
    → front ++ filter_map f (take i xs) ≡ front ++ filter_map f (take (i + 1) xs)
passed_step f front xs i x at is =
    ap (λ rest. front ++ rest)
    (sym (filter_map_step f xs i x at ∙ ap (λ o. filter_map f (take i xs) ++ cons_option o []) is
    ∙ append-nil (filter_map f (take i xs))))

pub get_left : {A : Type 0} (xs ys : List A) (i : ℕ) (x : A) → slice_get xs i ≡ Some x
    → slice_get (xs ++ ys) i ≡ Some x
get_left [] ys i x e = absurd (cc)
get_left (y ∷ xs) ys zero x e = e
get_left (y ∷ xs) ys (suc i) x e = get_left xs ys i x e

pub get_end : {A : Type 0} (xs ys : List A) (x : A)
    → slice_get (xs ++ x ∷ ys) (length xs) ≡ Some x
get_end [] ys x = refl
get_end (y ∷ xs) ys x = get_end xs ys x

pub get_push : {A : Type 0} (xs : List A) (x y : A) (i : ℕ) → slice_get (xs ++ x ∷ []) i ≡ Some y
    → (slice_get xs i ≡ Some y) ⊎ ((i ≡ length xs) × (x ≡ y))
get_push [] x y zero e = inr (refl, same_Some x y e)
get_push [] x y (suc i) e = absurd (cc)
get_push (z ∷ xs) x y zero e = inl e
get_push (z ∷ xs) x y (suc i) e =
    ⊎_elim (λ here. inl here) (λ last. inr (ap suc last.0, last.1)) (get_push xs x y i e)

pub place_in : {A : Type 0} (xs : List A) (x : A) → Contains xs x
    → (i : ℕ) × (slice_get xs i ≡ Some x)
place_in xs x (i, lt, is) = (i, slice_get-get_or xs i x lt ∙ ap Some is)

pub stands_in : {A : Type 0} (xs : List A) (i : ℕ) (x : A) → slice_get xs i ≡ Some x → Contains xs x
stands_in xs i x e = (i, slice_get_within xs i x e, get_or_from_slice_get xs i x x e)

-- ---- lists of which the items belong together

pub zip_push : {A B : Type 0} (R : A → B → Type 0) (xs : List A) (ys : List B) (x : A) (y : B)
    → AllZip R xs ys → R x y → AllZip R (xs ++ x ∷ []) (ys ++ y ∷ [])
zip_push R [] [] x y all one = (one, tt)
zip_push R [] (b ∷ ys) x y all one = absurd all
zip_push R (a ∷ xs) [] x y all one = absurd all
zip_push R (a ∷ xs) (b ∷ ys) x y all one = (all.0, zip_push R xs ys x y all.1 one)

pub zip_length : {A B : Type 0} (R : A → B → Type 0) (xs : List A) (ys : List B)
    → AllZip R xs ys → length xs ≡ length ys
zip_length R [] [] all = refl
zip_length R [] (b ∷ ys) all = absurd all
zip_length R (a ∷ xs) [] all = absurd all
zip_length R (a ∷ xs) (b ∷ ys) all = ap suc (zip_length R xs ys all.1)

pub zip_get : {A B : Type 0} (R : A → B → Type 0) (xs : List A) (ys : List B) (i : ℕ) (x : A)
    → AllZip R xs ys → slice_get xs i ≡ Some x
    → (y : B) × (slice_get ys i ≡ Some y) × R x y
zip_get R [] ys i x all e = absurd (cc)
zip_get R (a ∷ xs) [] i x all e = absurd all
zip_get R (a ∷ xs) (b ∷ ys) zero x all e = (b, refl, subst (λ c. R c b) (same_Some a x e) all.0)
zip_get R (a ∷ xs) (b ∷ ys) (suc i) x all e = zip_get R xs ys i x all.1 e

pub zip_back : {A B : Type 0} (R : A → B → Type 0) (xs : List A) (ys : List B) (i : ℕ) (y : B)
    → AllZip R xs ys → slice_get ys i ≡ Some y
    → (x : A) × (slice_get xs i ≡ Some x) × R x y
zip_back R [] [] i y all e = absurd (cc)
zip_back R [] (b ∷ ys) i y all e = absurd all
zip_back R (a ∷ xs) [] i y all e = absurd (cc)
zip_back R (a ∷ xs) (b ∷ ys) zero y all e = (a, refl, subst (λ c. R a c) (same_Some b y e) all.0)
zip_back R (a ∷ xs) (b ∷ ys) (suc i) y all e = zip_back R xs ys i y all.1 e

-- what holds of images and of more holds of each image
pub All-front : {A B : Type 0} (P : B → Type 0) (f : A → B) (xs : List A) (ys : List B)
    → All P (map f xs ++ ys) → All (λ x. P (f x)) xs
All-front P f [] ys all = All-nil (λ x. P (f x))
All-front P f (x ∷ xs) ys all =
    All-cons (λ x. P (f x)) x xs (All-head P (f x) (map f xs ++ ys) all)
    (All-front P f xs ys (All-tail P (f x) (map f xs ++ ys) all))

-- ---- what a test keeps

pub kept_in : {A : Type 0} (p : A → Bool) (xs : List A) (x : A) → Contains xs x → p x ≡ true
    → Contains (filter p xs) x
kept_in p [] x (k, lt, is) passes = absurd (omega arith)
kept_in p (y ∷ xs) x (zero, lt, is) passes =
    subst (λ t. Contains (cond t (y ∷ filter p xs) (filter p xs)) x)
    (sym (ap p is ∙ passes)) (0, omega arith, is)
kept_in p (y ∷ xs) x (suc k, lt, is) passes =
    by_test (p y) (kept_in p xs x (k, omega arith, is) passes)
  where
    by_test : (t : Bool) → Contains (filter p xs) x
        → Contains (cond t (y ∷ filter p xs) (filter p xs)) x
    by_test true there = in_more x y (filter p xs) there
    by_test false there = there

pub kept_more : {A : Type 0} (p : A → Bool) (xs : List A) (i : ℕ) (x : A) → i < length xs
    → x ≡ get_or xs i x → p x ≡ true → filter p (take (i + 1) xs) ≡ filter p (take i xs) ++ x ∷ []
kept_more p xs i x lt is passes =
    ap (filter p) (take_read xs i x lt is) ∙ filter-append p (take i xs) (x ∷ [])
    ∙ ap (λ t. filter p (take i xs) ++ cond t (x ∷ []) []) passes

pub dropped_more : {A : Type 0} (p : A → Bool) (xs : List A) (i : ℕ) (x : A) → i < length xs
    → x ≡ get_or xs i x → p x ≡ false → filter p (take (i + 1) xs) ≡ filter p (take i xs)
dropped_more p xs i x lt is fails =
    ap (filter p) (take_read xs i x lt is) ∙ filter-append p (take i xs) (x ∷ [])
    ∙ ap (λ t. filter p (take i xs) ++ cond t (x ∷ []) []) fails ∙ append-nil (filter p (take i xs))

pub kept_from : {A : Type 0} (p : A → Bool) (xs : List A) (x : A) → Contains (filter p xs) x
    → Contains xs x
kept_from p xs x there =
    All-contains (Contains xs) (filter p xs) x
    (All-filter p (Contains xs) xs (All-contains_itself xs)) there

pub kept_passes : {A : Type 0} (p : A → Bool) (xs : List A) (x : A) → Contains (filter p xs) x
    → p x ≡ true
kept_passes p xs x there = All-contains (λ y. p y ≡ true) (filter p xs) x (filter_passes p xs) there

-- ---- the first

pub first_read : {A : Type 0} (P : A → Type 0) (xs : List A) (i : ℕ) (x : A) → i < length xs
    → x ≡ get_or xs i x → All (λ y. P y → ⊥) (take i xs) → P x → IsFirst P xs x
first_read P xs i x lt is none holds = record {
  before = take i xs;
  after = drop (i + 1) xs;
  split = split_read xs i x lt is;
  none = none;
  holds = holds;
}

-- ---- items that differ

pub differ_none : {A : Type 0} → AllDiffer {A = A} []
differ_none = λ i j d lt within. absurd (omega arith)

pub differ_push : {A : Type 0} (xs : List A) (x : A) → AllDiffer xs → (Contains xs x → ⊥)
    → AllDiffer (xs ++ x ∷ [])
differ_push xs x differ new =
    all_pairs_push (λ one other. one ≢ other) xs x differ
    (λ k d lt e. new (subst (Contains xs) e (Contains-get_or xs k d lt)))

pub differ_cons : {A : Type 0} (x : A) (xs : List A) → (Contains xs x → ⊥) → AllDiffer xs
    → AllDiffer (x ∷ xs)
differ_cons x xs new differ i zero d lt within = absurd (omega arith)
differ_cons x xs new differ zero (suc j) d lt within = λ e.
    new (subst (Contains xs) (sym e) (Contains-get_or xs j d (omega arith)))
differ_cons x xs new differ (suc i) (suc j) d lt within = differ i j d (omega arith) (omega arith)

pub differ_tail : {A : Type 0} (x : A) (xs : List A) → AllDiffer (x ∷ xs) → AllDiffer xs
differ_tail x xs differ = λ i j d lt within. differ (suc i) (suc j) d (omega arith) (omega arith)

pub differ_head : {A : Type 0} (x : A) (xs : List A) → AllDiffer (x ∷ xs) → Contains xs x → ⊥
differ_head x xs differ (k, lt, is) = differ 0 (suc k) x (omega arith) (omega arith) (sym is)

pub differ_append : {A : Type 0} (xs ys : List A) → AllDiffer xs → AllDiffer ys
    → ((x : A) → Contains xs x → Contains ys x → ⊥) → AllDiffer (xs ++ ys)
differ_append [] ys one other apart = other
differ_append (x ∷ xs) ys one other apart =
    differ_cons x (xs ++ ys)
    (λ there. ⊎_elim (differ_head x xs one) (apart x (0, omega arith, refl))
    (Contains-append_cases xs ys x there))
    (differ_append xs ys (differ_tail x xs one) other (λ y there. apart y (in_more y x xs there)))

-- images under a map that tells apart
pub in_image : {A B : Type 0} (f : A → B) (xs : List A) (y : B) → Contains (map f xs) y
    → (x : A) × Contains xs x × (f x ≡ y)
in_image f [] y (k, lt, is) = absurd (omega arith)
in_image f (x ∷ xs) y (zero, lt, is) = (x, (0, omega arith, refl), is)
in_image f (x ∷ xs) y (suc k, lt, is) =
    let rest = in_image f xs y (k, omega arith, is) in (rest.0, in_more rest.0 x xs rest.1, rest.2)

pub differ_map : {A B : Type 0} (f : A → B) (xs : List A) → ((x y : A) → f x ≡ f y → x ≡ y)
    → AllDiffer xs → AllDiffer (map f xs)
differ_map f [] apart differ = differ_none
differ_map f (x ∷ xs) apart differ =
    differ_cons (f x) (map f xs)
    (λ there. let other = in_image f xs (f x) there in
    differ_head x xs differ (subst (Contains xs) (apart other.0 x other.2) other.1))
    (differ_map f xs apart (differ_tail x xs differ))

-- what a test keeps, where no two items are kept as one
pub in_kept : {A B : Type 0} (f : A → Option B) (xs : List A) (y : B) → Contains (filter_map f xs) y
    → (i : ℕ) × (x : A) × (slice_get xs i ≡ Some x) × (f x ≡ Some y)
in_kept f [] y (k, lt, is) = absurd (omega arith)
in_kept f (x ∷ xs) y there = by_test (f x) refl (λ rest. in_kept f xs y rest) there
  where
    later : ((i : ℕ) × (z : _) × (slice_get xs i ≡ Some z) × (f z ≡ Some y))
        → (i : ℕ) × (z : _) × (slice_get (x ∷ xs) i ≡ Some z) × (f z ≡ Some y)
    later rest = (suc rest.0, rest.1, rest.2, rest.3)

    by_test : (o : Option _) → f x ≡ o
        → (Contains (filter_map f xs) y → (i : ℕ) × (z : _) × (slice_get xs i ≡ Some z) × (f z ≡ Some y))
        → Contains (cons_option o (filter_map f xs)) y
        → (i : ℕ) × (z : _) × (slice_get (x ∷ xs) i ≡ Some z) × (f z ≡ Some y)
    by_test None e rest there = later (rest there)
    by_test (Some z) e rest (zero, lt, is) = (0, x, refl, e ∙ ap Some is)
    by_test (Some z) e rest (suc k, lt, is) = later (rest (k, omega arith, is))

pub differ_kept : {A B : Type 0} (f : A → Option B) (xs : List A)
    → ((n m : ℕ) (a b : A) (y : B) → slice_get xs n ≡ Some a → slice_get xs m ≡ Some b
    → f a ≡ Some y → f b ≡ Some y → n ≡ m)
    → AllDiffer (filter_map f xs)
differ_kept f [] apart = differ_none
differ_kept f (x ∷ xs) apart =
    by_test (f x) refl
    (differ_kept f xs (λ n m a b y at to one other.
    let same = apart (suc n) (suc m) a b y at to one other in omega arith))
  where
    by_test : (o : Option _) → f x ≡ o → AllDiffer (filter_map f xs)
        → AllDiffer (cons_option o (filter_map f xs))
    by_test None e rest = rest
    by_test (Some y) e rest =
        differ_cons y (filter_map f xs)
        (λ there. let other = in_kept f xs y there in
        let same = apart 0 (suc other.0) x other.1 y refl other.2 e other.3 in omega arith)
        rest

pub again_read : {A : Type 0} (xs : List A) (i : ℕ) (x : A) → i < length xs → x ≡ get_or xs i x
    → AllDiffer (take i xs) → Contains (take i xs) x → IsFirstAgain xs x
again_read xs i x lt is differ again = record {
  before = take i xs;
  after = drop (i + 1) xs;
  split = split_read xs i x lt is;
  differ = differ;
  again = again;
}

-- items that differ have one place each
pub one_place : {A : Type 0} (xs : List A) (i j : ℕ) (x : A) → AllDiffer xs
    → slice_get xs i ≡ Some x → slice_get xs j ≡ Some x → i ≡ j
one_place xs i j x differ here there = by_order (cases_order i j)
  where
    same : (i j : ℕ) → slice_get xs i ≡ Some x → slice_get xs j ≡ Some x → i < j → ⊥
    same i j here there lt =
        differ i j x lt (slice_get_within xs j x there)
        (get_or_from_slice_get xs i x x here ∙ sym (get_or_from_slice_get xs j x x there))

    by_order : (i ≡ j) ⊎ ((i < j) ⊎ (j < i)) → i ≡ j
    by_order (inl e) = e
    by_order (inr (inl lt)) = absurd (same i j here there lt)
    by_order (inr (inr lt)) = absurd (same j i there here lt)
