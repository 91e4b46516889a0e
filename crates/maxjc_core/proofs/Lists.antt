-- Lists of which the items belong together, and items that stand first or again.
use Rattle.std.proofs.Common.{
  ◌≡◌,
  ◌∙◌,
  ◌<◌,
  ℕ,
  zero,
  suc,
  List,
  [],
  ◌∷◌,
  ◌++◌,
  length,
  Some,
  arith,
  refl,
  ap,
  sym,
  subst,
}
use Rattle.std.specs.Prelude.{All, slice_get}
use Rattle.std.specs.List.{AllZip, Contains}
use Rattle.std.proofs.lemmas.List.Elements.{All-head, All-tail, All-contains, All-nil, All-cons}
use Rattle.std.proofs.lemmas.Option.{slice_get_within}
use Rattle.manager_links.specs.Lists.{AllDiffer, IsFirst, IsFirstAgain}
use Rattle.manager_links.proofs.Pieces.{in_more, differ_head, differ_tail}

-- ---- two lists

pub zip_weaker : {A B : Type 0} (R S : A → B → Type 0) (xs : List A) (ys : List B)
    → ((x : A) (y : B) → R x y → S x y) → AllZip R xs ys → AllZip S xs ys
zip_weaker R S [] [] weaker all = tt
zip_weaker R S [] (y ∷ ys) weaker all = absurd all
zip_weaker R S (x ∷ xs) [] weaker all = absurd all
zip_weaker R S (x ∷ xs) (y ∷ ys) weaker all = (weaker x y all.0, zip_weaker R S xs ys weaker all.1)

-- with what holds of each item of the first one
pub zip_all : {A B : Type 0} (P : A → Type 0) (R S : A → B → Type 0) (xs : List A) (ys : List B)
    → ((x : A) (y : B) → P x → R x y → S x y) → All P xs → AllZip R xs ys → AllZip S xs ys
zip_all P R S [] [] both each all = tt
zip_all P R S [] (y ∷ ys) both each all = absurd all
zip_all P R S (x ∷ xs) [] both each all = absurd all
zip_all P R S (x ∷ xs) (y ∷ ys) both each all =
    (both x y (All-head P x xs each) all.0, zip_all P R S xs ys both (All-tail P x xs each) all.1)

-- what they say of each item of the second one
pub zip_right : {A B : Type 0} (R : A → B → Type 0) (P : B → Type 0) (xs : List A) (ys : List B)
    → ((x : A) (y : B) → R x y → P y) → AllZip R xs ys → All P ys
zip_right R P [] [] follows all = All-nil P
zip_right R P [] (y ∷ ys) follows all = absurd all
zip_right R P (x ∷ xs) [] follows all = absurd all
zip_right R P (x ∷ xs) (y ∷ ys) follows all =
    All-cons P y ys (follows x y all.0) (zip_right R P xs ys follows all.1)

-- and of each item of the first one
pub zip_left : {A B : Type 0} (R : A → B → Type 0) (P : A → Type 0) (xs : List A) (ys : List B)
    → ((x : A) (y : B) → R x y → P x) → AllZip R xs ys → All P xs
zip_left R P [] [] follows all = All-nil P
zip_left R P [] (y ∷ ys) follows all = absurd all
zip_left R P (x ∷ xs) [] follows all = absurd all
zip_left R P (x ∷ xs) (y ∷ ys) follows all =
    All-cons P x xs (follows x y all.0) (zip_left R P xs ys follows all.1)

-- where one item alone belongs to each, one list alone does
pub zip_only : {A B : Type 0} (R : A → B → Type 0) (xs : List A) (ys zs : List B)
    → ((x : A) (y z : B) → R x y → R x z → y ≡ z) → AllZip R xs ys → AllZip R xs zs → ys ≡ zs
zip_only R [] [] [] only p q = refl
zip_only R [] (y ∷ ys) zs only p q = absurd p
zip_only R [] [] (z ∷ zs) only p q = absurd q
zip_only R (x ∷ xs) [] zs only p q = absurd p
zip_only R (x ∷ xs) (y ∷ ys) [] only p q = absurd q
zip_only R (x ∷ xs) (y ∷ ys) (z ∷ zs) only p q =
    ap (λ k. k ∷ ys) (only x y z p.0 q.0) ∙ ap (λ ks. z ∷ ks) (zip_only R xs ys zs only p.1 q.1)

-- lists of one length whose items belong together place by place
pub zip_from : {A B : Type 0} (R : A → B → Type 0) (xs : List A) (ys : List B)
    → length ys ≡ length xs
    → ((k : ℕ) (x : A) (y : B) → slice_get xs k ≡ Some x → slice_get ys k ≡ Some y → R x y)
    → AllZip R xs ys
zip_from R [] [] same each = tt
zip_from R [] (y ∷ ys) same each = absurd (omega (arith, same))
zip_from R (x ∷ xs) [] same each = absurd (omega (arith, same))
zip_from R (x ∷ xs) (y ∷ ys) same each = (
  each 0 x y refl refl,
  zip_from R xs ys (omega (arith, same)) (λ k a b here there. each (suc k) a b here there),
)

-- an item within a list
pub item_at : {A : Type 0} (xs : List A) (k : ℕ) → k < length xs
    → (x : A) × (slice_get xs k ≡ Some x)
item_at [] k lt = absurd (omega arith)
item_at (x ∷ xs) zero lt = (x, refl)
item_at (x ∷ xs) (suc k) lt = item_at xs k (omega arith)

-- lists of one length have items at the same places
pub item_beside : {A B : Type 0} (xs : List A) (ys : List B) (k : ℕ) (x : A)
    → length xs ≡ length ys → slice_get xs k ≡ Some x → (y : B) × (slice_get ys k ≡ Some y)
item_beside xs ys k x same here =
    item_at ys k (subst (λ n. k < n) same (slice_get_within xs k x here))

-- ---- items that stand first or again

-- an item between others is one of them
pub in_back : {A : Type 0} (before after : List A) (item : A)
    → Contains (before ++ item ∷ after) item
in_back [] after item = (0, omega arith, refl)
in_back (x ∷ before) after item =
    in_more item x (before ++ item ∷ after) (in_back before after item)

-- where a fact holds of none, it holds first of none
pub none_first : {A : Type 0} (P : A → Type 0) (items : List A) (item : A)
    → All (λ x. P x → ⊥) items → IsFirst P items item → ⊥
none_first P items item none first =
    All-contains (λ x. P x → ⊥) items item none
    (subst (λ xs. Contains xs item) (sym first.split) (in_back first.before first.after item))
    first.holds

again_at : {A : Type 0} (before after : List A) (item : A) → AllDiffer (before ++ item ∷ after)
    → Contains before item → ⊥
again_at [] after item differ (k, lt, is) = absurd (omega arith)
again_at (x ∷ before) after item differ (zero, lt, is) =
    differ_head x (before ++ item ∷ after) differ
    (subst (Contains (before ++ item ∷ after)) (sym is) (in_back before after item))
again_at (x ∷ before) after item differ (suc k, lt, is) =
    again_at before after item (differ_tail x (before ++ item ∷ after) differ) (k, omega arith, is)

-- where all items differ none stands again
pub none_again : {A : Type 0} (items : List A) (item : A) → AllDiffer items
    → IsFirstAgain items item → ⊥
none_again items item differ first =
    again_at first.before first.after item (subst (λ xs. AllDiffer xs) first.split differ) first.again
