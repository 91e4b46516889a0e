-- Joins that are put at the terminals at which they end.
use Rattle.std.proofs.Common.{◌≡◌, ◌≢◌, ℕ, zero, suc, ◌+◌, ◌<◌, List, [], ◌∷◌, ◌++◌, length, take, drop, get_or}
use Rattle.std.proofs.Common.{append_assoc, refl, sym, ap, ◌∙◌, subst, arith, inl, inr, ◌⊎◌, ⊎_elim}
use Rattle.std.specs.Prelude.{Option, Some, None, if◌then◌else◌, nat_eq, true, false, replicate, slice_get, slice_set, IsSomeAnd}
use Rattle.std.specs.List.{AllZip, Any, Contains}
use Rattle.std.proofs.lemmas.Bool.{cases_eq}
use Rattle.std.proofs.lemmas.Bool.Decides.{eqb_tells}
use Rattle.std.proofs.lemmas.List.{length-set, length-replicate}
use Rattle.std.proofs.lemmas.List.Elements.{Contains-append_left, Contains-push, Contains-push_cases}
use Rattle.std.proofs.lemmas.Option.{same_Some, slice_get_within, get_or_from_slice_get}
use Rattle.kernel_meaning.specs.declared.plan.Join.{Join}
use Rattle.manager_links.specs.declared.ends.Ends.{Ends}
use Rattle.manager_links.specs.Lists.{AllDiffer, IsFirstAgain}
use Rattle.manager_links.specs.Numbers.{AreEnds}
use Rattle.manager_links.specs.Placed.{ArePlaced, IsEndAt, Joins}
use Rattle.manager_links.specs.Terminals.{Terminal, left_terminal, right_terminal, ends_of}
use Rattle.manager_links.proofs.Pieces.{get_read, read_in, one_place, zip_get, zip_back, differ_push}
use Rattle.manager_links.proofs.JoinEnds.{ends_split}
use Rattle.manager_links.proofs.OnlyPort.{no_ends}

-- ---- what a write leaves

get_set_same : {A : Type 0} (xs : List A) (i : ℕ) (v : A) → i < length xs
    → slice_get (slice_set xs i v) i ≡ Some v
get_set_same [] i v lt = absurd (omega arith)
get_set_same (x ∷ xs) zero v lt = refl
get_set_same (x ∷ xs) (suc i) v lt = get_set_same xs i v (omega arith)

get_set_other : {A : Type 0} (xs : List A) (i j : ℕ) (v : A) → (j ≡ i → ⊥)
    → slice_get (slice_set xs i v) j ≡ slice_get xs j
get_set_other [] i j v other = refl
get_set_other (x ∷ xs) zero zero v other = absurd (other refl)
get_set_other (x ∷ xs) zero (suc j) v other = refl
get_set_other (x ∷ xs) (suc i) zero v other = refl
get_set_other (x ∷ xs) (suc i) (suc j) v other = get_set_other xs i j v (λ e. other (ap suc e))

get_same : {A : Type 0} (n i : ℕ) (x y : A) → slice_get (replicate n x) i ≡ Some y → x ≡ y
get_same zero i x y e = absurd (cc)
get_same (suc n) zero x y e = same_Some x y e
get_same (suc n) (suc i) x y e = get_same n i x y e

-- ---- one more terminal

pub none_placed : (ends : List Terminal) (numbers : List Ends)
    → ArePlaced ends numbers [] (replicate (length ends) None)
none_placed ends numbers = record {
  size = length-replicate (length ends) None;
  free = λ number end at none there. let lt = there.1 in absurd (omega arith);
  taken = λ number join end at is. absurd (cc (get_same (length ends) number None (Some join) is));
  by = λ number join is. absurd (cc (get_same (length ends) number None (Some join) is));
}

pub place_more : (ends : List Terminal) (numbers : List Ends) (ended : List Terminal)
    (places : List (Option ℕ)) (number join : ℕ) (end : Terminal) → AllDiffer ends
    → ArePlaced ends numbers ended places → slice_get ends number ≡ Some end
    → IsEndAt numbers number join
    → ArePlaced ends numbers (ended ++ end ∷ []) (slice_set places number (Some join))
place_more ends numbers ended places number join end differ placed at is = record {
  size = length-set places number (Some join) ∙ placed.size;
  free = λ m t here none. free m t here none (cases_eq m number);
  taken = λ m j t here some. taken m j t here some (cases_eq m number);
  by = λ m j some. by m j some (cases_eq m number);
}
  where
    within : number < length places
    within = subst (λ n. number < n) (sym placed.size) (slice_get_within ends number end at)

    free : (m : ℕ) (t : Terminal) → slice_get ends m ≡ Some t
        → slice_get (slice_set places number (Some join)) m ≡ Some None → (m ≡ number) ⊎ (m ≢ number)
        → Contains (ended ++ end ∷ []) t → ⊥
    free m t here none (inl same) there =
        let now = get_set_same places number (Some join) within in
        let e = subst (λ k. slice_get (slice_set places number (Some join)) k ≡ Some None) same none in cc
    free m t here none (inr other) there =
        ⊎_elim
        (placed.free m t here (sym (get_set_other places number m (Some join) other) ∙ none))
        (λ e. other (one_place ends m number t differ here (at ∙ ap Some e)))
        (Contains-push_cases ended end t there)

    taken : (m j : ℕ) (t : Terminal) → slice_get ends m ≡ Some t
        → slice_get (slice_set places number (Some join)) m ≡ Some (Some j) → (m ≡ number) ⊎ (m ≢ number)
        → Contains (ended ++ end ∷ []) t
    taken m j t here some (inl same) =
        subst (Contains (ended ++ end ∷ []))
        (same_Some end t (sym at ∙ ap (slice_get ends) (sym same) ∙ here)) (Contains-push ended end)
    taken m j t here some (inr other) =
        Contains-append_left ended (end ∷ []) t
        (placed.taken m j t here (sym (get_set_other places number m (Some join) other) ∙ some))

    by : (m j : ℕ) → slice_get (slice_set places number (Some join)) m ≡ Some (Some j)
        → (m ≡ number) ⊎ (m ≢ number) → IsEndAt numbers m j
    by m j some (inl same) =
        let now = get_set_same places number (Some join) within in
        let e = subst (λ k. slice_get (slice_set places number (Some join)) k ≡ Some (Some j)) same some in
        let j_is : join ≡ j = cc in
        subst (λ k. IsEndAt numbers k j) (sym same) (subst (IsEndAt numbers number) j_is is)
    by m j some (inr other) = placed.by m j (sym (get_set_other places number m (Some join) other) ∙ some)

-- ---- the two terminals of a join

-- the numbers of the ends of a join in a list
pub record HasEnds (ends : List Terminal) (numbers : List Ends) (i : ℕ) (join : Join) (own : Ends) : Type 0 where
  pub are : AreEnds ends join own
  pub left : IsEndAt numbers own.left i
  pub right : IsEndAt numbers own.right i
  pub within_left : own.left < length ends
  pub within_right : own.right < length ends

pub has_ends : (ends : List Terminal) (joins : List Join) (numbers : List Ends) (i : ℕ) (join : Join)
    → AllZip (AreEnds ends) joins numbers → i < length joins → join ≡ get_or joins i join
    → HasEnds ends numbers i join (get_or numbers i no_ends)
has_ends ends joins numbers i join all lt is =
    let at = zip_get (AreEnds ends) joins numbers i join all (get_read joins i join lt is) in
    let same = get_or_from_slice_get numbers i at.0 no_ends at.1 in
    subst (HasEnds ends numbers i join) (sym same) (record {
      are = at.2;
      left = subst (λ o. IsSomeAnd o (λ (e : Ends). (e.left ≡ at.0.left) ⊎ (e.right ≡ at.0.left))) (sym at.1) (inl refl);
      right = subst (λ o. IsSomeAnd o (λ (e : Ends). (e.left ≡ at.0.right) ⊎ (e.right ≡ at.0.right))) (sym at.1) (inr refl);
      within_left = slice_get_within ends at.0.left (left_terminal join.left) at.2.left;
      within_right = slice_get_within ends at.0.right (right_terminal join.right) at.2.right;
    })

pub ends_at : (ends : List Terminal) (joins items : List Join) (numbers : List Ends) (i : ℕ) (join : Join)
    → AllZip (AreEnds ends) joins numbers → items ≡ joins → i < length items → join ≡ get_or items i join
    → HasEnds ends numbers i join (get_or numbers i no_ends)
ends_at ends joins items numbers i join all same lt is =
    let at = read_in items joins i join same lt is in
    has_ends ends joins numbers i join all at.0 at.1

-- the left end of a join is the first that stands again, or else its right one
pub again_left : (joins : List Join) (i : ℕ) (join : Join) → i < length joins → join ≡ get_or joins i join
    → AllDiffer (ends_of (take i joins)) → Contains (ends_of (take i joins)) (left_terminal join.left)
    → IsFirstAgain (ends_of joins) (left_terminal join.left)
again_left joins i join lt is differ again = record {
  before = ends_of (take i joins);
  after = right_terminal join.right ∷ ends_of (drop (i + 1) joins);
  split = ends_split joins i join lt is;
  differ = differ;
  again = again;
}

pub again_right : (joins : List Join) (i : ℕ) (join : Join) → i < length joins → join ≡ get_or joins i join
    → AllDiffer (ends_of (take i joins) ++ left_terminal join.left ∷ [])
    → Contains (ends_of (take i joins) ++ left_terminal join.left ∷ []) (right_terminal join.right)
    → IsFirstAgain (ends_of joins) (right_terminal join.right)
again_right joins i join lt is differ again = record {
  before = ends_of (take i joins) ++ left_terminal join.left ∷ [];
  after = ends_of (drop (i + 1) joins);
  split = ends_split joins i join lt is
      ∙ sym (append_assoc (ends_of (take i joins)) (left_terminal join.left ∷ [])
      (right_terminal join.right ∷ ends_of (drop (i + 1) joins)));
  differ = differ;
  again = again;
}

-- ---- one more end

pub record AreOnce (ends : List Terminal) (numbers : List Ends) (ended : List Terminal)
    (places : List (Option ℕ)) : Type 0
  where
    pub placed : ArePlaced ends numbers ended places
    pub once : AllDiffer ended

pub put_more : (ends : List Terminal) (numbers : List Ends) (ended : List Terminal)
    (places new : List (Option ℕ)) (number join : ℕ) (end : Terminal) → AllDiffer ends
    → AreOnce ends numbers ended places → slice_get ends number ≡ Some end
    → IsEndAt numbers number join
    → (slice_get places number ≡ Some None) × (new ≡ slice_set places number (Some join))
    → AreOnce ends numbers (ended ++ end ∷ []) new
put_more ends numbers ended places new number join end differ so_far at is put = record {
  placed = subst (ArePlaced ends numbers (ended ++ end ∷ [])) (sym put.1)
      (place_more ends numbers ended places number join end differ so_far.placed at is);
  once = differ_push ended end so_far.once (so_far.placed.free number end at put.0);
}

-- ---- the other end

any_at : {A : Type 0} (P : A → Type 0) (xs : List A) (i : ℕ) (x : A) → slice_get xs i ≡ Some x → P x
    → Any P xs
any_at P xs i x at holds =
    (i, x, slice_get_within xs i x at, get_or_from_slice_get xs i x x at, holds)

-- the number at the other end of a join that ends at one
pub partner_is : (ends : List Terminal) (joins : List Join) (numbers : List Ends) (number join : ℕ)
    → AllZip (AreEnds ends) joins numbers → IsEndAt numbers number join
    → Any (Joins ends number
    (if nat_eq (get_or numbers join no_ends).left number then (get_or numbers join no_ends).right
    else (get_or numbers join no_ends).left)) joins
partner_is ends joins numbers number join all is = by_own (slice_get numbers join) refl is
  where
    Wanted : Ends → Type 0
    Wanted own = Any (Joins ends number (if nat_eq own.left number then own.right else own.left)) joins

    by_test : (own : Ends) (found : Join) → slice_get joins join ≡ Some found → AreEnds ends found own
        → (own.left ≡ number) ⊎ (own.right ≡ number)
        → ((nat_eq own.left number ≡ true) × (own.left ≡ number)) ⊎ ((nat_eq own.left number ≡ false) × (own.left ≢ number))
        → Wanted own
    by_test own found at are either (inl here) =
        subst (λ t. Any (Joins ends number (if t then own.right else own.left)) joins) (sym here.0)
        (any_at (Joins ends number own.right) joins join found at (record {
          either = inl (subst (λ n. slice_get ends n ≡ Some (left_terminal found.left)) here.1 are.left, are.right);
        }))
    by_test own found at are (inl left) (inr other) = absurd (other.1 left)
    by_test own found at are (inr right) (inr other) =
        subst (λ t. Any (Joins ends number (if t then own.right else own.left)) joins) (sym other.0)
        (any_at (Joins ends number own.left) joins join found at (record {
          either = inr (subst (λ n. slice_get ends n ≡ Some (right_terminal found.right)) right are.right, are.left);
        }))

    by_own : (o : Option Ends) → slice_get numbers join ≡ o
        → IsSomeAnd o (λ (e : Ends). (e.left ≡ number) ⊎ (e.right ≡ number))
        → Wanted (get_or numbers join no_ends)
    by_own None at is = absurd is
    by_own (Some own) at is =
        let found = zip_back (AreEnds ends) joins numbers join own all at in
        subst Wanted (sym (get_or_from_slice_get numbers join own no_ends at))
        (by_test own found.0 found.1 found.2 is (eqb_tells own.left number))

pub join_within : (numbers : List Ends) (number join : ℕ) → IsEndAt numbers number join → join < length numbers
join_within numbers number join is = by_own (slice_get numbers join) refl is
  where
    by_own : (o : Option Ends) → slice_get numbers join ≡ o
        → IsSomeAnd o (λ (e : Ends). (e.left ≡ number) ⊎ (e.right ≡ number)) → join < length numbers
    by_own None at is = absurd is
    by_own (Some own) at is = slice_get_within numbers join own at
