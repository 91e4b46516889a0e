-- Names that stood before, and a set of those that were seen.
use Rattle.std.proofs.Common.{Bor, ◌≡◌, ℕ, zero, suc, ◌+◌, ◌<◌, ◌≤◌, Bool, true, false, ◌||◌, cond}
use Rattle.std.proofs.Common.{not, nat_eq, List, [], ◌∷◌, length, map, take, get_or, Some, refl}
use Rattle.std.proofs.Common.{sym, ap, subst, ◌∙◌, arith, ◌⊎◌, inl, inr}
use Rattle.std.specs.Prelude.{slice_get}
use Rattle.std.specs.List.{list_any}
use Rattle.std.specs.Cmp.Lexicographic.{pointwise, same_text, other_text}
use Rattle.std.proofs.lemmas.Bool.{false≢true, cases_lt}
use Rattle.std.proofs.lemmas.Option.{slice_get_within}
use Rattle.std.proofs.lemmas.List.Folds.{list_any_more}
use Rattle.rtl_ir.specs.Faults.{IsAgain}
use Rattle.rtl_ir.specs.Rules.{AllDiffer}

abbrev pub texts : List (Bor (List ℕ)) → List (List ℕ)
texts names = map (λ (name : Bor (List ℕ)). name.now) names

abbrev pub is : Bor (List ℕ) → Bor (List ℕ) → Bool
is q name = pointwise nat_eq q.now name.now

text_at : (names : List (Bor (List ℕ))) (d : Bor (List ℕ)) (i : ℕ) → i < length names → slice_get (texts names) i ≡ Some ((get_or names i d).now)
text_at [] d i lt = absurd (omega arith)
text_at (x ∷ xs) d zero lt = refl
text_at (x ∷ xs) d (suc i) lt = text_at xs d i (omega arith)

-- a name that is among the first ones
seen_at : (names : List (Bor (List ℕ))) (q : Bor (List ℕ)) (i : ℕ) → list_any (is q) (take i names) ≡ true → (k : ℕ) × (k < i) × (slice_get (texts names) k ≡ Some q.now)
seen_at [] q zero e = absurd (false≢true e)
seen_at [] q (suc i) e = absurd (false≢true e)
seen_at (x ∷ xs) q zero e = absurd (false≢true e)
seen_at (x ∷ xs) q (suc i) e = by_head (is q x) refl e (λ f. seen_at xs q i f)
  where
    by_head : (b : Bool) → is q x ≡ b → (b || list_any (is q) (take i xs)) ≡ true
        → (list_any (is q) (take i xs) ≡ true → (k : ℕ) × (k < i)
        × (slice_get (texts xs) k ≡ Some q.now)) → (k : ℕ) × (k < suc i)
        × (slice_get (texts (x ∷ xs)) k ≡ Some q.now)
    by_head true h f more = (0, omega arith, ap Some (sym (same_text q.now x.now (sym h))))
    by_head false h f more = let r = more f in (suc r.0, omega (arith, r.1), r.2)

unseen : (names : List (Bor (List ℕ))) (q : Bor (List ℕ)) (i k : ℕ) → list_any (is q) (take i names) ≡ false → k < i → slice_get (texts names) k ≡ Some q.now → ⊥
unseen [] q i k e lt at = cc
unseen (x ∷ xs) q zero k e lt at = omega arith
unseen (x ∷ xs) q (suc i) k e lt at = by_head (is q x) refl e k lt at (λ j. unseen xs q i j)
  where
    by_head : (b : Bool) → is q x ≡ b → (b || list_any (is q) (take i xs)) ≡ false → (k : ℕ)
        → k < suc i → slice_get (texts (x ∷ xs)) k ≡ Some q.now
        → ((j : ℕ) → list_any (is q) (take i xs) ≡ false → j < i
        → slice_get (texts xs) j ≡ Some q.now → ⊥) → ⊥
    by_head true h f k lt at more = false≢true (sym f)
    by_head false h f zero lt at more = let p : q.now ≡ x.now = cc in other_text q.now x.now (sym h) p
    by_head false h f (suc k) lt at more = more k f (omega arith) at

turned : (p q : Bor (List ℕ)) → is p q ≡ is q p
turned p q = by_tests (is p q) (is q p) refl refl
  where
    by_tests : (a b : Bool) → is p q ≡ a → is q p ≡ b → is p q ≡ is q p
    by_tests true true e f = e ∙ sym f
    by_tests false false e f = e ∙ sym f
    by_tests true false e f = absurd (other_text q.now p.now (sym f) (sym (same_text p.now q.now (sym e))))
    by_tests false true e f = absurd (other_text p.now q.now (sym e) (sym (same_text q.now p.now (sym f))))

-- the set after one more name
pub seen_more : (names : List (Bor (List ℕ))) (d q : Bor (List ℕ)) (i : ℕ) → i < length names
    → cond (is (get_or names i d) q) true (list_any (is q) (take i names)) ≡ list_any (is q)
    (take (i + 1) names)
seen_more names d q i lt = by_test (is q (get_or names i d)) (list_any (is q) (take i names)) refl refl
  where
    by_test : (a b : Bool) → is q (get_or names i d) ≡ a → list_any (is q) (take i names) ≡ b
        → cond (is (get_or names i d) q) true (list_any (is q) (take i names)) ≡ list_any (is q)
        (take (i + 1) names)
    by_test true true e f = rw (list_any_more (is q) names i d lt, turned (get_or names i d) q, e, f) refl
    by_test true false e f = rw (list_any_more (is q) names i d lt, turned (get_or names i d) q, e, f) refl
    by_test false true e f = rw (list_any_more (is q) names i d lt, turned (get_or names i d) q, e, f) refl
    by_test false false e f = rw (list_any_more (is q) names i d lt, turned (get_or names i d) q, e, f) refl

opposite : (b c : Bool) → c ≡ not b → (c ≡ false → b ≡ true) × (c ≡ true → b ≡ false)
opposite true c e = (λ h. refl, λ h. absurd (false≢true (sym e ∙ h)))
opposite false c e = (λ h. absurd (false≢true (sym h ∙ e)), λ h. refl)

pub again_at : (names : List (Bor (List ℕ))) (d : Bor (List ℕ)) (i : ℕ) (has fresh : Bool)
    → i < length names → fresh ≡ not has → has ≡ list_any (is (get_or names i d)) (take i names)
    → fresh ≡ false → IsAgain (texts names) i
again_at names d i has fresh lt e h f =
    let r = seen_at names (get_or names i d) i (sym h ∙ (opposite has fresh e).0 f) in
    (r.0, r.1, (get_or names i d).now, r.2, text_at names d i lt)

pub not_again : (names : List (Bor (List ℕ))) (d : Bor (List ℕ)) (i : ℕ) (has fresh : Bool)
    → i < length names → fresh ≡ not has → has ≡ list_any (is (get_or names i d)) (take i names)
    → fresh ≡ true → IsAgain (texts names) i → ⊥
not_again names d i has fresh lt e h f a =
    let t = text_at names d i lt in
    let p : slice_get (texts names) a.0 ≡ Some ((get_or names i d).now) = a.3 ∙ sym a.4 ∙ t in
    unseen names (get_or names i d) i a.0 (sym h ∙ (opposite has fresh e).1 f) a.1 p

pub more_not_again : (names : List (List ℕ)) (i : ℕ) → ((k : ℕ) → k < i → IsAgain names k → ⊥) → (IsAgain names i → ⊥) → (k : ℕ) → k < i + 1 → IsAgain names k → ⊥
more_not_again names i none here k lt a = by_place (cases_lt k i)
  where
    by_place : (k < i) ⊎ (i ≤ k) → ⊥
    by_place (inl h) = none k h a
    by_place (inr h) = let q : k ≡ i = omega arith in here (subst (IsAgain names) q a)

-- names none of which stands again all differ
pub all_differ : (names : List (List ℕ)) → ((k : ℕ) → IsAgain names k → ⊥) → AllDiffer names
all_differ names none i j name at_i at_j = by_order (cases_lt i j) (cases_lt j i)
  where
    by_order : (i < j) ⊎ (j ≤ i) → (j < i) ⊎ (i ≤ j) → i ≡ j
    by_order (inl h) k = absurd (none j (i, h, name, at_i, at_j))
    by_order (inr h) (inl k) = absurd (none i (j, k, name, at_j, at_i))
    by_order (inr h) (inr k) = omega arith

pub none_again : (names : List (List ℕ)) → AllDiffer names → (k : ℕ) → IsAgain names k → ⊥
none_again names h k a = omega (arith, a.1, h a.0 k a.2 a.3 a.4)

length-texts : (names : List (Bor (List ℕ))) → length (texts names) ≡ length names
length-texts [] = refl
length-texts (x ∷ xs) = ap suc (length-texts xs)

-- a place past the end has no name
pub again_within : (names : List (Bor (List ℕ))) (k : ℕ) → IsAgain (texts names) k → k < length names
again_within names k a = omega (arith, slice_get_within (texts names) k a.2 a.4, length-texts names)
