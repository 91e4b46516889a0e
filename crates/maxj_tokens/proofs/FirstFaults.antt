-- The first faulty token of tokens that are looked at one by one.
use Rattle.std.proofs.Common.{◌≡◌, ◌∙◌, ℕ, ◌+◌, ◌≤◌, List, [], ◌∷◌, ◌++◌, length, slice_get, take, drop, Some, refl, sym, ap, subst, inl, inr, arith, zero, suc}
use Rattle.std.proofs.lemmas.List.{append-nil, take_all}
use Rattle.grammar.proofs.Reading.{two_fronts}
use Rattle.maxj_tokens.specs.Scanning.{PlacedToken}
use Rattle.maxj_tokens.specs.Faults.{IsFirst, HasNone}

module _ (Faulty : List PlacedToken → PlacedToken → Type 0) where
  -- a list of no tokens has no faulty one
  pub none_of_none : HasNone Faulty []
  none_of_none [] token behind e f = cc
  none_of_none (x ∷ before) token behind e f = cc

  -- one more token that isn't faulty
  pub none_more : (ts : List PlacedToken) (t : PlacedToken) → HasNone Faulty ts → (Faulty ts t → ⊥) → HasNone Faulty (ts ++ t ∷ [])
  none_more ts t none sound before token behind e f =
      elim (two_fronts ts (t ∷ []) before (token ∷ behind) e) [
        | inl w ↦ (let (m, p, q) = w in at_end m p q)
        | inr w ↦ (let (m, p, q) = w in within m p q)
      ]
    where
      at_end : (m : List PlacedToken) → before ≡ ts ++ m → t ∷ [] ≡ m ++ token ∷ behind → ⊥
      at_end [] p q =
          let same : token ≡ t = cc in
          sound (subst (λ x. Faulty ts x) same (subst (λ l. Faulty l token) (p ∙ append-nil ts) f))
      at_end (x ∷ []) p q = cc
      at_end (x ∷ y ∷ m) p q = cc

      within : (m : List PlacedToken) → ts ≡ before ++ m → token ∷ behind ≡ m ++ t ∷ [] → ⊥
      within [] p q =
          let same : token ≡ t = cc in
          sound (subst (λ x. Faulty ts x) same (subst (λ l. Faulty l token) (sym (p ∙ append-nil before)) f))
      within (x ∷ m) p q =
          let same : token ≡ x = cc in
          none before x m p (subst (λ y. Faulty before y) same f)

  pub first_there : (ts before : List PlacedToken) (t : PlacedToken) (behind : List PlacedToken) → ts ≡ before ++ t ∷ behind → HasNone Faulty before → Faulty before t → IsFirst Faulty ts t.place
  first_there ts before t behind e none f = record { before = before; token = t; behind = behind; split = e; faulty = f; first = none; at = refl }

-- the tokens round the one with a number
pub parts_at : (ts : List PlacedToken) (i : ℕ) (t : PlacedToken) → slice_get ts i ≡ Some t → ts ≡ take i ts ++ t ∷ drop (i + 1) ts
parts_at [] i t e = absurd (cc)
parts_at (x ∷ ts) zero t e = let same : x ≡ t = cc in ap (λ y. y ∷ ts) same
parts_at (x ∷ ts) (suc i) t e = let f : suc i + 1 ≡ suc (i + 1) = omega arith in rw f (ap (λ l. x ∷ l) (parts_at ts i t e))

-- one more of them
pub front_more : (ts : List PlacedToken) (i : ℕ) (t : PlacedToken) → slice_get ts i ≡ Some t → take (i + 1) ts ≡ take i ts ++ t ∷ []
front_more [] i t e = absurd (cc)
front_more (x ∷ ts) zero t e = let same : x ≡ t = cc in ap (λ y. y ∷ []) same
front_more (x ∷ ts) (suc i) t e = let f : suc i + 1 ≡ suc (i + 1) = omega arith in rw f (ap (λ l. x ∷ l) (front_more ts i t e))

module _ (Faulty : List PlacedToken → PlacedToken → Type 0) (ts : List PlacedToken) (i : ℕ) (t : PlacedToken) where
  -- the token with this number is the first
  pub first_at : slice_get ts i ≡ Some t → HasNone Faulty (take i ts) → Faulty (take i ts) t → IsFirst Faulty ts t.place
  first_at e none f = first_there Faulty ts (take i ts) t (drop (i + 1) ts) (parts_at ts i t e) none f

  -- neither a token before it nor itself
  pub none_at : slice_get ts i ≡ Some t → HasNone Faulty (take i ts) → (Faulty (take i ts) t → ⊥) → HasNone Faulty (take (i + 1) ts)
  none_at e none sound = subst (HasNone Faulty) (sym (front_more ts i t e)) (none_more Faulty (take i ts) t none sound)

-- none of all
pub none_at_all : (Faulty : List PlacedToken → PlacedToken → Type 0) (ts : List PlacedToken) (i : ℕ) → length ts ≤ i → HasNone Faulty (take i ts) → HasNone Faulty ts
none_at_all Faulty ts i h none = subst (HasNone Faulty) (take_all i ts h) none
