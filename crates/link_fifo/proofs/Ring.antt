-- A ring of words: the arithmetic of a queue in a memory.
use Rattle.std.proofs.Common.{◌≡◌, ◌≢◌, ℕ, suc, ◌+◌, ◌-◌, ◌<◌, ◌≤◌, ◌⊎◌, inl, inr, Bool, true, false, cond}
use Rattle.std.proofs.Common.{eqb, ltb, List, [], ◌∷◌, ◌++◌, length, get_or, drop, refl, sym, ap, ◌∙◌, ⊎_elim, arith, length-append}
use Rattle.std.proofs.lemmas.Bool.{eqb-true, eq-eqb, ltb-true, ltb-false, cases_lt}
use Rattle.std.proofs.lemmas.List.{get_or_append_left, get_or_push}

-- a place past the end begins again
abbrev pub wrap : ℕ → ℕ → ℕ
wrap d s = cond (ltb s d) s (s - d)

pub wrap_is : (d s : ℕ) → ((s < d) × (wrap d s ≡ s)) ⊎ ((d ≤ s) × (wrap d s ≡ s - d))
wrap_is d s = split (ltb s d) refl
  where
    split : (b : Bool) → ltb s d ≡ b → ((s < d) × (cond b s (s - d) ≡ s)) ⊎ ((d ≤ s) × (cond b s (s - d) ≡ s - d))
    split true e = inl (ltb-true s d e, refl)
    split false e = inr (ltb-false s d e, refl)

pub wrap_below : (d s : ℕ) → s < d + d → wrap d s < d
wrap_below d s h = ⊎_elim (λ (a : (s < d) × (wrap d s ≡ s)). omega arith) (λ (b : (d ≤ s) × (wrap d s ≡ s - d)). omega arith) (wrap_is d s)

-- the next place, and then i further, is i + 1 further
pub wrap_next : (d place i : ℕ) → place < d → i < d → wrap d (wrap d (place + 1) + i) ≡ wrap d (place + (i + 1))
wrap_next d place i hp hi =
    let a = wrap_is d (place + 1) in
    let b = wrap_is d (wrap d (place + 1) + i) in
    let c = wrap_is d (place + (i + 1)) in
    grind arith

-- different distances are different places
pub wrap_apart : (d place i j : ℕ) → place < d → i < d → j < d → i ≢ j → wrap d (place + i) ≢ wrap d (place + j)
wrap_apart d place i j hp hi hj ne =
    let a = wrap_is d (place + i) in
    let b = wrap_is d (place + j) in
    grind arith

-- the words of a queue stand in the ring from a place on
pub record Ring (d place count : ℕ) (cells : ℕ → ℕ) (q : List ℕ) : Type 0 where
  pub within : place < d
  pub counted : count ≡ length q
  pub room : length q ≤ d
  pub held : (i : ℕ) → i < length q → cells (wrap d (place + i)) ≡ get_or q i 0

pub empty : (d : ℕ) (cells : ℕ → ℕ) → 0 < d → Ring d 0 0 cells []
empty d cells h = record { within = h; counted = refl; room = omega arith; held = λ i k. absurd (omega arith) }

-- the first word leaves
pub leaves :
    (d place count : ℕ) (cells : ℕ → ℕ) (q : List ℕ)
    → 0 < length q
    → Ring d place count cells q
    → Ring d (wrap d (place + 1)) (count - 1) cells (drop 1 q)
leaves d place count cells [] h r = absurd (omega arith)
leaves d place count cells (x ∷ q) h r =
    record {
      within = wrap_below d (place + 1) (omega (arith, r.within));
      counted = omega (arith, r.counted);
      room = omega (arith, r.room);
      held = λ i k.
          ap cells (wrap_next d place i r.within (omega (arith, r.room)))
          ∙ r.held (i + 1) (omega arith)
          ∙ ap (λ n. get_or (x ∷ q) n 0) (let e : i + 1 ≡ suc i = omega arith in e);
    }

abbrev pub put : (ℕ → ℕ) → ℕ → ℕ → ℕ → ℕ
put cells at x k = cond (eqb k at) x (cells k)

put_same : (cells : ℕ → ℕ) (at x k : ℕ) → k ≡ at → put cells at x k ≡ x
put_same cells at x k e = ap (λ b. cond b x (cells k)) (eq-eqb k at e)

put_other : (cells : ℕ → ℕ) (at x k : ℕ) → k ≢ at → put cells at x k ≡ cells k
put_other cells at x k ne = split (eqb k at) refl
  where
    split : (b : Bool) → eqb k at ≡ b → cond b x (cells k) ≡ cells k
    split true e = absurd (ne (eqb-true k at e))
    split false e = refl

-- a word comes
pub comes :
    (d place count x : ℕ) (cells : ℕ → ℕ) (q : List ℕ)
    → length q < d
    → Ring d place count cells q
    → Ring d place (count + 1) (put cells (wrap d (place + count)) x) (q ++ x ∷ [])
comes d place count x cells q h r =
    let len : length (q ++ x ∷ []) ≡ length q + 1 = simp length-append (omega arith) in
    record {
      within = r.within;
      counted = omega (arith, r.counted);
      room = omega arith;
      held = λ i k.
          ⊎_elim
          (λ (lt : i < length q).
          let ne : i ≢ count = omega (arith, r.counted) in
          put_other cells (wrap d (place + count)) x (wrap d (place + i)) (wrap_apart d place i count r.within (omega arith) (omega (arith, r.counted)) ne)
          ∙ r.held i lt ∙ sym (get_or_append_left q (x ∷ []) 0 i lt))
          (λ (ge : length q ≤ i).
          let e : i ≡ count = omega (arith, r.counted) in
          put_same cells (wrap d (place + count)) x (wrap d (place + i)) (ap (λ n. wrap d (place + n)) e)
          ∙ sym (get_or_push q x 0 i (omega (arith, r.counted))))
          (cases_lt i (length q));
    }
