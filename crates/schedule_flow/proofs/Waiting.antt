-- What waits in a queue after one entry more, or one less.
use Rattle.std.proofs.Common.{◌≡◌, ◌⊎◌, inl, inr, ⊎_elim, ℕ, ◌≤◌, false, List, [], ◌∷◌, get_or, refl, sym, ap, ◌∙◌, subst, arith}
use Rattle.std.specs.List.{Contains}
use Rattle.std.specs.List.Sorted.{IsPermutation}
use Rattle.std.specs.BinaryHeap.{IsUpperBound}
use Rattle.std.specs.declared.cmp.Ordering.{Ordering}
use Rattle.std.specs.declared.cmp.Ordering.TheVariants.{Less, Equal, Greater}
use Rattle.std.specs.Ordering.{nat_cmp, ordering_then, is_lt}
use Rattle.std.proofs.lemmas.List.Sorted.{Contains-permutation, IsPermutation-sym}
use Rattle.std.proofs.lemmas.List.Elements.{Contains-append_right, Contains-append_cases}
use Rattle.schedule_flow.specs.Queue.{Entry, nearer, IsQueued, IsNearest}

first : (e : Entry) (es : List Entry) → Contains (e ∷ es) e
first e es = (0, omega arith, refl)

later : (e u : Entry) (es : List Entry) → Contains es u → Contains (e ∷ es) u
later e u es h = Contains-append_right (e ∷ []) es u h

single : (e u : Entry) → Contains (e ∷ []) u → e ≡ u
single e u h =
    let z : h.0 ≡ 0 = omega (arith, h.1) in
    let g : get_or (e ∷ []) h.0 u ≡ e = ap (λ k. get_or (e ∷ []) k u) z in
    sym g ∙ h.2

either : (e u : Entry) (es : List Entry) → Contains (e ∷ es) u → (e ≡ u) ⊎ Contains es u
either e u es h = ⊎_elim
    (λ (s : Contains (e ∷ []) u). inl (single e u s))
    (λ (s : Contains es u). inr s)
    (Contains-append_cases (e ∷ []) es u h)

pub queued : (old new : List Entry) (e : Entry) → IsPermutation (e ∷ old) new → IsQueued old new e.0.0 e.1
queued old new e p = record {
  here = (e, Contains-permutation (e ∷ old) new e p (first e old), refl, refl);
  kept = λ c u w. (w.0, Contains-permutation (e ∷ old) new w.0 p (later e w.0 old w.1), w.2, w.3);
  only = λ c u w. ⊎_elim
      (λ (q : e ≡ w.0). inr (sym w.2 ∙ sym (ap (λ (z : Entry). z.0.0) q), sym w.3 ∙ sym (ap (λ (z : Entry). z.1) q)))
      (λ (h : Contains old w.0). inl (w.0, h, w.2, w.3))
      (either e w.0 old (Contains-permutation new (e ∷ old) w.0 (IsPermutation-sym (e ∷ old) new p) w.1));
}

first_not_lt : (a b : Ordering) → is_lt (ordering_then a b) ≡ false → is_lt a ≡ false
first_not_lt Less b e = e
first_not_lt Equal b e = refl
first_not_lt Greater b e = e

at_most : (x y : ℕ) → is_lt (nat_cmp x y) ≡ false → y ≤ x
at_most x y h = grind (arith, h)

upper : (e : Entry) (es : List Entry) → IsUpperBound nearer e es → (u : Entry) → Contains es u → e.0.0 ≤ u.0.0
upper e [] h u k = absurd (omega (arith, k.1))
upper e (d ∷ es) h u k = ⊎_elim
    (λ (q : d ≡ u). let a : e.0.0 ≤ d.0.0 = at_most d.0.0 e.0.0 (first_not_lt _ _ h.0) in subst (λ (z : Entry). e.0.0 ≤ z.0.0) q a)
    (λ (m : Contains es u). upper e es h.1 u m)
    (either d u es k)

pub nearest : (old new : List Entry) (e : Entry) → IsPermutation old (e ∷ new) → IsUpperBound nearer e old → IsNearest old new e.0.0 e.1
nearest old new e p h = record {
  here = (e, Contains-permutation (e ∷ new) old e (IsPermutation-sym old (e ∷ new) p) (first e new), refl, refl);
  least = λ c u w. let a = upper e old h w.0 w.1 in omega (arith, a, w.2);
  kept = λ c u w. ⊎_elim
      (λ (q : e ≡ w.0). inr (sym w.2 ∙ sym (ap (λ (z : Entry). z.0.0) q), sym w.3 ∙ sym (ap (λ (z : Entry). z.1) q)))
      (λ (h : Contains new w.0). inl (w.0, h, w.2, w.3))
      (either e w.0 new (Contains-permutation old (e ∷ new) w.0 p w.1));
  only = λ c u w. (w.0, Contains-permutation (e ∷ new) old w.0 (IsPermutation-sym old (e ∷ new) p) (later e w.0 new w.1), w.2, w.3);
}
