-- What raising one node keeps.
use Rattle.std.proofs.Common.{◌≡◌, ◌≢◌, ◌⊎◌, inl, inr, ⊎_elim, ℕ, ◌<◌, ◌≤◌, pos, ◌+ℤ◌, ◌≤ℤ◌, ◌<ℤ◌, List, [], ◌∷◌, length, get_or, set, unsigned_abs, refl, sym, ap, ◌∙◌, subst, arith}
use Rattle.std.proofs.lemmas.Int.{ints}
use Rattle.std.proofs.lemmas.Bool.{cases_eq}
use Rattle.std.proofs.lemmas.List.{get_or-set_same, get_or-set_other, length-set}
use Rattle.std.proofs.lemmas.List.Sums.{sum_by-set}
use Rattle.cycle_find.specs.declared.arcs.Arc.{Arc}
use Rattle.cycle_find.specs.Constraints.{EndsInRange, NeedsWithin, arc_at, start_of, end_of, need_of, needs_of}
use Rattle.cycle_find.specs.Search.{IsRaised, HasParent, IsChain, Rises, so_far}

-- what is known of the arc that raised a node
pub record Parent (arcs : List Arc) (x : List ℕ) (v i : ℕ) : Type 0 where
  pub arc : i < length arcs
  pub here : end_of arcs i ≡ v
  pub reached : so_far x v ≤ℤ (so_far x (start_of arcs i) +ℤ need_of arcs i)

pub parent_at : (arcs : List Arc) (x via : List ℕ) → IsRaised arcs x via → (v i : ℕ) → 0 < get_or x v 0 → get_or via v 0 ≡ i → Parent arcs x v i
parent_at arcs x via r v i up e =
    let p = r.parents v up in
    let P : ℕ → Type 0 = λ k. Parent arcs x v k in
    let q : Parent arcs x v (get_or via v 0) = record { arc = p.arc; here = p.here; reached = p.reached } in
    subst P e q

-- a walk back climbs no more than its needs
pub chain_climbs : (arcs : List Arc) (x via : List ℕ) → IsRaised arcs x via → (js : List ℕ) (a b : ℕ) → IsChain arcs x via a js b → so_far x a ≤ℤ (so_far x b +ℤ needs_of arcs js)
chain_climbs arcs x via r [] a b e =
    let q : so_far x a ≡ so_far x b = ap (so_far x) e in
    omega (arith, ints, q)
chain_climbs arcs x via r (i ∷ js) a b c =
    let p = parent_at arcs x via r a i c.0 c.1 in
    let q = chain_climbs arcs x via r js (start_of arcs i) b c.2 in
    omega (arith, ints, p.reached, q)

module _ (arcs : List Arc) (x via : List ℕ) (j h : ℕ) (jn : j < length arcs)
    (s_in : start_of arcs j < length x) (t_in : end_of arcs j < length x)
    (r : IsRaised arcs x via) (high : get_or x (end_of arcs j) 0 < h)
    (e : pos h ≡ (so_far x (start_of arcs j) +ℤ need_of arcs j)) where
  at_to : get_or (set x (end_of arcs j) h) (end_of arcs j) 0 ≡ h
  at_to = get_or-set_same x (end_of arcs j) h 0 t_in

  off : (v : ℕ) → v ≢ end_of arcs j → get_or (set x (end_of arcs j) h) v 0 ≡ get_or x v 0
  off v n = get_or-set_other x (end_of arcs j) v h 0 n

  via_to : get_or (set via (end_of arcs j) j) (end_of arcs j) 0 ≡ j
  via_to = get_or-set_same via (end_of arcs j) j 0 (omega (arith, r.places))

  via_off : (v : ℕ) → v ≢ end_of arcs j → get_or (set via (end_of arcs j) j) v 0 ≡ get_or via v 0
  via_off v n = get_or-set_other via (end_of arcs j) v j 0 n

  grows : (v : ℕ) → get_or x v 0 ≤ get_or (set x (end_of arcs j) h) v 0
  grows v = ⊎_elim
      (λ (q : v ≡ end_of arcs j). subst (λ (k : ℕ). get_or x k 0 ≤ get_or (set x (end_of arcs j) h) k 0) (sym q) (omega (arith, at_to, high)))
      (λ (n : v ≢ end_of arcs j). omega (arith, off v n))
      (cases_eq v (end_of arcs j))

  at_end : Parent arcs (set x (end_of arcs j) h) (end_of arcs j) j
  at_end = record {
    arc = jn;
    here = refl;
    reached = omega (arith, ints, at_to, e, grows (start_of arcs j));
  }

  parents_after : (v : ℕ) → 0 < get_or (set x (end_of arcs j) h) v 0 → HasParent arcs (set x (end_of arcs j) h) (set via (end_of arcs j) j) v
  parents_after v up =
      let x' : List ℕ = set x (end_of arcs j) h in
      let via' : List ℕ = set via (end_of arcs j) j in
      let back : (i : ℕ) → get_or via' v 0 ≡ i → Parent arcs x' v i → HasParent arcs x' via' v = λ (i : ℕ) (q : get_or via' v 0 ≡ i) (p : Parent arcs x' v i).
      let P : ℕ → Type 0 = λ k. Parent arcs x' v k in
      let p' = subst P (sym q) p in
      record { arc = p'.arc; here = p'.here; reached = p'.reached } in
      ⊎_elim
      (λ (q : v ≡ end_of arcs j).
      let P : ℕ → Type 0 = λ k. Parent arcs x' k j in
      back j (ap (λ k. get_or via' k 0) q ∙ via_to) (subst P (sym q) at_end))
      (λ (n : v ≢ end_of arcs j).
      let up' : 0 < get_or x v 0 = omega (arith, off v n, up) in
      let p = parent_at arcs x via r v (get_or via v 0) up' refl in
      back (get_or via v 0) (via_off v n) (record {
        arc = p.arc;
        here = p.here;
        reached = omega (arith, ints, p.reached, off v n, grows (start_of arcs (get_or via v 0)));
      }))
      (cases_eq v (end_of arcs j))

  record Climb (js : List ℕ) (a b : ℕ) : Type 0 where
    at_most : so_far x a ≤ℤ (so_far x b +ℤ needs_of arcs js)
    old_or_more : IsChain arcs x via a js b ⊎ (so_far x a <ℤ (so_far x b +ℤ needs_of arcs js))

  climb : (js : List ℕ) (a b : ℕ) → IsChain arcs (set x (end_of arcs j) h) (set via (end_of arcs j) j) a js b → Climb js a b
  climb [] a b q =
      let s : so_far x a ≡ so_far x b = ap (so_far x) q in
      record { at_most = omega (arith, ints, s); old_or_more = inl q }
  climb (i ∷ js) a b c =
      let rest = climb js (start_of arcs i) b c.2 in
      ⊎_elim
      (λ (q : a ≡ end_of arcs j).
      let same : i ≡ j = sym c.1 ∙ ap (λ k. get_or (set via (end_of arcs j) j) k 0) q ∙ via_to in
      let s : so_far x a ≡ so_far x (end_of arcs j) = ap (so_far x) q in
      let n : need_of arcs i ≡ need_of arcs j = ap (need_of arcs) same in
      let f : so_far x (start_of arcs i) ≡ so_far x (start_of arcs j) = ap (λ k. so_far x (start_of arcs k)) same in
      let more : so_far x a <ℤ (so_far x b +ℤ needs_of arcs (i ∷ js)) = omega (arith, ints, s, n, f, e, high, rest.at_most) in
      record { at_most = omega (arith, ints, more); old_or_more = inr more })
      (λ (n : a ≢ end_of arcs j).
      let up : 0 < get_or x a 0 = omega (arith, off a n, c.0) in
      let same : get_or via a 0 ≡ i = sym (via_off a n) ∙ c.1 in
      let p = parent_at arcs x via r a i up same in
      record {
        at_most = omega (arith, ints, p.reached, rest.at_most);
        old_or_more = ⊎_elim
            (λ (old : IsChain arcs x via (start_of arcs i) js b). inl (up, same, old))
            (λ (more : so_far x (start_of arcs i) <ℤ (so_far x b +ℤ needs_of arcs js)). inr (omega (arith, ints, p.reached, more)))
            rest.old_or_more;
      })
      (cases_eq a (end_of arcs j))

  pub raised_after : IsRaised arcs (set x (end_of arcs j) h) (set via (end_of arcs j) j)
  raised_after = record {
    places = length-set via (end_of arcs j) j ∙ r.places ∙ sym (length-set x (end_of arcs j) h);
    parents = parents_after;
    climbs = λ v i js c.
        let q = climb (i ∷ js) v v c in
        ⊎_elim
        (λ (old : IsChain arcs x via v (i ∷ js) v). r.climbs v i js old)
        (λ (more : so_far x v <ℤ (so_far x v +ℤ needs_of arcs (i ∷ js))). omega (arith, ints, more))
        q.old_or_more;
    below = λ y s n v. ⊎_elim
        (λ (q : v ≡ end_of arcs j).
        let P : ℕ → Type 0 = λ k. so_far (set x (end_of arcs j) h) k ≤ℤ y k in
        subst P (sym q) (omega (arith, ints, at_to, e, s j jn, r.below y s n (start_of arcs j))))
        (λ (d : v ≢ end_of arcs j). omega (arith, ints, off v d, r.below y s n v))
        (cases_eq v (end_of arcs j));
  }

  pub rises_after : (size : ℕ) → unsigned_abs (need_of arcs j) ≤ size → Rises x (set x (end_of arcs j) h) (start_of arcs j) (end_of arcs j) size
  rises_after size small = record {
    more = omega (arith, sum_by-set (λ k. k) x (end_of arcs j) h 0 t_in, high);
    others = off;
    step = omega (arith, ints, at_to, e, small);
  }

-- the same, of the arc that was read
pub read_raised : (arcs : List Arc) (x via : List ℕ) (j h : ℕ) (a : Arc) → a ≡ arc_at arcs j
    → j < length arcs → EndsInRange (length x) arcs → IsRaised arcs x via → get_or x a.to 0 < h
    → pos h ≡ (pos (get_or x a.from 0) +ℤ a.need) → IsRaised arcs (set x a.to h) (set via a.to j)
read_raised arcs x via j h a q jn ends r high e =
    let H : Arc → Type 0 = λ b. (get_or x b.to 0 < h) × (pos h ≡ (pos (get_or x b.from 0) +ℤ b.need)) in
    let k = subst H q (high, e) in
    let P : Arc → Type 0 = λ b. IsRaised arcs (set x b.to h) (set via b.to j) in
    subst P (sym q) (raised_after arcs x via j h jn (ends j jn).0 (ends j jn).1 r k.0 k.1)

pub read_rises : (arcs : List Arc) (x via : List ℕ) (j h size : ℕ) (a : Arc) → a ≡ arc_at arcs j
    → j < length arcs → EndsInRange (length x) arcs → NeedsWithin size arcs
    → IsRaised arcs x via → get_or x a.to 0 < h → pos h ≡ (pos (get_or x a.from 0) +ℤ a.need)
    → Rises x (set x a.to h) (start_of arcs j) (end_of arcs j) size
read_rises arcs x via j h size a q jn ends within r high e =
    let H : Arc → Type 0 = λ b. (get_or x b.to 0 < h) × (pos h ≡ (pos (get_or x b.from 0) +ℤ b.need)) in
    let k = subst H q (high, e) in
    let P : Arc → Type 0 = λ b. Rises x (set x b.to h) (start_of arcs j) (end_of arcs j) size in
    subst P (sym q) (rises_after arcs x via j h jn (ends j jn).0 (ends j jn).1 r k.0 k.1 size (within j jn))
