-- Walking back along the arcs that raised nodes.
use Rattle.std.proofs.Common.{◌≡◌, ◌≢◌, ⊎_elim, ℕ, zero, suc, ◌+◌, ◌-◌, ◌<◌, ◌≤◌, pos, ◌+ℤ◌, ◌≤ℤ◌, ◌<ℤ◌, List, [], ◌∷◌, ◌++◌, reverse, length, get_or, set, drop, refl, sym, ap, ◌∙◌, subst, arith}
use Rattle.std.proofs.lemmas.Int.{ints}
use Rattle.std.proofs.lemmas.Bool.{cases_eq, cases_lt}
use Rattle.std.proofs.lemmas.List.{get_or-set_same, get_or-set_other, length-append, length-drop, length-reverse, reverse-append, get_or-reverse, get_or-drop, get_or_append_left, get_or-append_right}
use Rattle.std.proofs.Common.{drop-cons}
use Rattle.cycle_find.specs.declared.arcs.Arc.{Arc}
use Rattle.cycle_find.specs.Constraints.{IsWalk, IsSimple, IsPositiveCycle, Numbers, Solves, start_of, end_of, need_of, needs_of}
use Rattle.cycle_find.specs.Search.{IsRaised, IsChain}
use Rattle.cycle_find.proofs.Raising.{parent_at}

-- each arc of the path has its number, from 1, at the node where it ends, and no other node has one
pub record IsStamped (arcs : List Arc) (path place : List ℕ) : Type 0 where
  pub at : (i : ℕ) → i < length path → get_or place (end_of arcs (get_or path i 0)) 0 ≡ i + 1
  pub only : (v : ℕ) → 0 < get_or place v 0 → (get_or place v 0 ≤ length path) × (end_of arcs (get_or path (get_or place v 0 - 1) 0) ≡ v)

pub chain_more : (arcs : List Arc) (x via : List ℕ) (js : List ℕ) (a b j : ℕ)
    → IsChain arcs x via a js b → 0 < get_or x b 0 → get_or via b 0 ≡ j
    → IsChain arcs x via a (js ++ j ∷ []) (start_of arcs j)
chain_more arcs x via [] a b j c up e =
    let P : ℕ → Type 0 = λ k. (0 < get_or x k 0) × (get_or via k 0 ≡ j) × (start_of arcs j ≡ start_of arcs j) in
    subst P (sym c) (up, e, refl)
chain_more arcs x via (i ∷ js) a b j c up e = (c.0, c.1, chain_more arcs x via js (start_of arcs i) b j c.2 up e)

pub chain_from : (arcs : List Arc) (x via : List ℕ) → IsRaised arcs x via
    → (js : List ℕ) (k a b : ℕ) → k < length js → IsChain arcs x via a js b
    → IsChain arcs x via (end_of arcs (get_or js k 0)) (drop k js) b
chain_from arcs x via r [] k a b h c = absurd (omega arith)
chain_from arcs x via r (j ∷ js) zero a b h c =
    let p = parent_at arcs x via r a j c.0 c.1 in
    let P : ℕ → Type 0 = λ v. IsChain arcs x via v (j ∷ js) b in
    subst P (sym p.here) c
chain_from arcs x via r (j ∷ js) (suc k) a b h c = chain_from arcs x via r js k (start_of arcs j) b (omega arith) c.2

walk_more : (arcs : List Arc) (js : List ℕ) (a b j : ℕ) → IsWalk arcs a js b → j < length arcs → start_of arcs j ≡ b → IsWalk arcs a (js ++ j ∷ []) (end_of arcs j)
walk_more arcs [] a b j w h e = (h, e ∙ sym w, refl)
walk_more arcs (i ∷ js) a b j w h e = (w.0, w.1, walk_more arcs js (end_of arcs i) b j w.2 h e)

reverse_cons : (j : ℕ) (js : List ℕ) → reverse (j ∷ js) ≡ reverse js ++ j ∷ []
reverse_cons j js = reverse-append (j ∷ []) js

pub walk_of_chain : (arcs : List Arc) (x via : List ℕ) → IsRaised arcs x via → (js : List ℕ) (a b : ℕ) → IsChain arcs x via a js b → IsWalk arcs b (reverse js) a
walk_of_chain arcs x via r [] a b c = sym c
walk_of_chain arcs x via r (j ∷ js) a b c =
    let p = parent_at arcs x via r a j c.0 c.1 in
    let rest = walk_of_chain arcs x via r js (start_of arcs j) b c.2 in
    let w = walk_more arcs (reverse js) b (start_of arcs j) j rest p.arc refl in
    let P : List ℕ → Type 0 = λ l. IsWalk arcs b l a in
    let Q : ℕ → Type 0 = λ v. IsWalk arcs b (reverse js ++ j ∷ []) v in
    subst P (sym (reverse_cons j js)) (subst Q p.here w)

needs-more : (arcs : List Arc) (js : List ℕ) (j : ℕ) → needs_of arcs (js ++ j ∷ []) ≡ (needs_of arcs js +ℤ need_of arcs j)
needs-more arcs [] j = omega (arith, ints)
needs-more arcs (i ∷ js) j = omega (arith, ints, needs-more arcs js j)

pub needs-reverse : (arcs : List Arc) (js : List ℕ) → needs_of arcs (reverse js) ≡ needs_of arcs js
needs-reverse arcs [] = refl
needs-reverse arcs (j ∷ js) =
    let e : needs_of arcs (reverse (j ∷ js)) ≡ needs_of arcs (reverse js ++ j ∷ []) = ap (needs_of arcs) (reverse_cons j js) in
    e ∙ omega (arith, ints, needs-more arcs (reverse js) j, needs-reverse arcs js)

pub stamped_after : (arcs : List Arc) (path place : List ℕ) (node j n : ℕ)
    → IsStamped arcs path place → node < length place → get_or place node 0 ≡ 0
    → end_of arcs j ≡ node → n ≡ length (path ++ j ∷ [])
    → IsStamped arcs (path ++ j ∷ []) (set place node n)
stamped_after arcs path place node j n s in_place fresh here e =
    let new : List ℕ = path ++ j ∷ [] in
    let len : length new ≡ length path + 1 = length-append path (j ∷ []) in
    let front : (i : ℕ) → i < length path → get_or new i 0 ≡ get_or path i 0 = λ (i : ℕ) (h : i < length path). get_or_append_left path (j ∷ []) 0 i h in
    let last : get_or new (length path) 0 ≡ j = (let z : length path - length path
    ≡ 0 = omega arith in get_or-append_right path (j
    ∷ []) (length path) (length path) 0 refl (omega arith) ∙ ap (λ m. get_or (j ∷ []) m 0) z) in
    record {
      at = λ i h. ⊎_elim
          (λ (lt : i < length path).
          let old = s.at i lt in
          let apart : end_of arcs (get_or path i 0) ≢ node = λ q. absurd (omega (arith, old, ap (λ v. get_or place v 0) q, fresh)) in
          ap (λ k. get_or (set place node n) (end_of arcs k) 0) (front i lt) ∙ get_or-set_other place node (end_of arcs (get_or path i 0)) n 0 apart ∙ old)
          (λ (ge : length path ≤ i).
          let q : i ≡ length path = omega (arith, len, h) in
          let k : get_or new i 0 ≡ j = ap (λ m. get_or new m 0) q ∙ last in
          ap (λ m. get_or (set place node n) (end_of arcs m) 0) k ∙ ap (λ v. get_or (set place node n) v 0) here ∙ get_or-set_same place node n 0 in_place ∙ omega (arith, e, len, q))
          (cases_lt i (length path));
      only = λ v up. ⊎_elim
          (λ (q : v ≡ node).
          let here_n : get_or (set place node n) v 0 ≡ n = ap (λ k. get_or (set place node n) k 0) q ∙ get_or-set_same place node n 0 in_place in
          let index : get_or (set place node n) v 0 - 1 ≡ length path = omega (arith, here_n, e, len) in
          (omega (arith, here_n, e), ap (λ m. end_of arcs (get_or new m 0)) index ∙ ap (end_of arcs) last ∙ here ∙ sym q))
          (λ (d : v ≢ node).
          let same = get_or-set_other place node v n 0 d in
          let old = s.only v (omega (arith, same, up)) in
          let lt : get_or place v 0 - 1 < length path = omega (arith, same, up, old.0) in
          (omega (arith, same, old.0, len), ap (λ m. end_of arcs (get_or new (m - 1) 0)) same ∙ ap (end_of arcs) (front (get_or place v 0 - 1) lt) ∙ old.1))
          (cases_eq v node);
    }

module _ (arcs : List Arc) (path place : List ℕ) (k : ℕ) (s : IsStamped arcs path place) where
  stamp : (i : ℕ) → i < length (reverse (drop k path)) → get_or place (end_of arcs (get_or (reverse (drop k path)) i 0)) 0 ≡ k + (length (drop k path) - 1 - i) + 1
  stamp i h =
      let len : length (reverse (drop k path)) ≡ length (drop k path) = length-reverse (drop k path) in
      let len' : length (drop k path) ≡ length path - k = length-drop k path in
      let m : ℕ = length (drop k path) - 1 - i in
      let a : get_or (reverse (drop k path)) i 0 ≡ get_or (drop k path) m 0 = get_or-reverse (drop k path) i 0 (omega (arith, len, h)) in
      let b : get_or (drop k path) m 0 ≡ get_or path (k + m) 0 = get_or-drop k path m 0 in
      ap (λ q. get_or place (end_of arcs q) 0) (a ∙ b) ∙ s.at (k + m) (omega (arith, len, len', h))

  pub simple : IsSimple arcs (reverse (drop k path))
  simple i m hi hm e =
      let q : get_or place (end_of arcs (get_or (reverse (drop k path)) i 0)) 0 ≡ get_or place (end_of arcs (get_or (reverse (drop k path)) m 0)) 0 = ap (λ v. get_or place v 0) e in
      omega (arith, q, stamp i hi, stamp m hm, hi, hm, length-reverse (drop k path))

pub cycle_back : (arcs : List Arc) (x via path place : List ℕ) (start node : ℕ)
    → IsRaised arcs x via → IsStamped arcs path place → IsChain arcs x via start path node
    → 0 < get_or place node 0 → IsPositiveCycle arcs (reverse (drop (get_or place node 0 - 1) path))
cycle_back arcs x via path place start node r s c up =
    let k : ℕ = get_or place node 0 - 1 in
    let o = s.only node up in
    let lt : k < length path = omega (arith, o.0, up) in
    let from = chain_from arcs x via r path k start node lt c in
    let P : ℕ → Type 0 = λ v. IsChain arcs x via v (drop k path) node in
    let round : IsChain arcs x via node (drop k path) node = subst P o.1 from in
    let cons : drop k path ≡ get_or path k 0 ∷ drop (suc k) path = drop-cons path k 0 lt in
    let Q : List ℕ → Type 0 = λ l. IsChain arcs x via node l node in
    let high = r.climbs node (get_or path k 0) (drop (suc k) path) (subst Q cons round) in
    let R : List ℕ → Type 0 = λ l. pos 0 <ℤ needs_of arcs l in
    let high' : pos 0 <ℤ needs_of arcs (drop k path) = subst R (sym cons) high in
    record {
      closed = (node, walk_of_chain arcs x via r (drop k path) node node round);
      simple = simple arcs path place k s;
      positive = omega (arith, ints, high', needs-reverse arcs (drop k path));
    }

-- a closed walk of positive sum leaves no solution
walk_gains : (arcs : List Arc) (x : Numbers) → Solves x arcs → (js : List ℕ) (a b : ℕ) → IsWalk arcs a js b → (x a +ℤ needs_of arcs js) ≤ℤ x b
walk_gains arcs x s [] a b w =
    let e : x a ≡ x b = ap x w in
    omega (arith, ints, e)
walk_gains arcs x s (j ∷ js) a b w =
    let e : x (start_of arcs j) ≡ x a = ap x w.1 in
    omega (arith, ints, e, s j w.0, walk_gains arcs x s js (end_of arcs j) b w.2)

pub unsolvable : (arcs : List Arc) (js : List ℕ) → IsPositiveCycle arcs js → (x : Numbers) → Solves x arcs → ⊥
unsolvable arcs js p x s = omega (arith, ints, walk_gains arcs x s js p.closed.0 p.closed.0 p.closed.1, p.positive)
