-- Going back from a node in want.
use Rattle.std.proofs.Common.{◌≡◌, ◌≢◌, ⊎_elim, ℕ, ◌+◌, ◌-◌, ◌/◌, ◌%◌, ◌<◌, ◌≤◌, pos, ◌+ℤ◌, ◌≤ℤ◌, List, [], ◌∷◌, ◌++◌, reverse, length, get_or, refl, sym, ap, ◌∙◌, subst, arith}
use Rattle.std.proofs.lemmas.Int.{ints}
use Rattle.std.proofs.lemmas.Bool.{cases_eq, cases_lt}
use Rattle.std.proofs.lemmas.List.{length-append, length-reverse, get_or_append_left, get_or-append_right, get_or-reverse}
use Rattle.cycle_find.specs.Constraints.{Numbers}
use Rattle.schedule_problem.specs.declared.problem.Problem.{Problem}
use Rattle.schedule_problem.specs.Flow.{Flow, excess}
use Rattle.schedule_flow.specs.Network.{IsPath, tail_of, head_of, first_of, last_of}
use Rattle.schedule_flow.specs.Reach.{IsStep, IsFree}

-- the arcs from a node in want back to a node
pub record IsTrail (p : Problem) (x : Numbers) (f : Flow) (place : List ℕ) (back : List ℕ) (want node amount : ℕ) : Type 0 where
  pub linked : (k : ℕ) → k + 1 < length back → tail_of p.arcs.list (get_or back k 0) ≡ head_of p.arcs.list (get_or back (k + 1) 0)
  pub none : length back ≡ 0 → node ≡ want
  pub first : 0 < length back → head_of p.arcs.list (get_or back 0 0) ≡ want
  pub last : (k : ℕ) → k + 1 ≡ length back → tail_of p.arcs.list (get_or back k 0) ≡ node
  pub above : (k : ℕ) → k < length back → get_or place node 0 < get_or place (head_of p.arcs.list (get_or back k 0)) 0
  pub falls : (i k : ℕ) → i < k → k < length back → get_or place (head_of p.arcs.list (get_or back k 0)) 0 < get_or place (head_of p.arcs.list (get_or back i 0)) 0
  pub arcs : (k : ℕ) → k < length back → get_or back k 0 / 2 < length p.arcs.list
  pub free : (k : ℕ) → k < length back → IsFree p x f (get_or back k 0)
  pub room : (k : ℕ) → k < length back → get_or back k 0 % 2 ≡ 1 → amount ≤ f (get_or back k 0 / 2)

pub no_trail : (p : Problem) (x : Numbers) (f : Flow) (place : List ℕ) (want amount : ℕ) → IsTrail p x f place [] want want amount
no_trail p x f place want amount = record {
  linked = λ k l. absurd (omega arith);
  none = λ e. refl;
  first = λ l. absurd (omega arith);
  last = λ k e. absurd (omega (arith, e));
  above = λ k l. absurd (omega arith);
  falls = λ i k l m. absurd (omega arith);
  arcs = λ k l. absurd (omega arith);
  free = λ k l. absurd (omega arith);
  room = λ k l. absurd (omega arith);
}

pub trail_more : (p : Problem) (x : Numbers) (f : Flow) (place back : List ℕ)
    (want node amount r less : ℕ) → IsTrail p x f place back want node amount
    → IsStep p x f place r node → less ≤ amount → (r % 2 ≡ 1 → less ≤ f (r / 2))
    → IsTrail p x f place (back ++ r ∷ []) want (tail_of p.arcs.list r) less
trail_more p x f place back want node amount r less t s le room =
    let n = length back in
    let new : List ℕ = back ++ r ∷ [] in
    let len : length new ≡ n + 1 = length-append back (r ∷ []) in
    let old : (k : ℕ) → k < n → get_or new k 0 ≡ get_or back k 0 = λ (k : ℕ) (l : k < n). get_or_append_left back (r ∷ []) 0 k l in
    let end : get_or new n 0 ≡ r = (let z : n - n ≡ 0 = omega arith in get_or-append_right back (r ∷ []) n n 0 refl (omega arith) ∙ ap (λ m. get_or (r ∷ []) m 0) z) in
    let at_end : (k : ℕ) → k < length new → n ≤ k → get_or new k 0 ≡ r = λ (k : ℕ) (l : k < length new) (g : n ≤ k). (let q : k ≡ n = omega (arith, len, l, g) in ap (λ m. get_or new m 0) q ∙ end) in
    let here : get_or place (head_of p.arcs.list r) 0 ≡ get_or place node 0 = ap (λ v. get_or place v 0) s.here in
    record {
      linked = λ k l. ⊎_elim
          (λ (q : k + 1 < n). ap (tail_of p.arcs.list) (old k (omega (arith, q))) ∙ t.linked k q ∙ ap (head_of p.arcs.list) (sym (old (k + 1) q)))
          (λ (g : n ≤ k + 1).
          let e : k + 1 ≡ n = omega (arith, len, l, g) in
          ap (tail_of p.arcs.list) (old k (omega (arith, e))) ∙ t.last k e ∙ sym s.here ∙ ap (head_of p.arcs.list) (sym (at_end (k + 1) l g)))
          (cases_lt (k + 1) n);
      none = λ e. absurd (omega (arith, e, len));
      first = λ l. ⊎_elim
          (λ (q : 0 < n). ap (head_of p.arcs.list) (old 0 q) ∙ t.first q)
          (λ (g : n ≤ 0). ap (head_of p.arcs.list) (at_end 0 l g) ∙ s.here ∙ t.none (omega (arith, g)))
          (cases_lt 0 n);
      last = λ k e. ap (tail_of p.arcs.list) (at_end k (omega (arith, e)) (omega (arith, e, len)));
      above = λ k l. ⊎_elim
          (λ (q : k < n). let e : get_or place (head_of p.arcs.list (get_or new k 0)) 0
          ≡ get_or place (head_of p.arcs.list (get_or back k 0)) 0 = ap
          (λ m. get_or place (head_of p.arcs.list m) 0) (old k q) in omega (
            arith,
            e,
            t.above k q,
            s.earlier,
          ))
          (λ (g : n ≤ k). let e : get_or place (head_of p.arcs.list (get_or new k 0)) 0
          ≡ get_or place (head_of p.arcs.list r) 0 = ap
          (λ m. get_or place (head_of p.arcs.list m) 0) (at_end k l g) in omega (
            arith,
            e,
            here,
            s.earlier,
          ))
          (cases_lt k n);
      falls = λ i k l m.
          let io : i < n = omega (arith, l, m, len) in
          let e1 : get_or place (head_of p.arcs.list (get_or new i 0)) 0 ≡ get_or place (head_of p.arcs.list (get_or back i 0)) 0 = ap (λ m. get_or place (head_of p.arcs.list m) 0) (old i io) in
          ⊎_elim
          (λ (q : k < n). let e2 : get_or place (head_of p.arcs.list (get_or new k 0)) 0
          ≡ get_or place (head_of p.arcs.list (get_or back k 0)) 0 = ap
          (λ m. get_or place (head_of p.arcs.list m) 0) (old k q) in omega (
            arith,
            e1,
            e2,
            t.falls i k l q,
          ))
          (λ (g : n ≤ k). let e2 : get_or place (head_of p.arcs.list (get_or new k 0)) 0
          ≡ get_or place (head_of p.arcs.list r) 0 = ap
          (λ m. get_or place (head_of p.arcs.list m) 0) (at_end k m g) in omega (
            arith,
            e1,
            e2,
            here,
            t.above i io,
          ))
          (cases_lt k n);
      arcs = λ k l. ⊎_elim
          (λ (q : k < n). let P : ℕ → Type 0 = λ m. m / 2 < length p.arcs.list in subst P (sym (old k q)) (t.arcs k q))
          (λ (g : n ≤ k). let P : ℕ → Type 0 = λ m. m / 2 < length p.arcs.list in subst P (sym (at_end k l g)) s.arc)
          (cases_lt k n);
      free = λ k l. ⊎_elim
          (λ (q : k < n). subst (IsFree p x f) (sym (old k q)) (t.free k q))
          (λ (g : n ≤ k). subst (IsFree p x f) (sym (at_end k l g)) s.free)
          (cases_lt k n);
      room = λ k l. ⊎_elim
          (λ (q : k < n). let P : ℕ → Type 0 = λ m. m % 2 ≡ 1 → less ≤ f (m / 2) in subst P (sym (old k q)) (λ e. omega (arith, le, t.room k q e)))
          (λ (g : n ≤ k). let P : ℕ → Type 0 = λ m. m % 2 ≡ 1 → less ≤ f (m / 2) in subst P (sym (at_end k l g)) room)
          (cases_lt k n);
    }

module _ (p : Problem) (x : Numbers) (f : Flow) (place back : List ℕ) (want node amount less : ℕ) (t : IsTrail p x f place back want node amount) where
  turn : (k : ℕ) → k < length (reverse back) → get_or (reverse back) k 0 ≡ get_or back (length back - 1 - k) 0
  turn k l = get_or-reverse back k 0 (omega (arith, length-reverse back, l))

  pub way_free : (k : ℕ) → k < length (reverse back) → IsFree p x f (get_or (reverse back) k 0)
  way_free k l = subst (IsFree p x f) (sym (turn k l)) (t.free (length back - 1 - k) (omega (arith, length-reverse back, l)))

  pub way_path : less ≤ amount → 0 < less → pos less ≤ℤ excess p f node → (excess p f want +ℤ pos amount) ≤ℤ pos 0 → IsPath p f (reverse back) less
  way_path le some surplus wants =
      let m = length back in
      let len : length (reverse back) ≡ m = length-reverse back in
      let apart : node ≢ want = λ q. let e : excess p f node ≡ excess p f want = ap (excess p f) q in absurd (omega (arith, ints, e, some, surplus, wants, le)) in
      let long : 0 < m = ⊎_elim (λ (z : m ≡ 0). absurd (apart (t.none z))) (λ (d : m ≢ 0). omega (arith, d)) (cases_eq m 0) in
      let first : first_of p.arcs.list (reverse back) ≡ node = ap (tail_of p.arcs.list) (turn 0 (omega (arith, len, long))) ∙ t.last (m - 1 - 0) (omega (arith, long)) in
      let zero : m - 1 - (length (reverse back) - 1) ≡ 0 = omega (arith, len) in
      let last : last_of p.arcs.list (reverse back) ≡ want = ap (head_of p.arcs.list)
      (turn (length (reverse back) - 1) (omega (
        arith,
        len,
        long,
      ))) ∙ ap (λ k. head_of p.arcs.list (get_or back k 0)) zero ∙ t.first long in
      let es : excess p f (first_of p.arcs.list (reverse back)) ≡ excess p f node = ap (excess p f) first in
      let ew : excess p f (last_of p.arcs.list (reverse back)) ≡ excess p f want = ap (excess p f) last in
      record {
        some = omega (arith, len, long);
        linked = λ k l.
            let i : ℕ = m - 1 - (k + 1) in
            let up : i + 1 ≡ m - 1 - k = omega (arith, len, l) in
            ap (head_of p.arcs.list) (turn k (omega (
              arith,
              l,
            ))) ∙ ap (λ n. head_of p.arcs.list (get_or back n 0)) (sym up) ∙ sym
            (t.linked i (omega (
              arith,
              len,
              l,
            ))) ∙ ap (tail_of p.arcs.list) (sym (turn (k + 1) l));
        distinct = λ i k li lk e.
            let a : ℕ = m - 1 - i in
            let b : ℕ = m - 1 - k in
            let q : get_or back a 0 ≡ get_or back b 0 = sym (turn i li) ∙ e ∙ turn k lk in
            let same : get_or place (head_of p.arcs.list (get_or back a 0)) 0 ≡ get_or place (head_of p.arcs.list (get_or back b 0)) 0 = ap (λ n. get_or place (head_of p.arcs.list n) 0) q in
            ⊎_elim
            (λ (l : a < b). absurd (omega (arith, same, t.falls a b l (omega (arith, len, lk)))))
            (λ (g : b ≤ a). ⊎_elim
            (λ (l : b < a). absurd (omega (arith, same, t.falls b a l (omega (arith, len, li)))))
            (λ (h : a ≤ b). omega (arith, len, li, lk, g, h))
            (cases_lt b a))
            (cases_lt a b);
        room = λ k l.
            let P : ℕ → Type 0 = λ n. (n / 2 < length p.arcs.list) × (n % 2 ≡ 1 → less ≤ f (n / 2)) in
            let i : ℕ = m - 1 - k in
            let li : i < m = omega (arith, len, l) in
            subst P (sym (turn k l)) (t.arcs i li, λ e. omega (arith, le, t.room i li e));
        positive = some;
        surplus = omega (arith, ints, es, surplus);
        want = omega (arith, ints, ew, wants, le);
      }
