-- Sending along one path more, and what balance shows.
use Rattle.std.proofs.Common.{◌≡◌, ◌≢◌, ⊎_elim, ℕ, ◌+◌, ◌*◌, ◌/◌, ◌^◌, ◌<◌, pos, ◌+ℤ◌, ◌-ℤ◌, ◌≤ℤ◌, ◌<ℤ◌, List, length, get_or, sym, ap, ◌∙◌, subst, arith}
use Rattle.std.proofs.lemmas.Int.{ints}
use Rattle.std.proofs.lemmas.Bool.{cases_eq}
use Rattle.cycle_find.specs.Constraints.{Numbers, Solves, start_of, end_of, need_of}
use Rattle.schedule_problem.specs.declared.problem.Problem.{Problem}
use Rattle.schedule_problem.specs.Flow.{Flow, flow_of, excess}
use Rattle.schedule_problem.proofs.Sums.{passed, picked}
use Rattle.schedule_flow.specs.Network.{Network, IsTight, IsPath, IsSent, at_node, weights, first_of, last_of}
use Rattle.schedule_flow.specs.Reach.{IsFree}
use Rattle.schedule_flow.specs.Balance.{IsOnWay}

at_other : (a b n : ℕ) → a ≢ b → at_node a n b ≡ pos 0
at_other a b n d = passed a b (pos n) (pos 0) d

at_same : (a b n : ℕ) → a ≡ b → at_node a n b ≡ pos n
at_same a b n e = picked a b (pos n) (pos 0) e

module _ (p : Problem) (old new : Flow) (path : List ℕ) (a : ℕ) (h : IsPath p old path a) (s : IsSent p old new path a) where
  -- what is sent never turns a node from want to surplus, or back
  record Moved (v : ℕ) : Type 0 where
    pub down : excess p old v ≤ℤ pos 0 → excess p new v ≤ℤ pos 0
    pub want : excess p new v <ℤ pos 0 → excess p old v <ℤ pos 0

  differ : first_of p.arcs.list path ≢ last_of p.arcs.list path
  differ e =
      let q : excess p old (first_of p.arcs.list path) ≡ excess p old (last_of p.arcs.list path) = ap (excess p old) e in
      absurd (omega (arith, ints, q, h.surplus, h.want, h.positive))

  moved : (v : ℕ) → Moved v
  moved v =
      let u = first_of p.arcs.list path in
      let w = last_of p.arcs.list path in
      ⊎_elim
      (λ (q : v ≡ u).
      let e : excess p old v ≡ excess p old u = ap (excess p old) q in
      let x = at_same u v a (sym q) in
      let y = at_other w v a (λ z. differ (sym q ∙ sym z)) in
      record {
        down = λ g. absurd (omega (arith, ints, g, e, h.surplus, h.positive));
        want = λ g. absurd (omega (arith, ints, g, e, x, y, s.excesses v, h.surplus));
      })
      (λ (n : v ≢ u). ⊎_elim
      (λ (q : v ≡ w).
      let e : excess p old v ≡ excess p old w = ap (excess p old) q in
      let x = at_other u v a (λ z. n (sym z)) in
      let y = at_same w v a (sym q) in
      record {
        down = λ g. omega (arith, ints, e, x, y, s.excesses v, h.want);
        want = λ g. omega (arith, ints, e, h.want, h.positive);
      })
      (λ (m : v ≢ w).
      let x = at_other u v a (λ z. n (sym z)) in
      let y = at_other w v a (λ z. m (sym z)) in
      record {
        down = λ g. omega (arith, ints, g, x, y, s.excesses v);
        want = λ g. omega (arith, ints, g, x, y, s.excesses v);
      })
      (cases_eq v w))
      (cases_eq v u)

  pub stays_down : (v : ℕ) → excess p old v ≤ℤ pos 0 → excess p new v ≤ℤ pos 0
  stays_down v = (moved v).down

  pub wanted : (v : ℕ) → excess p new v <ℤ pos 0 → excess p old v <ℤ pos 0
  wanted v = (moved v).want

  -- numbers by which the path is free are tight for the new flow
  pub sent_tight : (x : Numbers) → IsTight p x old → ((k : ℕ) → k < length path → IsFree p x old (get_or path k 0)) → IsTight p x new
  sent_tight x tight free j l carries = ⊎_elim
      (λ (o : 0 < old j). tight j l o)
      (λ (w : (k : ℕ) × (k < length path) × (get_or path k 0 ≡ 2 * j)).
      let half : get_or path w.0 0 / 2 ≡ j = omega (arith, w.2) in
      let P : ℕ → Type 0 = λ i. (x (end_of p.arcs.list i) -ℤ x (start_of p.arcs.list i)) ≡ need_of p.arcs.list i in
      subst P half ((free w.0 w.1).0 (omega (arith, w.2))))
      (s.used j carries)

pub way_on : (p : Problem) (x y : Numbers) (net new : Network) (path : List ℕ) (a : ℕ)
    → IsOnWay p x net → Solves y p.arcs.list → IsTight p y (flow_of net.flow)
    → ((v : ℕ) → pos 0 ≤ℤ y v) → ((v : ℕ) → y v ≤ℤ (x v +ℤ pos (2 ^ 61)))
    → ((v : ℕ) → excess p (flow_of net.flow) v <ℤ pos 0 → y v ≡ x v)
    → IsPath p (flow_of net.flow) path a → ((k : ℕ) → k < length path
    → IsFree p y (flow_of net.flow) (get_or path k 0)) → new.problem ≡ p
    → new.sends ≡ net.sends + 1 → IsSent p (flow_of net.flow) (flow_of new.flow) path a
    → pos new.sends ≤ℤ weights p → IsOnWay p y new
way_on p x y net new path a way legal tight low high wants h free problem sends s counted = record {
  problem = problem;
  legal = legal;
  tight = sent_tight p (flow_of net.flow) (flow_of new.flow) path a h s y tight free;
  low = low;
  high = λ v. omega (arith, ints, high v, way.high v, sends);
  wants = λ v g.
      let w = wanted p (flow_of net.flow) (flow_of new.flow) path a h s v g in
      omega (arith, ints, wants v w, way.wants v w);
  counted = counted;
}
