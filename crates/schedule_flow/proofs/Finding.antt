-- How a search begins, and what it shows where it ends.
use Rattle.std.proofs.Common.{◌≡◌, ◌≢◌, inl, inr, ⊎_elim, ℕ, zero, suc, ◌+◌, ◌-◌, ◌*◌, ◌/◌, ◌^◌}
use Rattle.std.proofs.Common.{◌<◌, ◌≤◌, pos, ◌+ℤ◌, ◌≤ℤ◌, ◌<ℤ◌, List, [], ◌∷◌, length, get_or}
use Rattle.std.proofs.Common.{sum_by, unsigned_abs, refl, sym, ap, ◌∙◌, subst, arith}
use Rattle.std.proofs.lemmas.Int.{ints}
use Rattle.std.proofs.lemmas.Bool.{cases_eq, cases_lt}
use Rattle.std.proofs.lemmas.List.{get_or_past}
use Rattle.std.proofs.lemmas.List.Sums.{sum_by-cons}
use Rattle.cycle_find.specs.declared.arcs.Arc.{Arc}
use Rattle.cycle_find.specs.Constraints.{Numbers, Solves, NeedsWithin, start_of, end_of, need_of}
use Rattle.schedule_problem.specs.declared.problem.Problem.{Problem}
use Rattle.schedule_problem.specs.Flow.{Flow, excess}
use Rattle.schedule_problem.specs.Optimum.{IsProblem}
use Rattle.schedule_flow.specs.Network.{IsTight, tail_of, head_of}
use Rattle.schedule_flow.specs.Queue.{Entry, Waits, IsQueued}
use Rattle.schedule_flow.specs.Reach.{IsStep, IsReached}
use Rattle.schedule_flow.specs.Search.{slack_of, reduced, far, IsParent, IsRelaxed, IsSearch, AllRelaxed, IsFarthest, risen}
use Rattle.schedule_flow.proofs.Sending.{tail_in}
use Rattle.schedule_flow.proofs.Searching.{ahead, back, mul_le}
use Rattle.schedule_flow.proofs.Cuts.{IsClosed, no_surplus}

sum_zero : (xs : List ℕ) → ((v : ℕ) → get_or xs v 0 ≡ 0) → sum_by (λ k. 1 - k) xs ≡ length xs
sum_zero [] h = refl
sum_zero (y ∷ ys) h =
    let e : y ≡ 0 = h zero in
    omega (arith, e, sum_by-cons (λ k. 1 - k) y ys, sum_zero ys (λ v. h (suc v)))

pub begin_search : (p : Problem) (x : Numbers) (f : Flow) (rest : Numbers)
    (place via d : List ℕ) (queue : List Entry) (source : ℕ) → length place ≡ p.arcs.nodes
    → length via ≡ p.arcs.nodes → length d ≡ p.arcs.nodes → ((v : ℕ) → get_or place v 0 ≡ 0)
    → get_or d source 0 ≡ 0 → ((v : ℕ) → v < p.arcs.nodes → v ≢ source → get_or d v 0 ≡ far)
    → ((v : ℕ) → get_or d v 0 ≤ far) → IsQueued [] queue 0 source → source < p.arcs.nodes
    → pos 0 <ℤ rest source → ((v : ℕ) → pos 0 ≤ℤ x v) → IsSearch p x f rest place via d queue 0
begin_search p x f rest place via d queue source places vias distances none at others within queued in_range surplus low =
    let only : (v : ℕ) → v < p.arcs.nodes → get_or d v 0 < far → v ≡ source = λ (v : ℕ) (l : v < p.arcs.nodes) (m : get_or d v 0 < far). ⊎_elim
    (λ (q : v ≡ source). q)
    (λ (n : v ≢ source). absurd (omega (arith, m, others v l n)))
    (cases_eq v source) in
    record {
      places = places;
      vias = vias;
      distances = distances;
      room = omega (arith, sum_zero place none, places);
      most = λ v. omega (arith, none v);
      within = within;
      reached = λ v l m. inl (let e : rest v ≡ rest source = ap rest (only v l m) in omega (arith, ints, e, surplus));
      settled = λ v up. absurd (omega (arith, up, none v));
      nearer = λ v up c w k. absurd (omega (arith, up, none v));
      waiting = λ v l z m.
          let q = only v l m in
          let P : ℕ → Type 0 = λ u. Waits queue (get_or d u 0) u in
          let Q : ℕ → Type 0 = λ c. Waits queue c source in
          subst P (sym q) (subst Q (sym at) queued.here);
      entries = λ c v w. ⊎_elim
          (λ (k : Waits [] c v). absurd (omega (arith, k.1.1)))
          (λ (q : (c ≡ 0) × (v ≡ source)). let e : get_or d v 0 ≡ get_or d source 0 = ap (λ u. get_or d u 0) q.1 in (omega (arith, q.1, in_range), omega (arith, e, at), omega (arith, q.0)))
          (queued.only c v w);
      high = λ size h v l m. let e : get_or d v 0 ≡ get_or d source 0 = ap (λ u. get_or d u 0) (only v l m) in omega (arith, ints, e, at, low v);
      higher = λ size h v up. absurd (omega (arith, up, none v));
    }

-- a size that no need is above, of which there is one for each node within the bound
need_below : (arcs : List Arc) (nodes most k : ℕ) → ((j : ℕ) → j < length arcs
    → nodes * unsigned_abs (need_of arcs j) ≤ most) → k ≤ length arcs → (size : ℕ)
    × ((j : ℕ) → j < k → unsigned_abs (need_of arcs j) ≤ size) × (nodes * size ≤ most)
need_below arcs nodes most zero h l = (0, λ j m. absurd (omega (arith, m)), omega arith)
need_below arcs nodes most (suc k) h l =
    let before = need_below arcs nodes most k h (omega (arith, l)) in
    ⊎_elim
    (λ (q : before.0 < unsigned_abs (need_of arcs k)). (
      unsigned_abs (need_of arcs k),
      λ j m. ⊎_elim
          (λ (e : j ≡ k). let g : unsigned_abs (need_of arcs j) ≡ unsigned_abs (need_of arcs k) = ap (λ i. unsigned_abs (need_of arcs i)) e in omega (arith, g))
          (λ (n : j ≢ k). omega (arith, q, before.1 j (omega (arith, m, n))))
          (cases_eq j k),
      h k (omega (arith, l)),
    ))
    (λ (q : unsigned_abs (need_of arcs k) ≤ before.0). (
      before.0,
      λ j m. ⊎_elim
          (λ (e : j ≡ k). let g : unsigned_abs (need_of arcs j) ≡ unsigned_abs (need_of arcs k) = ap (λ i. unsigned_abs (need_of arcs i)) e in omega (arith, g, q))
          (λ (n : j ≢ k). before.1 j (omega (arith, m, n)))
          (cases_eq j k),
      before.2,
    ))
    (cases_lt before.0 (unsigned_abs (need_of arcs k)))

pub greatest_need : (arcs : List Arc) (nodes most : ℕ) → ((j : ℕ) → j < length arcs → nodes * unsigned_abs (need_of arcs j) ≤ most) → (size : ℕ) × NeedsWithin size arcs × (nodes * size ≤ most)
greatest_need arcs nodes most h = let all = need_below arcs nodes most (length arcs) h (omega arith) in (all.0, all.1, all.2)

mul_flip : (a b : ℕ) → a * b ≡ b * a
mul_flip a b = omega arith

module _ (p : Problem) (x : Numbers) (f : Flow) (rest : Numbers) (place via d : List ℕ) (queue : List Entry) (count : ℕ) (s : IsSearch p x f rest place via d queue count) (problem : IsProblem p) where
  pub placed : (v : ℕ) → 0 < get_or place v 0 → v < p.arcs.nodes
  placed v up = ⊎_elim
      (λ (l : v < length place). omega (arith, l, s.places))
      (λ (g : length place ≤ v). absurd (omega (arith, up, get_or_past place v 0 g)))
      (cases_lt v (length place))

  -- how far reached nodes stand at most
  pub near_enough : (v : ℕ) → v < p.arcs.nodes → get_or d v 0 < far → pos (get_or d v 0) ≤ℤ (x v +ℤ pos (2 ^ 60))
  near_enough v l m =
      let size = greatest_need p.arcs.list p.arcs.nodes (2 ^ 60) problem.arcs.needs in
      omega (arith, ints, s.high size.0 size.1 v l m, mul_le size.0 count p.arcs.nodes (omega (arith, s.room)), mul_flip size.0 p.arcs.nodes, size.2)

  small_need : (j : ℕ) → j < length p.arcs.list → 0 < p.arcs.nodes → unsigned_abs (need_of p.arcs.list j) ≤ 2 ^ 60
  small_need j l some =
      let h = problem.arcs.needs j l in
      omega (arith, h, mul_le (unsigned_abs (need_of p.arcs.list j)) 1 p.arcs.nodes (omega (arith, some)), mul_flip (unsigned_abs (need_of p.arcs.list j)) p.arcs.nodes)

  module _ (legal : Solves x p.arcs.list) (high : (v : ℕ) → unsigned_abs (x v) ≤ 2 ^ 116) (relaxed : AllRelaxed p x f place d) (none : (c v : ℕ) → get_or place v 0 ≡ 0 → Waits queue c v → ⊥) where
    all_settled : (v : ℕ) → v < p.arcs.nodes → get_or d v 0 < far → 0 < get_or place v 0
    all_settled v l m = ⊎_elim
        (λ (z : get_or place v 0 ≡ 0). absurd (none (get_or d v 0) v z (s.waiting v l z m)))
        (λ (n : get_or place v 0 ≢ 0). omega (arith, n))
        (cases_eq (get_or place v 0) 0)

    closed : IsClosed p f place
    closed = record {
      forwards = λ j l up.
          let r : ℕ = 2 * j in
          let half : r / 2 ≡ j = omega arith in
          let a = ahead p x r (omega arith) in
          let t : tail_of p.arcs.list r ≡ start_of p.arcs.list j = a.tail ∙ ap (start_of p.arcs.list) half in
          let h : head_of p.arcs.list r ≡ end_of p.arcs.list j = a.head ∙ ap (end_of p.arcs.list) half in
          let c : reduced p x r ≡ slack_of p x j = a.cost ∙ ap (slack_of p x) half in
          let dt : get_or d (tail_of p.arcs.list r) 0 ≡ get_or d (start_of p.arcs.list j) 0 = ap (λ v. get_or d v 0) t in
          let dh : get_or d (head_of p.arcs.list r) 0 ≡ get_or d (end_of p.arcs.list j) 0 = ap (λ v. get_or d v 0) h in
          let pt : get_or place (tail_of p.arcs.list r) 0 ≡ get_or place (start_of p.arcs.list j) 0 = ap (λ v. get_or place v 0) t in
          let e = problem.arcs.ends j l in
          let g = relaxed r (omega (arith, half, l)) (omega (arith, pt, up)) (λ odd. absurd (omega (arith, odd))) in
          let n = near_enough (start_of p.arcs.list j) e.0 (s.settled (start_of p.arcs.list j) up) in
          let m : get_or d (end_of p.arcs.list j) 0 < far = omega (arith, ints, g, c, dt, dh, n, high (start_of p.arcs.list j), high (end_of p.arcs.list j), small_need j l (omega (arith, e.0))) in
          all_settled (end_of p.arcs.list j) e.1 m;
      backwards = λ j l carries up.
          let r : ℕ = 2 * j + 1 in
          let half : r / 2 ≡ j = omega arith in
          let a = back p x r (λ z. absurd (omega (arith, z))) in
          let t : tail_of p.arcs.list r ≡ end_of p.arcs.list j = a.tail ∙ ap (end_of p.arcs.list) half in
          let h : head_of p.arcs.list r ≡ start_of p.arcs.list j = a.head ∙ ap (start_of p.arcs.list) half in
          let dt : get_or d (tail_of p.arcs.list r) 0 ≡ get_or d (end_of p.arcs.list j) 0 = ap (λ v. get_or d v 0) t in
          let dh : get_or d (head_of p.arcs.list r) 0 ≡ get_or d (start_of p.arcs.list j) 0 = ap (λ v. get_or d v 0) h in
          let pt : get_or place (tail_of p.arcs.list r) 0 ≡ get_or place (end_of p.arcs.list j) 0 = ap (λ v. get_or place v 0) t in
          let fc : f (r / 2) ≡ f j = ap f half in
          let e = problem.arcs.ends j l in
          let g = relaxed r (omega (arith, half, l)) (omega (arith, pt, up)) (λ odd. omega (arith, fc, carries)) in
          let m : get_or d (start_of p.arcs.list j) 0 < far = omega (arith, ints, g, a.cost, dt, dh, s.settled (end_of p.arcs.list j) up) in
          all_settled (start_of p.arcs.list j) e.0 m;
    }

    -- a search cannot end without a node in want
    pub never_ends : (source : ℕ) → source < p.arcs.nodes → get_or d source 0 < far → pos 0 <ℤ rest source → ((v : ℕ) → rest v ≡ excess p f v) → ((v : ℕ) → 0 < get_or place v 0 → pos 0 ≤ℤ rest v) → ⊥
    never_ends source l begun surplus is calm =
        no_surplus p f place problem.arcs.ends problem.ends problem.routes closed
        (λ v m up. let h = calm v up in omega (arith, ints, is v, h))
        source l (all_settled source l begun) (omega (arith, ints, is source, surplus))

  module _ (t : ℕ) (y : Numbers) (legal : Solves x p.arcs.list) (tight : IsTight p x f)
      (relaxed : (r : ℕ) → r / 2 < length p.arcs.list
      → 0 < get_or place (tail_of p.arcs.list r) 0 → tail_of p.arcs.list r ≢ t
      → IsRelaxed p x f d r) (farthest : IsFarthest place d t) (last : (c u : ℕ)
      → Waits queue c u → get_or d t 0 ≤ c) (same : (v : ℕ) → v < p.arcs.nodes
      → y v ≡ risen d (get_or d t 0) x v) where
    -- nodes that stand nearer are settled
    near_settled : (v : ℕ) → v < p.arcs.nodes → get_or d v 0 < get_or d t 0 → 0 < get_or place v 0
    near_settled v l m = ⊎_elim
        (λ (z : get_or place v 0 ≡ 0). absurd (omega (arith, m, last (get_or d v 0) v (s.waiting v l z (omega (arith, m, s.settled t farthest.here))))))
        (λ (n : get_or place v 0 ≢ 0). omega (arith, n))
        (cases_eq (get_or place v 0) 0)

    near_relaxed : (r : ℕ) → r / 2 < length p.arcs.list → get_or d (tail_of p.arcs.list r) 0 < get_or d t 0 → IsRelaxed p x f d r
    near_relaxed r l m = relaxed r l (near_settled (tail_of p.arcs.list r)
        (tail_in p.arcs.nodes p.arcs.list problem.arcs.ends r l) m)
        (λ q. let e : get_or d (tail_of p.arcs.list r) 0 ≡ get_or d t 0 = ap
        (λ v. get_or d v 0) q in absurd (omega (arith, e, m)))

    near_ahead : (j : ℕ) → j < length p.arcs.list
        → get_or d (start_of p.arcs.list j) 0 < get_or d t 0
        → pos (get_or d (end_of p.arcs.list j) 0) ≤ℤ (pos
        (get_or d (start_of p.arcs.list j) 0) +ℤ slack_of p x j)
    near_ahead j l m =
        let r : ℕ = 2 * j in
        let half : r / 2 ≡ j = omega arith in
        let a = ahead p x r (omega arith) in
        let dt : get_or d (tail_of p.arcs.list r) 0 ≡ get_or d (start_of p.arcs.list j) 0 = ap (λ v. get_or d v 0) (a.tail ∙ ap (start_of p.arcs.list) half) in
        let dh : get_or d (head_of p.arcs.list r) 0 ≡ get_or d (end_of p.arcs.list j) 0 = ap (λ v. get_or d v 0) (a.head ∙ ap (end_of p.arcs.list) half) in
        let c : reduced p x r ≡ slack_of p x j = a.cost ∙ ap (slack_of p x) half in
        let g = near_relaxed r (omega (arith, half, l)) (omega (arith, dt, m)) (λ odd. absurd (omega (arith, odd))) in
        omega (arith, ints, g, dt, dh, c)

    near_back : (j : ℕ) → j < length p.arcs.list → 0 < f j → get_or d (end_of p.arcs.list j) 0 < get_or d t 0 → get_or d (start_of p.arcs.list j) 0 ≤ get_or d (end_of p.arcs.list j) 0
    near_back j l carries m =
        let r : ℕ = 2 * j + 1 in
        let half : r / 2 ≡ j = omega arith in
        let a = back p x r (λ z. absurd (omega (arith, z))) in
        let dt : get_or d (tail_of p.arcs.list r) 0 ≡ get_or d (end_of p.arcs.list j) 0 = ap (λ v. get_or d v 0) (a.tail ∙ ap (end_of p.arcs.list) half) in
        let dh : get_or d (head_of p.arcs.list r) 0 ≡ get_or d (start_of p.arcs.list j) 0 = ap (λ v. get_or d v 0) (a.head ∙ ap (start_of p.arcs.list) half) in
        let fc : f (r / 2) ≡ f j = ap f half in
        let g = near_relaxed r (omega (arith, half, l)) (omega (arith, dt, m)) (λ odd. omega (arith, fc, carries)) in
        omega (arith, ints, g, dt, dh, a.cost)

    pub found_legal : Solves y p.arcs.list
    found_legal j l =
        let e = problem.arcs.ends j l in
        let s1 = same (start_of p.arcs.list j) e.0 in
        let s2 = same (end_of p.arcs.list j) e.1 in
        ⊎_elim
        (λ (m : get_or d (start_of p.arcs.list j) 0 < get_or d t 0). omega (arith, ints, s1, s2, legal j l, near_ahead j l m))
        (λ (g : get_or d t 0 ≤ get_or d (start_of p.arcs.list j) 0). omega (arith, ints, s1, s2, legal j l, g))
        (cases_lt (get_or d (start_of p.arcs.list j) 0) (get_or d t 0))

    pub found_tight : IsTight p y f
    found_tight j l carries =
        let e = problem.arcs.ends j l in
        let s1 = same (start_of p.arcs.list j) e.0 in
        let s2 = same (end_of p.arcs.list j) e.1 in
        let h = tight j l carries in
        ⊎_elim
        (λ (m : get_or d (start_of p.arcs.list j) 0 < get_or d t 0).
        let a = near_ahead j l m in
        let k : get_or d (end_of p.arcs.list j) 0 ≤ get_or d (start_of p.arcs.list j) 0 = omega (arith, ints, a, h) in
        let b = near_back j l carries (omega (arith, k, m)) in
        omega (arith, ints, s1, s2, h, k, b))
        (λ (g : get_or d t 0 ≤ get_or d (start_of p.arcs.list j) 0).
        let k : get_or d t 0 ≤ get_or d (end_of p.arcs.list j) 0 = ⊎_elim
        (λ (m : get_or d (end_of p.arcs.list j) 0 < get_or d t 0). absurd (omega (arith, g, m, near_back j l carries m)))
        (λ (i : get_or d t 0 ≤ get_or d (end_of p.arcs.list j) 0). i)
        (cases_lt (get_or d (end_of p.arcs.list j) 0) (get_or d t 0)) in
        omega (arith, ints, s1, s2, h, g, k))
        (cases_lt (get_or d (start_of p.arcs.list j) 0) (get_or d t 0))

    found_step : (v : ℕ) → 0 < get_or place v 0 → IsParent p x f place d (get_or via v 0) v → IsStep p y f place (get_or via v 0) v
    found_step v up q =
        let r = get_or via v 0 in
        record {
          arc = q.arc;
          here = q.here;
          from = q.from;
          earlier = ⊎_elim
              (λ (z : get_or place v 0 ≡ 0). absurd (omega (arith, z, up)))
              (λ (z : get_or place (tail_of p.arcs.list r) 0 < get_or place v 0). z)
              q.later;
          free = (
            λ even.
                let a = ahead p x r even in
                let e = problem.arcs.ends (r / 2) q.arc in
                let s1 = same (start_of p.arcs.list (r / 2)) e.0 in
                let s2 = same (end_of p.arcs.list (r / 2)) e.1 in
                let dt : get_or d (tail_of p.arcs.list r) 0 ≡ get_or d (start_of p.arcs.list (r / 2)) 0 = ap (λ u. get_or d u 0) a.tail in
                let dh : get_or d v 0 ≡ get_or d (end_of p.arcs.list (r / 2)) 0 = ap (λ u. get_or d u 0) (sym q.here ∙ a.head) in
                omega (arith, ints, s1, s2, dt, dh, q.sum, a.cost, legal (r / 2) q.arc, farthest.most v up),
            λ odd. q.open_arc odd,
          );
        }

    pub found_reached : IsReached p y f rest place via
    found_reached = record {
      places = s.places;
      vias = s.vias;
      steps = λ v up. ⊎_elim
          (λ (q : pos 0 <ℤ rest v). inl q)
          (λ (q : IsParent p x f place d (get_or via v 0) v). inr (found_step v up q))
          (s.reached v (placed v up) (s.settled v up));
    }

    module _ (past : (v : ℕ) → p.arcs.nodes ≤ v → y v ≡ x v) where
      pub found_low : ((v : ℕ) → pos 0 ≤ℤ x v) → (v : ℕ) → pos 0 ≤ℤ y v
      found_low low v = ⊎_elim
          (λ (l : v < p.arcs.nodes). omega (arith, ints, same v l, low v))
          (λ (g : p.arcs.nodes ≤ v). omega (arith, ints, past v g, low v))
          (cases_lt v p.arcs.nodes)

      pub found_high : x t ≤ℤ pos (2 ^ 60) → (v : ℕ) → y v ≤ℤ (x v +ℤ pos (2 ^ 61))
      found_high top v = ⊎_elim
          (λ (l : v < p.arcs.nodes). omega (arith, ints, same v l, near_enough t (placed t farthest.here) (s.settled t farthest.here), top))
          (λ (g : p.arcs.nodes ≤ v). omega (arith, ints, past v g))
          (cases_lt v p.arcs.nodes)

      pub found_wants : ((u : ℕ) → 0 < get_or place u 0 → u ≢ t → pos 0 ≤ℤ rest u) → (v : ℕ) → rest v <ℤ pos 0 → y v ≡ x v
      found_wants calm v want = ⊎_elim
          (λ (l : v < p.arcs.nodes). ⊎_elim
          (λ (q : v ≡ t). let e : get_or d v 0 ≡ get_or d t 0 = ap (λ u. get_or d u 0) q in omega (arith, ints, same v l, e))
          (λ (n : v ≢ t). ⊎_elim
          (λ (m : get_or d v 0 < get_or d t 0). absurd (omega (arith, ints, want, calm v (near_settled v l m) n)))
          (λ (g : get_or d t 0 ≤ get_or d v 0). omega (arith, ints, same v l, g))
          (cases_lt (get_or d v 0) (get_or d t 0)))
          (cases_eq v t))
          (λ (g : p.arcs.nodes ≤ v). past v g)
          (cases_lt v p.arcs.nodes)
