-- What a search keeps: settling a node, and going over a residual arc.
use Rattle.std.proofs.Common.{◌≡◌, ◌≢◌, ◌⊎◌, inl, inr, ⊎_elim, ℕ, zero, suc, ◌+◌, ◌-◌, ◌*◌, ◌/◌}
use Rattle.std.proofs.Common.{◌%◌, ◌<◌, ◌≤◌, eqb, cond, pos, ◌+ℤ◌, ◌≤ℤ◌, ◌<ℤ◌, List, length, get_or}
use Rattle.std.proofs.Common.{set, refl, sym, ap, ◌∙◌, subst, arith}
use Rattle.std.proofs.lemmas.Int.{ints}
use Rattle.std.proofs.lemmas.Bool.{cases_eq, eq-eqb}
use Rattle.std.proofs.lemmas.List.{get_or-set_same, get_or-set_other, length-set}
use Rattle.std.proofs.lemmas.List.Sums.{sum_by-set}
use Rattle.cycle_find.specs.Constraints.{Numbers, Solves, EndsInRange, NeedsWithin, start_of, end_of}
use Rattle.schedule_problem.specs.declared.problem.Problem.{Problem}
use Rattle.schedule_problem.specs.Flow.{Flow}
use Rattle.schedule_problem.proofs.Sums.{passed, picked}
use Rattle.schedule_flow.specs.Network.{IsTight, tail_of, head_of}
use Rattle.schedule_flow.specs.Queue.{Entry, Waits, IsQueued}
use Rattle.schedule_flow.specs.Search.{slack_of, reduced, IsOpen, far, IsParent, IsRelaxed, IsSearch, IsFarthest, IsTaken}
use Rattle.schedule_flow.proofs.Sending.{head_in}

-- a residual arc is an arc forwards or backwards
pub record IsAhead (p : Problem) (x : Numbers) (r : ℕ) : Type 0 where
  pub even : r % 2 ≡ 0
  pub tail : tail_of p.arcs.list r ≡ start_of p.arcs.list (r / 2)
  pub head : head_of p.arcs.list r ≡ end_of p.arcs.list (r / 2)
  pub cost : reduced p x r ≡ slack_of p x (r / 2)

pub record IsBack (p : Problem) (x : Numbers) (r : ℕ) : Type 0 where
  pub odd : r % 2 ≡ 1
  pub tail : tail_of p.arcs.list r ≡ end_of p.arcs.list (r / 2)
  pub head : head_of p.arcs.list r ≡ start_of p.arcs.list (r / 2)
  pub cost : reduced p x r ≡ pos 0

pub ahead : (p : Problem) (x : Numbers) (r : ℕ) → r % 2 ≡ 0 → IsAhead p x r
ahead p x r e = record {
  even = e;
  tail = picked' (start_of p.arcs.list (r / 2)) (end_of p.arcs.list (r / 2));
  head = picked' (end_of p.arcs.list (r / 2)) (start_of p.arcs.list (r / 2));
  cost = picked (r % 2) 0 (slack_of p x (r / 2)) (pos 0) e;
} where
  picked' : (a b : ℕ) → cond (eqb (r % 2) 0) a b ≡ a
  picked' a b = ap (λ t. cond t a b) (eq-eqb (r % 2) 0 e)

pub back : (p : Problem) (x : Numbers) (r : ℕ) → r % 2 ≢ 0 → IsBack p x r
back p x r d = record {
  odd = omega (arith, d);
  tail = passed (r % 2) 0 (start_of p.arcs.list (r / 2)) (end_of p.arcs.list (r / 2)) d;
  head = passed (r % 2) 0 (end_of p.arcs.list (r / 2)) (start_of p.arcs.list (r / 2)) d;
  cost = passed (r % 2) 0 (slack_of p x (r / 2)) (pos 0) d;
}

pub either_way : (p : Problem) (x : Numbers) (r : ℕ) → IsAhead p x r ⊎ IsBack p x r
either_way p x r = ⊎_elim
    (λ (e : r % 2 ≡ 0). inl (ahead p x r e))
    (λ (d : r % 2 ≢ 0). inr (back p x r d))
    (cases_eq (r % 2) 0)

pub reduced_up : (p : Problem) (x : Numbers) (r : ℕ) → Solves x p.arcs.list → r / 2 < length p.arcs.list → pos 0 ≤ℤ reduced p x r
reduced_up p x r legal l = ⊎_elim
    (λ (a : IsAhead p x r). omega (arith, ints, a.cost, legal (r / 2) l))
    (λ (b : IsBack p x r). omega (arith, ints, b.cost))
    (either_way p x r)

-- the number at the end is at most a need's size below what the arc reaches
step_size : (p : Problem) (x : Numbers) (f : Flow) (r size : ℕ) → NeedsWithin size p.arcs.list
    → IsTight p x f → r / 2 < length p.arcs.list → IsOpen f r
    → (x (tail_of p.arcs.list r) +ℤ reduced p x r) ≤ℤ (x (head_of p.arcs.list r) +ℤ pos size)
step_size p x f r size within tight l open_arc =
    let small = within (r / 2) l in
    ⊎_elim
    (λ (a : IsAhead p x r).
    let t : x (tail_of p.arcs.list r) ≡ x (start_of p.arcs.list (r / 2)) = ap x a.tail in
    let h : x (head_of p.arcs.list r) ≡ x (end_of p.arcs.list (r / 2)) = ap x a.head in
    omega (arith, ints, a.cost, t, h, small))
    (λ (b : IsBack p x r).
    let t : x (tail_of p.arcs.list r) ≡ x (end_of p.arcs.list (r / 2)) = ap x b.tail in
    let h : x (head_of p.arcs.list r) ≡ x (start_of p.arcs.list (r / 2)) = ap x b.head in
    let e = tight (r / 2) l (open_arc b.odd) in
    omega (arith, ints, b.cost, t, h, e, small))
    (either_way p x r)

pub mul_more : (s n : ℕ) → s * (n + 1) ≡ s * n + s
mul_more s n = omega arith

pub mul_le : (s n m : ℕ) → n ≤ m → s * n ≤ s * m
mul_le zero n m h = omega arith
mul_le (suc s) n m h = omega (arith, h, mul_le s n m h)

-- a node is settled
pub settle : (p : Problem) (x : Numbers) (f : Flow) (rest : Numbers) (place via d : List ℕ)
    (queue new : List Entry) (count dist v : ℕ) → IsSearch p x f rest place via d queue count
    → IsTaken place queue new dist v
    → IsSearch p x f rest (set place v (count + 1)) via d new (count + 1)
settle p x f rest place via d queue new count dist v s t =
    let place' = set place v (count + 1) in
    let en = s.entries dist v t.here in
    let lv : v < length place = omega (arith, en.0, s.places) in
    let near : get_or d v 0 < far = omega (arith, en.1, en.2) in
    let at : get_or place' v 0 ≡ count + 1 = get_or-set_same place v (count + 1) 0 lv in
    let off : (u : ℕ) → u ≢ v → get_or place' u 0 ≡ get_or place u 0 = λ (u : ℕ) (n : u ≢ v). get_or-set_other place v u (count + 1) 0 n in
    let grows : (u : ℕ) → 0 < get_or place u 0
    → get_or place' u 0 ≡ get_or place u 0 = λ (u : ℕ) (up : 0 < get_or place u 0). off u
    (λ q. let e : get_or place u 0 ≡ get_or place v 0 = ap
    (λ k. get_or place k 0) q in absurd (omega (arith, e, t.fresh, up))) in
    let was : (u : ℕ) → u ≢ v → 0 < get_or place' u 0 → 0 < get_or place u 0 = λ (u : ℕ) (n : u ≢ v) (up : 0 < get_or place' u 0). omega (arith, off u n, up) in
    record {
      places = length-set place v (count + 1) ∙ s.places;
      vias = s.vias;
      distances = s.distances;
      room = omega (arith, s.room, t.fresh, sum_by-set (λ k. 1 - k) place v (count + 1) 0 lv);
      most = λ u. ⊎_elim
          (λ (q : u ≡ v). let e : get_or place' u 0 ≡ get_or place' v 0 = ap (λ k. get_or place' k 0) q in omega (arith, e, at))
          (λ (n : u ≢ v). omega (arith, off u n, s.most u))
          (cases_eq u v);
      within = s.within;
      reached = λ u l m. ⊎_elim
          (λ (q : pos 0 <ℤ rest u). inl q)
          (λ (q : IsParent p x f place d (get_or via u 0) u).
          let tl = tail_of p.arcs.list (get_or via u 0) in
          let same = grows tl q.from in
          inr (record {
            arc = q.arc;
            here = q.here;
            from = omega (arith, same, q.from);
            later = ⊎_elim
                (λ (e : u ≡ v). let g : get_or place' u 0 ≡ get_or place' v 0 = ap (λ k. get_or place' k 0) e in inr (omega (arith, g, at, same, s.most tl)))
                (λ (n : u ≢ v). ⊎_elim
                (λ (z : get_or place u 0 ≡ 0). inl (off u n ∙ z))
                (λ (z : get_or place tl 0 < get_or place u 0). inr (omega (arith, off u n, same, z)))
                q.later)
                (cases_eq u v);
            open_arc = q.open_arc;
            sum = q.sum;
          }))
          (s.reached u l m);
      settled = λ u up. ⊎_elim
          (λ (q : u ≡ v). let e : get_or d u 0 ≡ get_or d v 0 = ap (λ k. get_or d k 0) q in omega (arith, e, near))
          (λ (n : u ≢ v). s.settled u (was u n up))
          (cases_eq u v);
      nearer = λ u up c w k. ⊎_elim
          (λ (q : u ≡ v). let e : get_or d u 0 ≡ get_or d v 0 = ap (λ k. get_or d k 0) q in omega (arith, e, en.1, t.least c w k))
          (λ (n : u ≢ v). s.nearer u (was u n up) c w (t.only c w k))
          (cases_eq u v);
      waiting = λ u l z m.
          let n : u ≢ v = λ q. let e : get_or place' u 0 ≡ get_or place' v 0 = ap (λ k. get_or place' k 0) q in absurd (omega (arith, e, at, z)) in
          let open_place : get_or place u 0 ≡ 0 = sym (off u n) ∙ z in
          ⊎_elim
          (λ (k : Waits new (get_or d u 0) u). k)
          (λ (q : (get_or d u 0 ≡ dist) × (u ≡ v)). absurd (n q.1))
          (t.kept (get_or d u 0) u open_place (s.waiting u l open_place m));
      entries = λ c u k. s.entries c u (t.only c u k);
      high = λ size h u l m. omega (arith, ints, s.high size h u l m, mul_more size count);
      higher = λ size h u up. ⊎_elim
          (λ (q : u ≡ v).
          let e1 : get_or d u 0 ≡ get_or d v 0 = ap (λ k. get_or d k 0) q in
          let e2 : size * get_or place' u 0 ≡ size * (count + 1) = ap (λ k. size * k) (ap (λ k. get_or place' k 0) q ∙ at) in
          let e3 : x u ≡ x v = ap x q in
          omega (arith, ints, e1, e2, e3, s.high size h v en.0 near, mul_more size count))
          (λ (n : u ≢ v). let e : size * get_or place' u 0 ≡ size * get_or place u 0 = ap (λ k. size * k) (off u n) in omega (arith, ints, e, s.higher size h u (was u n up)))
          (cases_eq u v);
    }

pub settled_farthest : (p : Problem) (x : Numbers) (f : Flow) (rest : Numbers)
    (place via d : List ℕ) (queue new : List Entry) (count dist v : ℕ)
    → IsSearch p x f rest place via d queue count → IsTaken place queue new dist v
    → (get_or d v 0 ≡ dist) × IsFarthest (set place v (count + 1)) d v
settled_farthest p x f rest place via d queue new count dist v s t =
    let place' = set place v (count + 1) in
    let en = s.entries dist v t.here in
    let lv : v < length place = omega (arith, en.0, s.places) in
    let near : get_or d v 0 < far = omega (arith, en.1, en.2) in
    let at : get_or place' v 0 ≡ count + 1 = get_or-set_same place v (count + 1) 0 lv in
    let w = s.waiting v en.0 t.fresh near in
    let e : dist ≤ get_or d v 0 = ⊎_elim
    (λ (k : Waits new (get_or d v 0) v). t.least (get_or d v 0) v k)
    (λ (q : (get_or d v 0 ≡ dist) × (v ≡ v)). omega (arith, q.0))
    (t.kept (get_or d v 0) v t.fresh w) in (
      omega (arith, e, en.1),
      record {
        here = omega (arith, at);
        most = λ u up. ⊎_elim
            (λ (q : u ≡ v). let g : get_or d u 0 ≡ get_or d v 0 = ap (λ k. get_or d k 0) q in omega (arith, g))
            (λ (n : u ≢ v). let o : get_or place' u 0 ≡ get_or place u 0 = get_or-set_other place v u (count + 1) 0 n in s.nearer u (omega (arith, o, up)) (get_or d v 0) v w)
            (cases_eq u v);
      },
    )

module _ (p : Problem) (x : Numbers) (f : Flow) (place d : List ℕ) (r : ℕ)
    (arc : r / 2 < length p.arcs.list) (legal : Solves x p.arcs.list)
    (farthest : IsFarthest place d (tail_of p.arcs.list r)) where
  -- residual arc r led nowhere nearer
  pub stays_relaxed : (get_or place (head_of p.arcs.list r) 0 ≡ 0 → IsRelaxed p x f d r) → IsRelaxed p x f d r
  stays_relaxed fresh open_arc = ⊎_elim
      (λ (z : get_or place (head_of p.arcs.list r) 0 ≡ 0). fresh z open_arc)
      (λ (n : get_or place (head_of p.arcs.list r) 0 ≢ 0). omega (arith, ints, farthest.most (head_of p.arcs.list r) (omega (arith, n)), reduced_up p x r legal arc))
      (cases_eq (get_or place (head_of p.arcs.list r) 0) 0)

  module _ (k : ℕ) (fresh : get_or place (head_of p.arcs.list r) 0 ≡ 0)
      (sum : pos k ≡ (pos (get_or d (tail_of p.arcs.list r) 0) +ℤ reduced p x r))
      (less : k < get_or d (head_of p.arcs.list r) 0) (in_d : head_of p.arcs.list r
      < length d) where
    d' : List ℕ
    d' = set d (head_of p.arcs.list r) k

    at : get_or (set d (head_of p.arcs.list r) k) (head_of p.arcs.list r) 0 ≡ k
    at = get_or-set_same d (head_of p.arcs.list r) k 0 in_d

    off : (u : ℕ) → u ≢ head_of p.arcs.list r → get_or (set d (head_of p.arcs.list r) k) u 0 ≡ get_or d u 0
    off u n = get_or-set_other d (head_of p.arcs.list r) u k 0 n

    pub still : (u : ℕ) → 0 < get_or place u 0 → get_or (set d (head_of p.arcs.list r) k) u 0 ≡ get_or d u 0
    still u up = off u (λ q. let e : get_or place u 0 ≡ get_or place (head_of p.arcs.list r) 0 = ap (λ v. get_or place v 0) q in absurd (omega (arith, e, fresh, up)))

    pub falls : (u : ℕ) → get_or (set d (head_of p.arcs.list r) k) u 0 ≤ get_or d u 0
    falls u = ⊎_elim
        (λ (q : u ≡ head_of p.arcs.list r).
        let e : get_or (set d (head_of p.arcs.list r) k) u 0 ≡ get_or (set d (head_of p.arcs.list r) k) (head_of p.arcs.list r) 0 = ap (λ v. get_or (set d (head_of p.arcs.list r) k) v 0) q in
        let g : get_or d u 0 ≡ get_or d (head_of p.arcs.list r) 0 = ap (λ v. get_or d v 0) q in
        omega (arith, e, g, at, less))
        (λ (n : u ≢ head_of p.arcs.list r). omega (arith, off u n))
        (cases_eq u (head_of p.arcs.list r))

    pub nears_relaxed : IsRelaxed p x f (set d (head_of p.arcs.list r) k) r
    nears_relaxed open_arc = omega (arith, ints, at, sum, still (tail_of p.arcs.list r) farthest.here)

    pub nears_others : (i : ℕ) → 0 < get_or place (tail_of p.arcs.list i) 0 → IsRelaxed p x f d i → IsRelaxed p x f (set d (head_of p.arcs.list r) k) i
    nears_others i up h open_arc = omega (arith, ints, still (tail_of p.arcs.list i) up, falls (head_of p.arcs.list i), h open_arc)

    pub nears_farthest : IsFarthest place (set d (head_of p.arcs.list r) k) (tail_of p.arcs.list r)
    nears_farthest = record {
      here = farthest.here;
      most = λ u up. omega (arith, still u up, still (tail_of p.arcs.list r) farthest.here, farthest.most u up);
    }

    pub nears_search : (rest : Numbers) (via : List ℕ) (queue queue' : List Entry) (count : ℕ)
        → EndsInRange p.arcs.nodes p.arcs.list → IsTight p x f → IsOpen f r
        → IsQueued queue queue' k (head_of p.arcs.list r)
        → IsSearch p x f rest place via d queue count
        → IsSearch p x f rest place (set via (head_of p.arcs.list r) r)
        (set d (head_of p.arcs.list r) k) queue' count
    nears_search rest via queue queue' count ends tight open_arc queued s =
        let w = head_of p.arcs.list r in
        let t = tail_of p.arcs.list r in
        let e' = set d w k in
        let via' = set via w r in
        let in_range : w < p.arcs.nodes = head_in p.arcs.nodes p.arcs.list ends r arc in
        let via_at : get_or via' w 0 ≡ r = get_or-set_same via w r 0 (omega (arith, in_range, s.vias)) in
        let via_off : (u : ℕ) → u ≢ w → get_or via' u 0 ≡ get_or via u 0 = λ (u : ℕ) (n : u ≢ w). get_or-set_other via w u r 0 n in
        let up = reduced_up p x r legal arc in
        let same_tail = still t farthest.here in
        record {
          places = s.places;
          vias = length-set via w r ∙ s.vias;
          distances = length-set d w k ∙ s.distances;
          room = s.room;
          most = s.most;
          within = λ u. omega (arith, falls u, s.within u);
          reached = λ u l m. ⊎_elim
              (λ (q : u ≡ w).
              let P : ℕ → Type 0 = λ v. IsParent p x f place e' (get_or via' v 0) v in
              let Q : ℕ → Type 0 = λ i. IsParent p x f place e' i w in
              let one : IsParent p x f place e' r w = record {
                arc = arc;
                here = refl;
                from = farthest.here;
                later = inl fresh;
                open_arc = open_arc;
                sum = omega (arith, ints, at, same_tail, sum);
              } in
              inr (subst P (sym q) (subst Q (sym via_at) one)))
              (λ (n : u ≢ w). ⊎_elim
              (λ (q : pos 0 <ℤ rest u). inl q)
              (λ (q : IsParent p x f place d (get_or via u 0) u).
              let Q : ℕ → Type 0 = λ i. IsParent p x f place e' i u in
              let one : IsParent p x f place e' (get_or via u 0) u = record {
                arc = q.arc;
                here = q.here;
                from = q.from;
                later = q.later;
                open_arc = q.open_arc;
                sum = omega (arith, ints, off u n, still (tail_of p.arcs.list (get_or via u 0)) q.from, q.sum);
              } in
              inr (subst Q (sym (via_off u n)) one))
              (s.reached u l (omega (arith, off u n, m))))
              (cases_eq u w);
          settled = λ u h. omega (arith, still u h, s.settled u h);
          nearer = λ u h c v q. ⊎_elim
              (λ (z : Waits queue c v). omega (arith, still u h, s.nearer u h c v z))
              (λ (z : (c ≡ k) × (v ≡ w)). omega (arith, ints, still u h, farthest.most u h, z.0, sum, up))
              (queued.only c v q);
          waiting = λ u l z m. ⊎_elim
              (λ (q : u ≡ w).
              let P : ℕ → Type 0 = λ v. Waits queue' (get_or e' v 0) v in
              let Q : ℕ → Type 0 = λ c. Waits queue' c w in
              subst P (sym q) (subst Q (sym at) queued.here))
              (λ (n : u ≢ w).
              let Q : ℕ → Type 0 = λ c. Waits queue' c u in
              subst Q (sym (off u n)) (queued.kept (get_or d u 0) u (s.waiting u l z (omega (arith, off u n, m)))))
              (cases_eq u w);
          entries = λ c u q. ⊎_elim
              (λ (z : Waits queue c u). let h = s.entries c u z in (h.0, omega (arith, falls u, h.1), h.2))
              (λ (z : (c ≡ k) × (u ≡ w)).
              let e : get_or e' u 0 ≡ get_or e' w 0 = ap (λ v. get_or e' v 0) z.1 in
              (omega (arith, z.1, in_range), omega (arith, e, at, z.0), omega (arith, z.0, less, s.within w)))
              (queued.only c u q);
          high = λ size h u l m. ⊎_elim
              (λ (q : u ≡ w).
              let e : get_or e' u 0 ≡ get_or e' w 0 = ap (λ v. get_or e' v 0) q in
              let g : x u ≡ x w = ap x q in
              omega (arith, ints, e, g, at, sum, s.higher size h t farthest.here, mul_le size (get_or place t 0) count (s.most t), step_size p x f r size h tight arc open_arc))
              (λ (n : u ≢ w). omega (arith, ints, off u n, s.high size h u l (omega (arith, off u n, m))))
              (cases_eq u w);
          higher = λ size h u g. omega (arith, ints, still u g, s.higher size h u g);
        }
