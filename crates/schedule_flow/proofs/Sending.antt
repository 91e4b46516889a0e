-- Sending an amount along a path, arc by arc.
use Rattle.std.proofs.Common.{◌≡◌, ◌≢◌, ◌⊎◌, inl, inr, ⊎_elim, ℕ, ◌+◌, ◌-◌, ◌*◌, ◌/◌, ◌%◌, ◌<◌, ◌≤◌}
use Rattle.std.proofs.Common.{eqb, cond, Bool, true, false, ℤ, pos, negsuc, ◌+ℤ◌, ◌-ℤ◌, ◌≤ℤ◌, List}
use Rattle.std.proofs.Common.{length, get_or, set, refl, sym, ap, ◌∙◌, subst, arith}
use Rattle.std.proofs.lemmas.Int.{ints}
use Rattle.std.proofs.lemmas.Bool.{cases_eq, cases_Bool, eq-eqb}
use Rattle.std.proofs.lemmas.List.{get_or-set_same, get_or-set_other, length-set}
use Rattle.cycle_find.specs.declared.arcs.Arc.{Arc}
use Rattle.cycle_find.specs.Constraints.{EndsInRange, numbers_of, start_of, end_of}
use Rattle.schedule_problem.specs.declared.problem.Problem.{Problem}
use Rattle.schedule_problem.specs.Flow.{Flow, flow_of, excess}
use Rattle.schedule_flow.specs.Network.{tail_of, head_of, at_node, sent_over, above_zero, unsent, weights, IsKept, IsPath, IsSent, first_of, last_of}
use Rattle.schedule_problem.proofs.Sums.{total-change, total-le, total-none, passed, picked}
use Rattle.schedule_flow.proofs.Cuts.{total-over}
use Rattle.std.proofs.lemmas.List.Sums.{sum_by_more}
use Rattle.std.proofs.lemmas.List.{take-append-le, take_all}
use Rattle.std.proofs.Common.{take, drop, ◌++◌, ◌^◌}

more_at : (b : Bool) (x y a : ℕ) → y ≡ x + a → cond b (pos y) (pos 0) ≡ (cond b (pos x) (pos 0) +ℤ cond b (pos a) (pos 0))
more_at true x y a e = omega (arith, ints, e)
more_at false x y a e = omega (arith, ints)

-- an arc that carries more
pub carries_more : (p : Problem) (f g : Flow) (i a : ℕ) → i < length p.arcs.list
    → ((k : ℕ) → k ≢ i → g k ≡ f k) → g i ≡ f i + a → (v : ℕ)
    → excess p g v ≡ ((excess p f v -ℤ at_node (start_of p.arcs.list i) a v) +ℤ at_node
    (end_of p.arcs.list i) a v)
carries_more p f g i a l same e v =
    let m = length p.arcs.list in
    let out : Flow → ℕ → ℤ = λ h k. cond (eqb (start_of p.arcs.list k) v) (pos (h k)) (pos 0) in
    let into : Flow → ℕ → ℤ = λ h k. cond (eqb (end_of p.arcs.list k) v) (pos (h k)) (pos 0) in
    let s = total-change m i (out f) (out g) l (λ k d. ap (λ y. cond (eqb (start_of p.arcs.list k) v) (pos y) (pos 0)) (same k d)) in
    let t = total-change m i (into f) (into g) l (λ k d. ap (λ y. cond (eqb (end_of p.arcs.list k) v) (pos y) (pos 0)) (same k d)) in
    omega (arith, ints, s, t, more_at (eqb (start_of p.arcs.list i) v) (f i) (g i) a e, more_at (eqb (end_of p.arcs.list i) v) (f i) (g i) a e)

-- one residual arc more of the path
over_more : (path : List ℕ) (a k r : ℕ) → k < length path → sent_over (take (k + 1) path) a r ≡ sent_over (take k path) a r + cond (eqb (get_or path k 0) r) a 0
over_more path a k r l = sum_by_more (λ q. cond (eqb q r) a 0) path k 0 l

over_it : (path : List ℕ) (a k r : ℕ) → k < length path → get_or path k 0 ≡ r → sent_over (take (k + 1) path) a r ≡ sent_over (take k path) a r + a
over_it path a k r l e = over_more path a k r l ∙ ap (λ t. sent_over (take k path) a r + cond t a 0) (eq-eqb (get_or path k 0) r e)

over_others : (path : List ℕ) (a k r : ℕ) → k < length path → get_or path k 0 ≢ r → sent_over (take (k + 1) path) a r ≡ sent_over (take k path) a r
over_others path a k r l d = let z = passed (get_or path k 0) r a 0 d in omega (arith, over_more path a k r l, z)

-- how far an amount was sent along a path
pub record Sending (p : Problem) (old new : List ℕ) (path : List ℕ) (a k : ℕ) : Type 0 where
  pub node : ℕ
  pub next : k < length path → node ≡ tail_of p.arcs.list (get_or path k 0)
  pub done : k ≡ length path → node ≡ last_of p.arcs.list path
  pub excesses : (v : ℕ) → excess p (flow_of new) v ≡ ((excess p (flow_of old) v -ℤ at_node (first_of p.arcs.list path) a v) +ℤ at_node node a v)
  pub most : (j : ℕ) → get_or new j 0 ≤ get_or old j 0 + a
  pub fresh : (i : ℕ) → k ≤ i → i < length path → get_or path i 0 % 2 ≡ 0 → get_or new (get_or path i 0 / 2) 0 ≤ get_or old (get_or path i 0 / 2) 0
  pub room : (i : ℕ) → k ≤ i → i < length path → get_or path i 0 % 2 ≡ 1 → a ≤ get_or new (get_or path i 0 / 2) 0
  pub amounts : (j : ℕ) → pos (get_or new j 0) ≡ ((pos (get_or old j 0) +ℤ pos (sent_over (take k path) a (2 * j))) -ℤ pos (sent_over (take k path) a (2 * j + 1)))
  pub used : (j : ℕ) → 0 < get_or new j 0 → (0 < get_or old j 0) ⊎ ((i : ℕ) × (i < k) × (get_or path i 0 ≡ 2 * j))

pub nothing_sent : (p : Problem) (old path : List ℕ) (a : ℕ) → IsPath p (flow_of old) path a → Sending p old old path a 0
nothing_sent p old path a h = record {
  node = first_of p.arcs.list path;
  next = λ l. refl;
  done = λ e. absurd (omega (arith, e, h.some));
  excesses = λ v. omega (arith, ints);
  most = λ j. omega arith;
  fresh = λ i l m e. omega arith;
  room = λ i l m e. (h.room i m).1 e;
  amounts = λ j. let z : sent_over (take 0 path) a (2 * j) ≡ 0 = refl in let y : sent_over (take 0 path) a (2 * j + 1) ≡ 0 = refl in omega (arith, ints, z, y);
  used = λ j l. inl l;
}

module _ (p : Problem) (old new : List ℕ) (path : List ℕ) (a k : ℕ)
    (h : IsPath p (flow_of old) path a) (s : Sending p old new path a k) (l : k < length path)
    (len : length new ≡ length p.arcs.list) where
  onward : k + 1 < length path → head_of p.arcs.list (get_or path k 0) ≡ tail_of p.arcs.list (get_or path (k + 1) 0)
  onward m = h.linked k m

  at_last : k + 1 ≡ length path → head_of p.arcs.list (get_or path k 0) ≡ last_of p.arcs.list path
  at_last e = let q : k ≡ length path - 1 = omega (arith, e) in ap (λ i. head_of p.arcs.list (get_or path i 0)) q

  -- the other numbers of the path are of other arcs, or go the other way
  apart : (i : ℕ) → k + 1 ≤ i → i < length path → get_or path i 0 % 2 ≡ get_or path k 0 % 2 → get_or path i 0 / 2 ≢ get_or path k 0 / 2
  apart i m n e q =
      let same : get_or path i 0 ≡ get_or path k 0 = omega (arith, e, q) in
      absurd (omega (arith, h.distinct i k n l same))

  forwards : get_or path k 0 % 2 ≡ 0 → Sending p old (set new (get_or path k 0 / 2) (get_or new (get_or path k 0 / 2) 0 + a)) path a (k + 1)
  forwards even =
      let r = get_or path k 0 in
      let i = r / 2 in
      let in_list : i < length p.arcs.list = (h.room k l).0 in
      let in_new : i < length new = omega (arith, in_list, len) in
      let now = set new i (get_or new i 0 + a) in
      let here : get_or now i 0 ≡ get_or new i 0 + a = get_or-set_same new i (get_or new i 0 + a) 0 in_new in
      let off : (j : ℕ) → j ≢ i → get_or now j 0 ≡ get_or new j 0 = λ (j : ℕ) (d : j ≢ i). get_or-set_other new i j (get_or new i 0 + a) 0 d in
      let test : eqb (r % 2) 0 ≡ true = eq-eqb (r % 2) 0 even in
      let t : tail_of p.arcs.list r ≡ start_of p.arcs.list i = ap (λ b. cond b (start_of p.arcs.list i) (end_of p.arcs.list i)) test in
      let u : head_of p.arcs.list r ≡ end_of p.arcs.list i = ap (λ b. cond b (end_of p.arcs.list i) (start_of p.arcs.list i)) test in
      let change = carries_more p (flow_of new) (flow_of now) i a in_list off here in
      record {
        node = head_of p.arcs.list r;
        next = onward;
        done = at_last;
        excesses = λ v.
            let x : at_node s.node a v ≡ at_node (start_of p.arcs.list i) a v = ap (λ n. at_node n a v) (s.next l ∙ t) in
            let y : at_node (head_of p.arcs.list r) a v ≡ at_node (end_of p.arcs.list i) a v = ap (λ n. at_node n a v) u in
            omega (arith, ints, change v, s.excesses v, x, y);
        most = λ j. ⊎_elim
            (λ (q : j ≡ i).
            let e1 : get_or now j 0 ≡ get_or now i 0 = ap (λ n. get_or now n 0) q in
            let e2 : get_or old j 0 ≡ get_or old i 0 = ap (λ n. get_or old n 0) q in
            let low = s.fresh k (omega arith) l even in
            omega (arith, e1, e2, here, low))
            (λ (d : j ≢ i). omega (arith, off j d, s.most j))
            (cases_eq j i);
        fresh = λ n m o e. omega (arith, off (get_or path n 0 / 2) (apart n m o (e ∙ sym even)), s.fresh n (omega (arith, m)) o e);
        room = λ n m o e.
            let before = s.room n (omega (arith, m)) o e in
            ⊎_elim
            (λ (q : get_or path n 0 / 2 ≡ i).
            let e1 : get_or now (get_or path n 0 / 2) 0 ≡ get_or now i 0 = ap (λ w. get_or now w 0) q in
            omega (arith, e1, here))
            (λ (d : get_or path n 0 / 2 ≢ i). omega (arith, off (get_or path n 0 / 2) d, before))
            (cases_eq (get_or path n 0 / 2) i);
        amounts = λ j. ⊎_elim
            (λ (q : j ≡ i).
            let e1 : get_or now j 0 ≡ get_or now i 0 = ap (λ n. get_or now n 0) q in
            let e2 : get_or new j 0 ≡ get_or new i 0 = ap (λ n. get_or new n 0) q in
            let it = over_it path a k (2 * j) l (omega (arith, even, q)) in
            let back = over_others path a k (2 * j + 1) l (omega (arith, even, q)) in
            omega (arith, ints, s.amounts j, e1, e2, here, it, back))
            (λ (d : j ≢ i).
            let ahead = over_others path a k (2 * j) l (omega (arith, even, d)) in
            let back = over_others path a k (2 * j + 1) l (omega (arith, even, d)) in
            omega (arith, ints, s.amounts j, off j d, ahead, back))
            (cases_eq j i);
        used = λ j up. ⊎_elim
            (λ (q : j ≡ i). let e : r ≡ 2 * j = omega (arith, even, q) in inr (k, omega arith, e))
            (λ (d : j ≢ i). ⊎_elim
            (λ (o : 0 < get_or old j 0). inl o)
            (λ (w : (n : ℕ) × (n < k) × (get_or path n 0 ≡ 2 * j)). inr (w.0, omega (arith, w.1), w.2))
            (s.used j (omega (arith, off j d, up))))
            (cases_eq j i);
      }

  backwards : get_or path k 0 % 2 ≡ 1 → Sending p old (set new (get_or path k 0 / 2) (get_or new (get_or path k 0 / 2) 0 - a)) path a (k + 1)
  backwards odd =
      let r = get_or path k 0 in
      let i = r / 2 in
      let in_list : i < length p.arcs.list = (h.room k l).0 in
      let in_new : i < length new = omega (arith, in_list, len) in
      let now = set new i (get_or new i 0 - a) in
      let here : get_or now i 0 ≡ get_or new i 0 - a = get_or-set_same new i (get_or new i 0 - a) 0 in_new in
      let off : (j : ℕ) → j ≢ i → get_or now j 0 ≡ get_or new j 0 = λ (j : ℕ) (d : j ≢ i). get_or-set_other new i j (get_or new i 0 - a) 0 d in
      let enough = s.room k (omega arith) l odd in
      let test : eqb (r % 2) 0 ≡ false = grind (arith, odd) in
      let t : tail_of p.arcs.list r ≡ end_of p.arcs.list i = ap (λ b. cond b (start_of p.arcs.list i) (end_of p.arcs.list i)) test in
      let u : head_of p.arcs.list r ≡ start_of p.arcs.list i = ap (λ b. cond b (end_of p.arcs.list i) (start_of p.arcs.list i)) test in
      let change = carries_more p (flow_of now) (flow_of new) i a in_list (λ j d. sym (off j d)) (omega (arith, here, enough)) in
      record {
        node = head_of p.arcs.list r;
        next = onward;
        done = at_last;
        excesses = λ v.
            let x : at_node s.node a v ≡ at_node (end_of p.arcs.list i) a v = ap (λ n. at_node n a v) (s.next l ∙ t) in
            let y : at_node (head_of p.arcs.list r) a v ≡ at_node (start_of p.arcs.list i) a v = ap (λ n. at_node n a v) u in
            omega (arith, ints, change v, s.excesses v, x, y);
        most = λ j. ⊎_elim
            (λ (q : j ≡ i).
            let e1 : get_or now j 0 ≡ get_or now i 0 = ap (λ n. get_or now n 0) q in
            let e2 : get_or new j 0 ≡ get_or new i 0 = ap (λ n. get_or new n 0) q in
            omega (arith, e1, e2, here, s.most j))
            (λ (d : j ≢ i). omega (arith, off j d, s.most j))
            (cases_eq j i);
        fresh = λ n m o e.
            let before = s.fresh n (omega (arith, m)) o e in
            ⊎_elim
            (λ (q : get_or path n 0 / 2 ≡ i).
            let e1 : get_or now (get_or path n 0 / 2) 0 ≡ get_or now i 0 = ap (λ w. get_or now w 0) q in
            let e2 : get_or new (get_or path n 0 / 2) 0 ≡ get_or new i 0 = ap (λ w. get_or new w 0) q in
            omega (arith, e1, e2, here, before))
            (λ (d : get_or path n 0 / 2 ≢ i). omega (arith, off (get_or path n 0 / 2) d, before))
            (cases_eq (get_or path n 0 / 2) i);
        room = λ n m o e. omega (arith, off (get_or path n 0 / 2) (apart n m o (e ∙ sym odd)), s.room n (omega (arith, m)) o e);
        amounts = λ j. ⊎_elim
            (λ (q : j ≡ i).
            let e1 : get_or now j 0 ≡ get_or now i 0 = ap (λ n. get_or now n 0) q in
            let e2 : get_or new j 0 ≡ get_or new i 0 = ap (λ n. get_or new n 0) q in
            let ahead = over_others path a k (2 * j) l (omega (arith, odd, q)) in
            let it = over_it path a k (2 * j + 1) l (omega (arith, odd, q)) in
            omega (arith, ints, s.amounts j, e1, e2, here, enough, ahead, it))
            (λ (d : j ≢ i).
            let ahead = over_others path a k (2 * j) l (omega (arith, odd, d)) in
            let back = over_others path a k (2 * j + 1) l (omega (arith, odd, d)) in
            omega (arith, ints, s.amounts j, off j d, ahead, back))
            (cases_eq j i);
        used = λ j up.
            let held : 0 < get_or new j 0 = ⊎_elim
            (λ (q : j ≡ i).
            let e1 : get_or now j 0 ≡ get_or now i 0 = ap (λ n. get_or now n 0) q in
            let e2 : get_or new j 0 ≡ get_or new i 0 = ap (λ n. get_or new n 0) q in
            omega (arith, e1, e2, here, up))
            (λ (d : j ≢ i). omega (arith, off j d, up))
            (cases_eq j i) in
            ⊎_elim
            (λ (o : 0 < get_or old j 0). inl o)
            (λ (w : (n : ℕ) × (n < k) × (get_or path n 0 ≡ 2 * j)). inr (w.0, omega (arith, w.1), w.2))
            (s.used j held);
      }

  pub sent_on : Sending p old (set new (get_or path k 0 / 2) (cond (eqb (get_or path k 0 % 2) 0) (get_or new (get_or path k 0 / 2) 0 + a) (get_or new (get_or path k 0 / 2) 0 - a))) path a (k + 1)
  sent_on =
      let r = get_or path k 0 in
      let P : ℕ → Type 0 = λ y. Sending p old (set new (r / 2) y) path a (k + 1) in
      let up = get_or new (r / 2) 0 + a in
      let down = get_or new (r / 2) 0 - a in
      ⊎_elim
      (λ (even : r % 2 ≡ 0).
      let e : cond (eqb (r % 2) 0) up down ≡ up = ap (λ b. cond b up down) (eq-eqb (r % 2) 0 even) in
      subst P (sym e) (forwards even))
      (λ (d : r % 2 ≢ 0).
      let odd : r % 2 ≡ 1 = omega (arith, d) in
      let e : cond (eqb (r % 2) 0) up down ≡ down = passed (r % 2) 0 up down d in
      subst P (sym e) (backwards odd))
      (cases_eq (r % 2) 0)

pub sent_all : (p : Problem) (old new path : List ℕ) (a k : ℕ) → Sending p old new path a k → length path ≤ k → k ≤ length path → IsSent p (flow_of old) (flow_of new) path a
sent_all p old new path a k s ge le =
    let e : k ≡ length path = omega arith in
    record {
      excesses = λ v.
          let x : at_node s.node a v ≡ at_node (last_of p.arcs.list path) a v = ap (λ n. at_node n a v) (s.done e) in
          omega (arith, ints, s.excesses v, x);
      amounts =
          let A : List ℕ → Type 0 = λ l. (j : ℕ) → pos (get_or new j 0) ≡ ((pos (get_or old j 0) +ℤ pos (sent_over l a (2 * j))) -ℤ pos (sent_over l a (2 * j + 1))) in
          subst A (take_all k path (omega (arith, e))) s.amounts;
      used = λ j up. ⊎_elim
          (λ (o : 0 < get_or old j 0). inl o)
          (λ (w : (n : ℕ) × (n < k) × (get_or path n 0 ≡ 2 * j)). inr (w.0, omega (arith, w.1), w.2))
          (s.used j up);
    }

above_never_below : (z : ℤ) → pos 0 ≤ℤ above_zero z
above_never_below (pos n) = omega (arith, ints)
above_never_below (negsuc n) = omega (arith, ints)

above : (z : ℤ) → pos 0 ≤ℤ z → above_zero z ≡ z
above (pos n) h = refl
above (negsuc n) h = absurd (omega (arith, ints, h))

below : (z : ℤ) → z ≤ℤ pos 0 → above_zero z ≡ pos 0
below (pos n) h = ap pos (omega (arith, ints, h))
below (negsuc n) h = refl

at_same : (a b n : ℕ) → a ≡ b → at_node a n b ≡ pos n
at_same a b n e = picked a b (pos n) (pos 0) e

at_other : (a b n : ℕ) → a ≢ b → at_node a n b ≡ pos 0
at_other a b n d = passed a b (pos n) (pos 0) d

pub tail_in : (nodes : ℕ) (arcs : List Arc) → EndsInRange nodes arcs → (r : ℕ) → r / 2 < length arcs → tail_of arcs r < nodes
tail_in nodes arcs ends r l =
    let q = ends (r / 2) l in
    ⊎_elim
    (λ (t : eqb (r % 2) 0 ≡ true). let e : tail_of arcs r ≡ start_of arcs (r / 2) = ap (λ b. cond b (start_of arcs (r / 2)) (end_of arcs (r / 2))) t in omega (arith, e, q.0))
    (λ (t : eqb (r % 2) 0 ≡ false). let e : tail_of arcs r ≡ end_of arcs (r / 2) = ap (λ b. cond b (start_of arcs (r / 2)) (end_of arcs (r / 2))) t in omega (arith, e, q.1))
    (cases_Bool (eqb (r % 2) 0))

pub head_in : (nodes : ℕ) (arcs : List Arc) → EndsInRange nodes arcs → (r : ℕ) → r / 2 < length arcs → head_of arcs r < nodes
head_in nodes arcs ends r l =
    let q = ends (r / 2) l in
    ⊎_elim
    (λ (t : eqb (r % 2) 0 ≡ true). let e : head_of arcs r ≡ end_of arcs (r / 2) = ap (λ b. cond b (end_of arcs (r / 2)) (start_of arcs (r / 2))) t in omega (arith, e, q.1))
    (λ (t : eqb (r % 2) 0 ≡ false). let e : head_of arcs r ≡ start_of arcs (r / 2) = ap (λ b. cond b (end_of arcs (r / 2)) (start_of arcs (r / 2))) t in omega (arith, e, q.0))
    (cases_Bool (eqb (r % 2) 0))

module _ (p : Problem) (old new : List ℕ) (path : List ℕ) (a : ℕ) (h : IsPath p (flow_of old) path a) (s : IsSent p (flow_of old) (flow_of new) path a) where
  differ : first_of p.arcs.list path ≢ last_of p.arcs.list path
  differ e =
      let q : excess p (flow_of old) (first_of p.arcs.list path) ≡ excess p (flow_of old) (last_of p.arcs.list path) = ap (excess p (flow_of old)) e in
      absurd (omega (arith, ints, q, h.surplus, h.want, h.positive))

  -- what is to be sent falls by the amount
  pub unsent_falls : first_of p.arcs.list path < p.arcs.nodes → unsent p (flow_of new) ≡ (unsent p (flow_of old) -ℤ pos a)
  unsent_falls in_range =
      let u = first_of p.arcs.list path in
      let w = last_of p.arcs.list path in
      let E = excess p (flow_of old) in
      let F = excess p (flow_of new) in
      let g : ℕ → ℤ = λ v. above_zero (E v) in
      let k : ℕ → ℤ = λ v. above_zero (F v) in
      let others : (v : ℕ) → v ≢ u → k v ≡ g v = λ (v : ℕ) (d : v ≢ u). ⊎_elim
      (λ (q : v ≡ w).
      let f1 : F v ≡ F w = ap F q in
      let e1 : E v ≡ E w = ap E q in
      let x = at_same w w a refl in
      let y = at_other u w a differ in
      let low1 : F v ≤ℤ pos 0 = omega (arith, ints, f1, s.excesses w, x, y, h.want) in
      let low2 : E v ≤ℤ pos 0 = omega (arith, ints, e1, h.want) in
      below (F v) low1 ∙ sym (below (E v) low2))
      (λ (d' : v ≢ w).
      let x = at_other w v a (λ q. d' (sym q)) in
      let y = at_other u v a (λ q. d (sym q)) in
      let e : F v ≡ E v = omega (arith, ints, s.excesses v, x, y) in
      ap above_zero e)
      (cases_eq v w) in
      let x = at_other w u a (λ q. differ (sym q)) in
      let y = at_same u u a refl in
      let here : F u ≡ (E u -ℤ pos a) = omega (arith, ints, s.excesses u, x, y) in
      let a1 = above (F u) (omega (arith, ints, here, h.surplus)) in
      let a2 = above (E u) (omega (arith, ints, h.surplus)) in
      omega (arith, ints, total-change p.arcs.nodes u g k in_range others, a1, a2, here)

pub kept_after : (p : Problem) (old new path : List ℕ) (rest rest' : List ℤ) (sends moved a : ℕ)
    → IsKept p old rest sends moved → IsPath p (flow_of old) path a
    → IsSent p (flow_of old) (flow_of new) path a → ((j : ℕ)
    → get_or new j 0 ≤ get_or old j 0 + a) → length new ≡ length old
    → length rest' ≡ length rest → ((v : ℕ)
    → numbers_of rest' v ≡ ((numbers_of rest v -ℤ at_node
    (first_of p.arcs.list path) a v) +ℤ at_node (last_of p.arcs.list path) a v))
    → IsKept p new rest' (sends + 1) (moved + a)
kept_after p old new path rest rest' sends moved a kept h s most len len' moves =
    let in_range : first_of p.arcs.list path < p.arcs.nodes = tail_in p.arcs.nodes p.arcs.list kept.ends (get_or path 0 0) (h.room 0 h.some).0 in
    record {
      arcs = len ∙ kept.arcs;
      nodes = len' ∙ kept.nodes;
      ends = kept.ends;
      light = kept.light;
      excesses = λ v. omega (arith, ints, moves v, kept.excesses v, s.excesses v);
      carried = λ j. omega (arith, most j, kept.carried j);
      counted = omega (arith, kept.counted, h.positive);
      budget = omega (arith, ints, kept.budget, unsent_falls p old new path a h s in_range);
    }

pub settled_at : (rest : List ℤ) (u w a : ℕ) (x y : ℤ) → u < length rest → w < length rest
    → u ≢ w → x ≡ (numbers_of rest u -ℤ pos a) → y ≡ (numbers_of rest w +ℤ pos a) → (v : ℕ)
    → numbers_of (set (set rest u x) w y) v ≡
    ((numbers_of rest v -ℤ at_node u a v) +ℤ at_node w a v)
settled_at rest u w a x y lu lw d ex ey v =
    let one = set rest u x in
    let lw' : w < length one = omega (arith, lw, length-set rest u x) in
    ⊎_elim
    (λ (q : v ≡ w).
    let e : get_or (set one w y) v (pos 0) ≡ y = ap (λ k. get_or (set one w y) k (pos 0)) q ∙ get_or-set_same one w y (pos 0) lw' in
    let r : get_or rest v (pos 0) ≡ get_or rest w (pos 0) = ap (λ k. get_or rest k (pos 0)) q in
    let n = at_same w v a (sym q) in
    let m = at_other u v a (λ z. d (z ∙ q)) in
    omega (arith, ints, e, r, n, m, ey))
    (λ (d1 : v ≢ w).
    let e : get_or (set one w y) v (pos 0) ≡ get_or one v (pos 0) = get_or-set_other one w v y (pos 0) d1 in
    let n = at_other w v a (λ z. d1 (sym z)) in
    ⊎_elim
    (λ (q : v ≡ u).
    let f : get_or one v (pos 0) ≡ x = ap (λ k. get_or one k (pos 0)) q ∙ get_or-set_same rest u x (pos 0) lu in
    let r : get_or rest v (pos 0) ≡ get_or rest u (pos 0) = ap (λ k. get_or rest k (pos 0)) q in
    let m = at_same u v a (sym q) in
    omega (arith, ints, e, f, r, n, m, ex))
    (λ (d2 : v ≢ u).
    let f : get_or one v (pos 0) ≡ get_or rest v (pos 0) = get_or-set_other rest u v x (pos 0) d2 in
    let m = at_other u v a (λ z. d2 (sym z)) in
    omega (arith, ints, e, f, n, m))
    (cases_eq v u))
    (cases_eq v w)

pub amount_small : (p : Problem) (flow path : List ℕ) (rest : List ℤ) (sends moved a : ℕ) → IsKept p flow rest sends moved → IsPath p (flow_of flow) path a → moved + a ≤ 2 ^ 52
amount_small p flow path rest sends moved a kept h =
    let u = first_of p.arcs.list path in
    let in_range : u < p.arcs.nodes = tail_in p.arcs.nodes p.arcs.list kept.ends (get_or path 0 0) (h.room 0 h.some).0 in
    let part = total-over p.arcs.nodes u (λ v. above_zero (excess p (flow_of flow) v)) in_range (λ v l. above_never_below (excess p (flow_of flow) v)) in
    let here = above (excess p (flow_of flow) u) (omega (arith, ints, h.surplus)) in
    omega (arith, ints, part, here, h.surplus, kept.budget, kept.light)

pub written_back : {A : Type 0} (n : ℕ) (new old : List A) → n ≡ length new → take n (new ++ drop (length new) old) ≡ new
written_back n new old e = take-append-le n new (drop (length new) old) (omega (arith, e)) ∙ take_all n new (omega (arith, e))

-- one call more of `augment` stays within the weights
pub sends_more : (p : Problem) (flow path : List ℕ) (rest : List ℤ) (sends moved a : ℕ) → IsKept p flow rest sends moved → IsPath p (flow_of flow) path a → pos (sends + 1) ≤ℤ weights p
sends_more p flow path rest sends moved a kept h =
    let u = first_of p.arcs.list path in
    let in_range : u < p.arcs.nodes = tail_in p.arcs.nodes p.arcs.list kept.ends (get_or path 0 0) (h.room 0 h.some).0 in
    let part = total-over p.arcs.nodes u (λ v. above_zero (excess p (flow_of flow) v)) in_range (λ v l. above_never_below (excess p (flow_of flow) v)) in
    let here = above (excess p (flow_of flow) u) (omega (arith, ints, h.surplus)) in
    omega (arith, ints, part, here, h.surplus, h.positive, kept.counted, kept.budget)

pub carried_small : (p : Problem) (flow : List ℕ) (rest : List ℤ) (sends moved : ℕ) → IsKept p flow rest sends moved → moved ≤ 2 ^ 52
carried_small p flow rest sends moved kept =
    let n = p.arcs.nodes in
    let up = total-le n (λ v. pos 0) (λ v. above_zero (excess p (flow_of flow) v)) (λ v l. above_never_below (excess p (flow_of flow) v)) in
    let none = total-none n (λ v. pos 0) (λ v l. refl) in
    omega (arith, ints, up, none, kept.budget, kept.light)
