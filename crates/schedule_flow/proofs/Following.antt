-- Following a guess over free arcs.
use Rattle.std.proofs.Common.{◌≡◌, ◌≢◌, ◌⊎◌, inl, inr, ⊎_elim, ℕ, ◌+◌, ◌*◌, ◌/◌, ◌%◌, ◌<◌, ◌≤◌, cond, pos, ◌<ℤ◌, List, length, get_or, set, sym, ap, ◌∙◌, subst, arith}
use Rattle.std.proofs.lemmas.Int.{ints}
use Rattle.std.proofs.lemmas.Bool.{cases_eq, eq-eqb}
use Rattle.std.proofs.lemmas.List.{get_or-set_same, get_or-set_other, length-set}
use Rattle.cycle_find.specs.Constraints.{Numbers, start_of, end_of}
use Rattle.schedule_problem.specs.declared.problem.Problem.{Problem}
use Rattle.schedule_problem.specs.Flow.{Flow}
use Rattle.schedule_flow.specs.Network.{IsPath, tail_of, head_of}
use Rattle.schedule_flow.specs.Reach.{IsStep, IsReached}
use Rattle.schedule_flow.specs.Search.{slack_of}
use Rattle.schedule_flow.specs.Follow.{IsFreeArc, IsFollowed}

-- the node from which a guess is followed
pub followed_first : (p : Problem) (x rest : Numbers) (place via : List ℕ) (v : ℕ) → length place ≡ p.arcs.nodes → length via ≡ p.arcs.nodes → v < p.arcs.nodes →
    pos 0 <ℤ rest v → ((u : ℕ) → get_or place u 0 ≡ 0) → IsFollowed p x rest (set place v 1) via 2 v
followed_first p x rest place via v places vias l up none =
    let at : get_or (set place v 1) v 0 ≡ 1 = get_or-set_same place v 1 0 (omega (arith, l, places)) in
    let off : (u : ℕ) → u ≢ v → get_or (set place v 1) u 0 ≡ 0 = λ (u : ℕ) (n : u ≢ v). get_or-set_other place v u 1 0 n ∙ none u in
    record {
      places = length-set place v 1 ∙ places;
      vias = vias;
      node = l;
      here = omega (arith, at);
      most = λ u. ⊎_elim
          (λ (q : u ≡ v). let e : get_or (set place v 1) u 0 ≡ get_or (set place v 1) v 0 = ap (λ w. get_or (set place v 1) w 0) q in omega (arith, e, at))
          (λ (n : u ≢ v). omega (arith, off u n))
          (cases_eq u v);
      steps = λ f u seen. ⊎_elim
          (λ (q : u ≡ v). let e : rest u ≡ rest v = ap rest q in inl (omega (arith, ints, e, up)))
          (λ (n : u ≢ v). absurd (omega (arith, off u n, seen)))
          (cases_eq u v);
    }

-- over one free arc more, to a node that wasn't reached
pub followed_on : (p : Problem) (x rest : Numbers) (place via : List ℕ) (count v w j : ℕ) → IsFollowed p x rest place via count v → IsFreeArc p x j v w →
    w < p.arcs.nodes → get_or place w 0 ≡ 0 → IsFollowed p x rest (set place w count) (set via w (2 * j)) (count + 1) w
followed_on p x rest place via count v w j h a l fresh =
    let place' : List ℕ = set place w count in
    let via' : List ℕ = set via w (2 * j) in
    let at : get_or place' w 0 ≡ count = get_or-set_same place w count 0 (omega (arith, l, h.places)) in
    let by : get_or via' w 0 ≡ 2 * j = get_or-set_same via w (2 * j) 0 (omega (arith, l, h.vias)) in
    let off : (u : ℕ) → u ≢ w → get_or place' u 0 ≡ get_or place u 0 = λ (u : ℕ) (n : u ≢ w). get_or-set_other place w u count 0 n in
    let seen : (u : ℕ) → 0 < get_or place u 0 → get_or place' u 0 ≡ get_or place u 0 = λ (u : ℕ) (up : 0 < get_or place u 0). ⊎_elim
    (λ (q : u ≡ w). let e : get_or place u 0 ≡ get_or place w 0 = ap (λ z. get_or place z 0) q in absurd (omega (arith, e, up, fresh)))
    (λ (n : u ≢ w). off u n)
    (cases_eq u w) in
    let half : 2 * j / 2 ≡ j = omega arith in
    let even : 2 * j % 2 ≡ 0 = omega arith in
    let S : ℕ → ℕ = start_of p.arcs.list in
    let E : ℕ → ℕ = end_of p.arcs.list in
    let t : tail_of p.arcs.list (2 * j) ≡ v = ap (λ b. cond b (S (2 * j / 2)) (E (2 * j / 2))) (eq-eqb (2 * j % 2) 0 even) ∙ ap S half ∙ a.start in
    let hd : head_of p.arcs.list (2 * j) ≡ w = ap (λ b. cond b (E (2 * j / 2)) (S (2 * j / 2))) (eq-eqb (2 * j % 2) 0 even) ∙ ap E half ∙ a.end in
    let tp : get_or place' (tail_of p.arcs.list (2 * j)) 0 ≡ get_or place v 0 = ap (λ z. get_or place' z 0) t ∙ seen v h.here in
    let slack : slack_of p x (2 * j / 2) ≡ slack_of p x j = ap (slack_of p x) half in
    let new : (f : Flow) → IsStep p x f place' (2 * j) w = λ (f : Flow). record {
      arc = omega (arith, half, a.arc);
      here = hd;
      from = omega (arith, tp, h.here);
      earlier = omega (arith, tp, at, h.most v);
      free = ((λ e. omega (arith, ints, slack, a.free)), (λ e. absurd (omega (arith, e, even))));
    } in
    record {
      places = length-set place w count ∙ h.places;
      vias = length-set via w (2 * j) ∙ h.vias;
      node = l;
      here = omega (arith, at, h.here, h.most v);
      most = λ u. ⊎_elim
          (λ (q : u ≡ w). let e : get_or place' u 0 ≡ get_or place' w 0 = ap (λ z. get_or place' z 0) q in omega (arith, e, at))
          (λ (n : u ≢ w). omega (arith, off u n, h.most u))
          (cases_eq u w);
      steps = λ f u up. ⊎_elim
          (λ (q : u ≡ w).
          let P : ℕ → Type 0 = λ z. (pos 0 <ℤ rest z) ⊎ IsStep p x f place' (get_or via' z 0) z in
          let Q : ℕ → Type 0 = λ r. IsStep p x f place' r w in
          subst P (sym q) (inr (subst Q (sym by) (new f))))
          (λ (n : u ≢ w).
          let o : 0 < get_or place u 0 = omega (arith, off u n, up) in
          let b : get_or via' u 0 ≡ get_or via u 0 = get_or-set_other via w u (2 * j) 0 n in
          ⊎_elim
          (λ (q : pos 0 <ℤ rest u). inl q)
          (λ (s : IsStep p x f place (get_or via u 0) u).
          let Q : ℕ → Type 0 = λ r. IsStep p x f place' r u in
          let e : get_or place' (tail_of p.arcs.list (get_or via u 0)) 0 ≡ get_or place (tail_of p.arcs.list (get_or via u 0)) 0 = seen (tail_of p.arcs.list (get_or via u 0)) s.from in
          inr (subst Q (sym b) (record {
            arc = s.arc;
            here = s.here;
            from = omega (arith, e, s.from);
            earlier = omega (arith, e, off u n, s.earlier);
            free = s.free;
          })))
          (h.steps f u o))
          (cases_eq u w);
    }

pub followed_reached : (p : Problem) (x rest : Numbers) (place via : List ℕ) (count v : ℕ) → IsFollowed p x rest place via count v → (f : Flow) → IsReached p x f rest place via
followed_reached p x rest place via count v h f = record {
  places = h.places;
  vias = h.vias;
  steps = λ u up. h.steps f u up;
}

-- a path takes less than it can, too
pub less_path : (p : Problem) (f : Flow) (path : List ℕ) (amount less : ℕ) → IsPath p f path amount → 0 < less → less ≤ amount → IsPath p f path less
less_path p f path amount less h some le = record {
  some = h.some;
  linked = h.linked;
  distinct = h.distinct;
  room = λ k l. (let r = h.room k l in (r.0, λ e. omega (arith, le, r.1 e)));
  positive = some;
  surplus = omega (arith, ints, le, h.surplus);
  want = omega (arith, ints, le, h.want);
}

-- the same numbers
pub same_reached : (p : Problem) (x : Numbers) (f : Flow) (rest rest' : Numbers) (place via : List ℕ)
    → IsReached p x f rest place via → ((v : ℕ) → rest' v ≡ rest v) → IsReached p x f rest' place via
same_reached p x f rest rest' place via h same = record {
  places = h.places;
  vias = h.vias;
  steps = λ u up. ⊎_elim
      (λ (q : pos 0 <ℤ rest u). inl (omega (arith, ints, q, same u)))
      (λ (s : IsStep p x f place (get_or via u 0) u). inr s)
      (h.steps u up);
}
