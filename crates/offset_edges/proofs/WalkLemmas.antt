-- Walks over edges, and over the constraints that are made of them.
use Rattle.std.proofs.Common.{
  ◌≡◌,
  ℕ,
  zero,
  suc,
  ◌+◌,
  ◌*◌,
  ◌≤◌,
  ◌<◌,
  ◌^◌,
  Bool,
  true,
  false,
  eqb,
  List,
  [],
  ◌∷◌,
  ◌++◌,
  map,
  length,
  take,
  get_or,
  refl,
  ap,
  sym,
  ◌∙◌,
  subst,
  arith,
  inl,
  inr,
  ◌⊎◌,
  ⊎_elim,
  to_z,
  of_z,
  w64,
}
use Rattle.std.specs.Prelude.{All, ℤ, pos, negsuc, ◌+ℤ◌, ◌-ℤ◌, ◌*ℤ◌, ◌≤ℤ◌, ◌<ℤ◌, unsigned_abs}
use Rattle.std.specs.Prelude.{◌||◌}
use Rattle.std.specs.List.{list_any, IsDistinct}
use Rattle.std.proofs.Math.Nat.{mul-le-mul}
use Rattle.std.proofs.lemmas.Map.Keys.{IsDistinct-from_apart}
use Rattle.std.proofs.lemmas.Bool.{eqb-true, false≢true, cases_Bool}
use Rattle.std.proofs.lemmas.List.Elements.{All-map}
use Rattle.std.proofs.lemmas.List.{get_or_default}
use borrow.Author.Differences.{up, down, sum_is_lem}
use Rattle.std.proofs.lemmas.Int.{ints}
use Rattle.std.proofs.lemmas.List.{length-map, get_or-map, map_more}
use Rattle.std.proofs.lemmas.Map.Steps.{length-le_from_distinct_below}
use Rattle.cycle_find.specs.declared.arcs.Arc.{Arc}
use Rattle.cycle_find.specs.declared.arcs.Arcs.{Arcs}
use Rattle.cycle_find.specs.Constraints.{
  Numbers,
  Solves,
  arc_at,
  IsSimple,
  IsPositiveCycle,
  IsSolvable,
}
use Rattle.cycle_find.specs.Constraints as Cycles
use Rattle.offset_edges.specs.declared.edge.Edge.{Edge}
use Rattle.offset_edges.specs.Edges.{edge_at, IsSmall}
use Rattle.offset_edges.specs.Walks.{
  end_of,
  IsWalk,
  offsets_of,
  IsCausal,
  IsRound,
  constraint_of,
  AreNumbers,
}

mul-add : (a b c : ℤ) → (a +ℤ b) *ℤ c ≡ (a *ℤ c +ℤ b *ℤ c)
mul-add a b c = omega (
  arith,
  ints,
  ap (λ k. k * up c) (sum_is_lem a b),
  ap (λ k. k * down c)
      (sum_is_lem a b),
)

-- times a number of nodes
times_least : (z : ℤ) (n : ℕ) → pos 0 ≤ℤ z → pos 0 ≤ℤ (z *ℤ pos n)
times_least (pos k) n h = omega (arith, ints)
times_least (negsuc k) n h = absurd (omega (arith, ints))

times_most : (z : ℤ) (n : ℕ) → z <ℤ pos 0 → (z *ℤ pos n) ≤ℤ (pos 0 -ℤ pos n)
times_most (pos k) n h = absurd (omega (arith, ints))
times_most (negsuc k) n h = omega (arith, ints)

pub int_cases : (z : ℤ) → (z <ℤ pos 0) ⊎ (pos 0 ≤ℤ z)
int_cases (pos k) = inr (omega (arith, ints))
int_cases (negsuc k) = inl (omega (arith, ints))

module _ (nodes : ℕ) (edges : List Edge) where
  abbrev arcs : List Arc
  arcs = map (constraint_of nodes) edges

  arc_is : (j : ℕ) → j < length edges → arc_at arcs j ≡ constraint_of nodes (edge_at edges j)
  arc_is j h = get_or-map (constraint_of nodes) edges j (record {
    from = 0;
    to = 0;
    offset = pos 0;
  })
      (record { from = 0; to = 0; need = pos 0 }) h

  -- a walk over edges is one over their constraints
  walk_there : (a b : ℕ) (js : List ℕ) → IsWalk edges a js b → Cycles.IsWalk arcs a js b
  walk_there a b [] w = w
  walk_there a b (j ∷ js) w =
      let e = arc_is j w.0 in
      let c = length-map edges (constraint_of nodes) in
      let h = w.0 in (
        omega arith,
        ap (λ x. x.from) e ∙ w.1,
        subst (λ v. Cycles.IsWalk arcs v js b) (sym (ap (λ x. x.to) e)) (walk_there (end_of edges j)
            b js w.2),
      )

  walk_back : (a b : ℕ) (js : List ℕ) → Cycles.IsWalk arcs a js b → IsWalk edges a js b
  walk_back a b [] w = w
  walk_back a b (j ∷ js) w =
      let c = length-map edges (constraint_of nodes) in
      let q = w.0 in
      let h : j < length edges = omega arith in
      let e = arc_is j h in (
        h,
        sym (ap (λ x. x.from) e) ∙ w.1,
        walk_back (end_of edges j) b js (subst (λ v. Cycles.IsWalk arcs v js b) (ap (λ x. x.to) e)
            w.2),
      )

  -- the needs of a walk
  needs_are : (a b : ℕ) (js : List ℕ) → IsWalk edges a js b →
      Cycles.needs_of arcs js ≡ (offsets_of edges js *ℤ pos nodes +ℤ pos (length js))
  needs_are a b [] w = omega (arith, ints)
  needs_are a b (j ∷ js) w =
      let e : Cycles.need_of arcs j ≡ ((edge_at edges j).offset *ℤ pos nodes +ℤ pos 1) = ap (λ x.
      x.need) (arc_is j w.0) in
      let r = needs_are (end_of edges j) b js w.2 in
      let m = mul-add (edge_at edges j).offset (offsets_of edges js) (pos nodes) in
      omega (arith, ints, e, r, m)

-- a walk gains at least its needs
walk_gains : (arcs : List Arc) (x : Numbers) → Solves x arcs → (js : List ℕ) (a b : ℕ)
    → Cycles.IsWalk arcs a js b →
    (x a +ℤ Cycles.needs_of arcs js) ≤ℤ x b
walk_gains arcs x s [] a b w = let e : x a ≡ x b = ap x w in omega (arith, ints, e)
walk_gains arcs x s (j ∷ js) a b w =
    let e : x (Cycles.start_of arcs j) ≡ x a = ap x w.1 in
    omega (arith, ints, e, s j w.0, walk_gains arcs x s js (Cycles.end_of arcs j) b w.2)

pub causal_from : (nodes : ℕ) (edges : List Edge) (x : Numbers)
    → Solves x (map (constraint_of nodes) edges) → IsCausal edges
causal_from nodes edges x s v j js w =
    let g = walk_gains (map (constraint_of nodes) edges) x s (j ∷ js) v v (walk_there nodes edges v
    v (j ∷ js) w) in
    let n = needs_are nodes edges v v (j ∷ js) w in
    ⊎_elim
    (λ (h : offsets_of edges (j ∷ js) <ℤ pos 0). h)
    (λ (h : pos 0 ≤ℤ offsets_of edges (j ∷ js)).
    let t = times_least (offsets_of edges (j ∷ js)) nodes h in
    absurd (omega (arith, ints, g, n, t)))
    (int_cases (offsets_of edges (j ∷ js)))

-- ---- no simple walk is longer than there are nodes

any_below : (n q : ℕ) (xs : List ℕ) → All (λ x. x < n) xs → list_any (eqb q) xs ≡ true → q < n
any_below n q [] a e = absurd (false≢true e)
any_below n q (x ∷ xs) a e = by_test (eqb q x) (λ t. eqb-true q x t) (λ r. any_below n q xs (λ k d
    h. a (suc k) d (omega arith)) r) (a 0 0 (omega arith)) e
  where
    by_test : (b : Bool) → (b ≡ true → q ≡ x) → (list_any (eqb q) xs ≡ true → q < n) → x < n
        → (b || list_any (eqb q) xs) ≡ true → q < n
    by_test true same rest l e = let t = same refl in omega arith
    by_test false same rest l e = rest e

distinct : (arcs : List Arc) (js : List ℕ) → IsSimple arcs js
    → IsDistinct eqb (map (Cycles.end_of arcs) js)
distinct arcs js s =
    IsDistinct-from_apart eqb (map (Cycles.end_of arcs) js)
    (λ i k d l h.
    let len : length (map (Cycles.end_of arcs) js) ≡ length js = length-map js (Cycles.end_of arcs)
    in
    let a : get_or (map (Cycles.end_of arcs) js) i d ≡ Cycles.end_of arcs (get_or js i 0) =
    get_or-map (Cycles.end_of arcs) js i 0 d (omega arith) in
    let b : get_or (map (Cycles.end_of arcs) js) k d ≡ Cycles.end_of arcs (get_or js k 0) =
    get_or-map (Cycles.end_of arcs) js k 0 d (omega arith) in
    ⊎_elim
    (λ (t : eqb (get_or (map (Cycles.end_of arcs) js) i d) (get_or (map (Cycles.end_of arcs) js) k
    d) ≡ true).
    let same = eqb-true (get_or (map (Cycles.end_of arcs) js) i d) (get_or (map (Cycles.end_of arcs)
    js) k d) t in
    let one : i ≡ k = s i k (omega arith) (omega arith) (sym a ∙ same ∙ b) in
    absurd (omega arith))
    (λ (t : eqb (get_or (map (Cycles.end_of arcs) js) i d) (get_or (map (Cycles.end_of arcs) js) k
    d) ≡ false). t)
    (cases_Bool (eqb (get_or (map (Cycles.end_of arcs) js) i d) (get_or (map (Cycles.end_of arcs)
    js) k d))))

-- the numbers of a walk are those of edges
pub numbers_of_walk : (edges : List Edge) (js : List ℕ) (a b : ℕ) → IsWalk edges a js b
    → AreNumbers edges js
numbers_of_walk edges [] a b w = λ i h. absurd (omega arith)
numbers_of_walk edges (j ∷ js) a b w = by_place (numbers_of_walk edges js (end_of edges j) b w.2)
    w.0
  where
    by_place : AreNumbers edges js → j < length edges → AreNumbers edges (j ∷ js)
    by_place r h zero l = h
    by_place r h (suc i) l = r i (omega arith)

ends_below : (nodes : ℕ) (edges : List Edge) (js : List ℕ) (a b : ℕ) → ((j : ℕ)
    → j < length edges → IsSmall nodes (edge_at edges j)) →
    IsWalk edges a js b → All (λ x. x < nodes) (map (Cycles.end_of (map (constraint_of nodes)
    edges)) js)
ends_below nodes edges js a b small w =
    All-map (λ x. x < nodes) (Cycles.end_of (map (constraint_of nodes) edges)) js
    (λ k d h.
    let m = numbers_of_walk edges js a b w k h in
    let q = get_or_default js k d 0 h in
    let e : Cycles.end_of (map (constraint_of nodes) edges) (get_or js k 0) ≡ end_of edges (get_or
    js k 0) =
    ap (λ x. x.to) (arc_is nodes edges (get_or js k 0) m) in
    let l = (small (get_or js k 0) m).to in
    subst (λ v. Cycles.end_of (map (constraint_of nodes) edges) v < nodes) (sym q) (omega arith))

-- a simple walk whose ends are nodes has at most as many arcs as there are nodes
pub few_arcs : (arcs : List Arc) (js : List ℕ) (nodes : ℕ) → IsSimple arcs js
    → All (λ x. x < nodes) (map (Cycles.end_of arcs) js) → length js ≤ nodes
few_arcs arcs js nodes simple below =
    let len : length (map (Cycles.end_of arcs) js) ≡ length js = length-map js (Cycles.end_of arcs)
    in
    let few = length-le_from_distinct_below (map (Cycles.end_of arcs) js) nodes (distinct arcs js
    simple)
    (λ q t. any_below nodes q (map (Cycles.end_of arcs) js) below t) in
    omega arith

pub some_edge : (arcs : List Arc) (js : List ℕ) → pos 0 <ℤ Cycles.needs_of arcs js → 0 < length js
some_edge arcs [] h = absurd (omega (arith, ints))
some_edge arcs (j ∷ js) h = omega arith

pub round_from : (nodes : ℕ) (edges : List Edge) (js : List ℕ) → ((j : ℕ) → j < length edges
    → IsSmall nodes (edge_at edges j)) →
    IsPositiveCycle (map (constraint_of nodes) edges) js → IsRound nodes edges js
round_from nodes edges js small p =
    let v = p.closed.0 in
    let w = walk_back nodes edges v v js p.closed.1 in
    let few = few_arcs (map (constraint_of nodes) edges) js nodes p.simple (ends_below nodes edges
    js v v small w) in
    let n = needs_are nodes edges v v js w in
    let positive = p.positive in
    record {
      some = some_edge (map (constraint_of nodes) edges) js p.positive;
      few = omega arith;
      closed = (v, w);
      ahead = ⊎_elim
          (λ (h : offsets_of edges js <ℤ pos 0).
          let t = times_most (offsets_of edges js) nodes h in
          absurd (omega (arith, ints, n, t, positive, few)))
          (λ (h : pos 0 ≤ℤ offsets_of edges js). h)
          (int_cases (offsets_of edges js));
    }

-- ---- the constraints can be solved

pub size_times : (z : ℤ) (n a b : ℕ) → unsigned_abs z ≤ a → n ≤ b
    → unsigned_abs (z *ℤ pos n) ≤ a * b
size_times (pos k) n a b h l = let m = mul-le-mul h l in omega (arith, ints)
size_times (negsuc k) n a b h l = let m = mul-le-mul h l in omega (arith, ints)

pub solvable_of : (nodes : ℕ) (edges : List Edge) (arcs : Arcs) → nodes ≤ 4096
    → length edges ≤ 2 ^ 19 →
    ((j : ℕ) → j < length edges → IsSmall nodes (edge_at edges j)) → arcs.nodes ≡ nodes →
    arcs.list ≡ map (constraint_of nodes) edges → IsSolvable arcs
solvable_of nodes edges arcs few many small n l =
    let len : length arcs.list ≡ length edges = ap length l
    ∙ length-map edges (constraint_of nodes) in
    record {
      nodes = omega arith;
      count = omega arith;
      ends = λ j h.
          let k : j < length edges = omega arith in
          let e : arc_at arcs.list j ≡ constraint_of nodes (edge_at edges j) = ap (λ xs. arc_at xs
          j) l ∙ arc_is nodes edges j k in
          let s = small j k in
          let from = s.from in
          let to = s.to in
          let f : (arc_at arcs.list j).from ≡ (edge_at edges j).from = ap (λ x. x.from) e in
          let t : (arc_at arcs.list j).to ≡ (edge_at edges j).to = ap (λ x. x.to) e in
          (omega arith, omega arith);
      needs = λ j h.
          let k : j < length edges = omega arith in
          let e : arc_at arcs.list j ≡ constraint_of nodes (edge_at edges j) = ap (λ xs. arc_at xs
          j) l ∙ arc_is nodes edges j k in
          let s = size_times (edge_at edges j).offset nodes (2 ^ 32) 4096 (small j k).offset few in
          let f : (arc_at arcs.list j).need ≡ ((edge_at edges j).offset *ℤ pos nodes +ℤ pos 1) = ap
          (λ x. x.need) e in
          let size : unsigned_abs (arc_at arcs.list j).need ≤ 2 ^ 44 + 1 = omega (arith, ints, f, s)
          in
          let few' : arcs.nodes ≤ 4096 = omega arith in
          let m = mul-le-mul few' size in
          omega arith;
    }

-- one edge more
pub one_constraint_more : (nodes : ℕ) (edges : List Edge) (new old : List Arc) (i : ℕ) (need : ℤ) (d
    : Edge) → i < length edges →
    old ≡ map (constraint_of nodes) (take i edges) →
    need ≡ ((get_or edges i d).offset *ℤ pos nodes +ℤ pos 1) →
    new ≡ old ++ record { from = (get_or edges i d).from; to = (get_or edges i d).to; need = need }
    ∷ [] →
    new ≡ map (constraint_of nodes) (take (i + 1) edges)
one_constraint_more nodes edges new old i need d h o n e =
    e ∙ ap (λ xs. xs ++ record {
      from = (get_or edges i d).from;
      to = (get_or edges i d).to;
      need =
          need;
    } ∷ []) o
    ∙ ap (λ z. map (constraint_of nodes) (take i edges) ++ record {
      from = (get_or edges i d).from;
      to = (get_or edges i d).to;
      need = z;
    } ∷ []) n
    ∙ sym (map_more (constraint_of nodes) edges i d h)

-- the need as the code computes it
pub need_fits : (z from : ℤ) (n : ℕ) → unsigned_abs z ≤ 2 ^ 32 → n ≤ 4096 → from ≡ pos n →
    to_z w64 (of_z w64 (to_z w64 (of_z w64 (to_z w64 (of_z w64 z) *ℤ to_z w64 (of_z w64 from))) +ℤ
    pos 1)) ≡ (z *ℤ pos n +ℤ pos 1)
need_fits z from n s l e =
    let a : to_z w64 (of_z w64 z) ≡ z = omega (arith, ints) in
    let b : to_z w64 (of_z w64 from) ≡ pos n = omega (arith, ints, e) in
    let p = size_times z n (2 ^ 32) 4096 s l in
    ap (λ x. to_z w64 (of_z w64 (to_z w64 (of_z w64 (x *ℤ to_z w64 (of_z w64 from))) +ℤ pos 1))) a
    ∙ ap (λ y. to_z w64 (of_z w64 (to_z w64 (of_z w64 (z *ℤ y)) +ℤ pos 1))) b
    ∙ omega (arith, ints)
