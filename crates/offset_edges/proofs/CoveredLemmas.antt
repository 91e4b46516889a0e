-- Closed walks that are covered, and the ones that show that no schedule is legal.
use Rattle.std.proofs.Common.{
  ◌≡◌,
  ◌∙◌,
  ℕ,
  zero,
  suc,
  ◌+◌,
  ◌*◌,
  ◌/◌,
  ◌≤◌,
  ◌<◌,
  List,
  [],
  ◌∷◌,
  map,
  length,
  refl,
  ap,
  sym,
  subst,
  arith,
}
use Rattle.std.specs.Prelude.{All, ℤ, pos, ◌+ℤ◌, ◌-ℤ◌, ◌≤ℤ◌, ◌<ℤ◌}
use Rattle.std.proofs.lemmas.Int.{ints, clamps}
use Rattle.std.proofs.lemmas.List.{length-map}
use Rattle.std.proofs.lemmas.List.Elements.{All-nil, All-cons}
use Rattle.cycle_find.specs.declared.arcs.Arc.{Arc}
use Rattle.cycle_find.specs.Constraints.{Numbers, arc_at, IsPositiveCycle}
use Rattle.cycle_find.specs.Constraints as Cycles
use Rattle.offset_edges.specs.declared.edge.Edge.{Edge}
use Rattle.offset_edges.specs.declared.walk.ClosedWalk.{ClosedWalk}
use Rattle.offset_edges.specs.Edges.{edge_at, IsSmall}
use Rattle.offset_edges.specs.Problems.{arcs_over, edge_under}
use Rattle.offset_edges.specs.Schedules.{IsLegal}
use Rattle.offset_edges.specs.Walks.{
  end_of,
  IsWalk,
  IsClosed,
  offsets_of,
  latencies_of,
  IsCausal,
  IsCovered,
  AreCovered,
  IsShown,
}
use Rattle.offset_edges.proofs.WalkLemmas.{few_arcs, some_edge}

-- ---- legal times cover causal walks

-- what is read over a walk waits for all latencies on the way
walk_waits : (ticks : ℕ → ℕ) (edges : List Edge) (s : Numbers) → IsLegal ticks edges s
    → (js : List ℕ) (a b : ℕ) → IsWalk edges a js b
    → ((s a +ℤ pos (latencies_of ticks edges js)) +ℤ offsets_of edges js) ≤ℤ s b
walk_waits ticks edges s legal [] a b w = let e : s a ≡ s b = ap s w in omega (arith, ints, e)
walk_waits ticks edges s legal (j ∷ js) a b w =
    let e : s (edge_at edges j).from ≡ s a = ap s w.1 in
    omega (arith, ints, e, legal j w.0, walk_waits ticks edges s legal js (end_of edges j) b w.2)

pub covered_by : (ticks : ℕ → ℕ) (edges : List Edge) (s : Numbers) → IsLegal ticks edges s
    → IsCausal edges → AreCovered ticks edges
covered_by ticks edges s legal causal v j js w =
    let back = causal v j js w in
    let waits = walk_waits ticks edges s legal (j ∷ js) v v w in
    omega (arith, ints, clamps, back, waits)

-- ---- an uncovered walk is none of a kernel whose walks are covered

walk_covered : (ticks : ℕ → ℕ) (edges : List Edge) (round : List ℕ) → AreCovered ticks edges
    → 0 < length round → IsClosed edges round → IsCovered ticks edges round
walk_covered ticks edges [] covered some closed = absurd (omega arith)
walk_covered ticks edges (j ∷ js) covered some closed = covered closed.0 j js closed.1

pub shown_covered : (ticks : ℕ → ℕ) (edges : List Edge) (walk : ClosedWalk) → AreCovered ticks edges
    → IsShown ticks edges walk → pos walk.latency ≤ℤ (pos 0 -ℤ walk.offset)
shown_covered ticks edges walk covered shown =
    let c = walk_covered ticks edges shown.round covered shown.some shown.closed in
    let l = shown.summed.latency in
    let o = shown.summed.offset in
    omega (arith, ints, clamps, c, l, o)

pub shown_back : (ticks : ℕ → ℕ) (edges : List Edge) (walk : ClosedWalk) → AreCovered ticks edges
    → IsShown ticks edges walk → walk.offset <ℤ pos 0
shown_back ticks edges walk covered shown =
    let c = walk_covered ticks edges shown.round covered shown.some shown.closed in
    let o = shown.summed.offset in
    omega (arith, ints, clamps, c, o)

-- ---- the arcs of a problem

abbrev first_arc : (ℕ → ℕ) → Edge → Arc
first_arc ticks e = record { from = e.from; to = e.to; need = pos (ticks e.from) +ℤ e.offset }

abbrev second_arc : ℕ → Edge → Arc
second_arc nodes e = record { from = e.to; to = nodes + e.from; need = pos 0 -ℤ e.offset }

-- arc number i is the first or the second one of an edge
data IsArc (nodes : ℕ) (ticks : ℕ → ℕ) (edges : List Edge) (i : ℕ) : Type 0 where
  there :
      edge_under i < length edges
      → arc_at (arcs_over nodes ticks edges) i ≡ first_arc ticks (edge_at edges (edge_under i))
      → IsArc nodes ticks edges i
  back :
      edge_under i < length edges
      → arc_at (arcs_over nodes ticks edges) i ≡ second_arc nodes (edge_at edges (edge_under i))
      → IsArc nodes ticks edges i

half_more : (i : ℕ) → edge_under (suc (suc i)) ≡ suc (edge_under i)
half_more i = omega arith

arc_more : (nodes : ℕ) (ticks : ℕ → ℕ) (e : Edge) (es : List Edge) (i : ℕ)
    → IsArc nodes ticks es i → IsArc nodes ticks (e ∷ es) (suc (suc i))
arc_more nodes ticks e es i (there h p) =
    there (let m = half_more i in omega arith)
    (p ∙ ap (λ j. first_arc ticks (edge_at (e ∷ es) j)) (sym (half_more i)))
arc_more nodes ticks e es i (back h p) =
    back (let m = half_more i in omega arith)
    (p ∙ ap (λ j. second_arc nodes (edge_at (e ∷ es) j)) (sym (half_more i)))

arc_is : (nodes : ℕ) (ticks : ℕ → ℕ) (edges : List Edge) (i : ℕ)
    → i < length (arcs_over nodes ticks edges) → IsArc nodes ticks edges i
arc_is nodes ticks [] i h = absurd (omega arith)
arc_is nodes ticks (e ∷ es) zero h = there (omega arith) refl
arc_is nodes ticks (e ∷ es) (suc zero) h = back (omega arith) refl
arc_is nodes ticks (e ∷ es) (suc (suc i)) h = arc_more nodes ticks e es i (arc_is nodes ticks es i
    (omega arith))

-- ---- walks over them

-- a closed walk of a few edges that looks back fewer ticks than its latencies sum to
pub record IsShortRound (nodes : ℕ) (ticks : ℕ → ℕ) (edges : List Edge) (round : List ℕ) : Type 0
  where
    pub some : 0 < length round
    pub few : length round ≤ nodes
    pub closed : IsClosed edges round
    pub short : pos 0 <ℤ (pos (latencies_of ticks edges round) +ℤ offsets_of edges round)

module _ (nodes : ℕ) (ticks : ℕ → ℕ) (edges : List Edge)
    (small : (j : ℕ) → j < length edges → IsSmall nodes (edge_at edges j)) where
  abbrev arcs : List Arc
  arcs = arcs_over nodes ticks edges

  -- no arc leads on from where words are kept
  start_below : (i : ℕ) → i < length arcs → Cycles.start_of arcs i < nodes
  start_below i h = by_arc (arc_is nodes ticks edges i h)
    where
      by_arc : IsArc nodes ticks edges i → Cycles.start_of arcs i < nodes
      by_arc (there l p) = subst (λ x. x < nodes) (sym (ap (λ x. x.from) p)) (small (edge_under i)
          l).from
      by_arc (back l p) = subst (λ x. x < nodes) (sym (ap (λ x. x.from) p)) (small (edge_under i)
          l).to

  -- so all ends of a walk to a node of the kernel are such nodes
  next_below : (a b : ℕ) (is : List ℕ) → b < nodes → Cycles.IsWalk arcs a is b → a < nodes
  next_below a b [] h w = subst (λ x. x < nodes) (sym w) h
  next_below a b (i ∷ is) h w = subst (λ x. x < nodes) w.1 (start_below i w.0)

  ends_below : (a b : ℕ) (is : List ℕ) → b < nodes → Cycles.IsWalk arcs a is b
      → All (λ x. x < nodes) (map (Cycles.end_of arcs) is)
  ends_below a b [] h w = All-nil (λ x. x < nodes)
  ends_below a b (i ∷ is) h w =
      All-cons (λ x. x < nodes) (Cycles.end_of arcs i) (map (Cycles.end_of arcs) is)
      (next_below (Cycles.end_of arcs i) b is h w.2) (ends_below (Cycles.end_of arcs i) b is h w.2)

  -- the walk under one, with its needs
  record IsUnder (a b : ℕ) (is : List ℕ) : Type 0 where
    walk : IsWalk edges a (map edge_under is) b
    needs :
        Cycles.needs_of arcs is
        ≡ (pos (latencies_of ticks edges (map edge_under is)) +ℤ offsets_of edges (map edge_under
        is))

  under : (a b : ℕ) (is : List ℕ) → b < nodes → Cycles.IsWalk arcs a is b → IsUnder a b is
  under a b [] h w = record { walk = w; needs = omega (arith, ints) }
  under a b (i ∷ is) h w =
      by_arc (arc_is nodes ticks edges i w.0) (under (Cycles.end_of arcs i) b is h w.2)
    where
      by_arc : IsArc nodes ticks edges i → IsUnder (Cycles.end_of arcs i) b is
          → IsUnder a b (i ∷ is)
      by_arc (there l p) r =
          let need : Cycles.need_of arcs i ≡ _ = ap (λ x. x.need) p in
          let rest = r.needs in
          record {
            walk = (
              l,
              sym (ap (λ x. x.from) p) ∙ w.1,
              subst (λ v. IsWalk edges v (map edge_under is) b) (ap (λ x. x.to) p) r.walk,
            );
            needs = omega (arith, ints, need, rest);
          }
      by_arc (back l p) r =
          let to : Cycles.end_of arcs i ≡ nodes + (edge_at edges (edge_under i)).from = ap (λ x.
          x.to) p in
          let below = next_below (Cycles.end_of arcs i) b is h w.2 in
          absurd (omega arith)

  node_of_walk : (v : ℕ) (is : List ℕ) → 0 < length is → Cycles.IsWalk arcs v is v → v < nodes
  node_of_walk v [] some w = absurd (omega arith)
  node_of_walk v (i ∷ is) some w = subst (λ x. x < nodes) w.1 (start_below i w.0)

  pub short_round : (is : List ℕ) → IsPositiveCycle arcs is
      → IsShortRound nodes ticks edges (map edge_under is)
  short_round is p =
      let v = p.closed.0 in
      let some = some_edge arcs is p.positive in
      let h = node_of_walk v is some p.closed.1 in
      let u = under v v is h p.closed.1 in
      let len : length (map edge_under is) ≡ length is = length-map is edge_under in
      let few = few_arcs arcs is nodes p.simple (ends_below v v is h p.closed.1) in
      let positive = p.positive in
      let needs = u.needs in
      record {
        some = omega arith;
        few = omega arith;
        closed = (v, u.walk);
        short = omega (arith, ints, positive, needs);
      }
