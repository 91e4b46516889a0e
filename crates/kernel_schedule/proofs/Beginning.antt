-- The earliest times of a kernel's problem begin at 0.
use Rattle.std.proofs.Common.{
  ◌≡◌,
  ◌≢◌,
  ℕ,
  zero,
  suc,
  ◌+◌,
  ◌≤◌,
  ◌<◌,
  List,
  [],
  ◌∷◌,
  length,
  refl,
  sym,
  subst,
  arith,
  inl,
  inr,
  ◌⊎◌,
}
use Rattle.std.specs.Prelude.{ℤ, pos, ◌+ℤ◌, ◌-ℤ◌, ◌≤ℤ◌, unsigned_abs}
use Rattle.std.proofs.lemmas.Int.{ints}
use Rattle.std.proofs.lemmas.Bool.{cases_eq}
use Rattle.cycle_find.specs.declared.arcs.Arc.{Arc}
use Rattle.cycle_find.specs.Constraints.{Numbers, Solves, IsNonNegative, arc_at}
use Rattle.schedule_problem.specs.declared.problem.Problem.{Problem}
use Rattle.schedule_problem.specs.Optimum.{IsProblem, IsCheapest, IsEarliest}
use Rattle.offset_edges.specs.declared.edge.Edge.{Edge}
use Rattle.offset_edges.specs.Edges.{edge_at}
use Rattle.offset_edges.specs.Problems.{arcs_over}
use Rattle.offset_edges.specs.Walks.{start_of, end_of}
use Rattle.offset_edges.proofs.ScheduleLemmas.{holds_from}
use Rattle.kernel_schedule.specs.Beginning.{HasEdge, BeginsAtZero}
use Rattle.kernel_schedule.proofs.Lowering.{idle_zero, none_later}

-- ---- arcs of edges

-- the two arcs of an edge
pub record HaveBoth (P : Arc → Type 0) (nodes : ℕ) (ticks : ℕ → ℕ) (e : Edge) : Type 0 where
  pub there : P (record { from = e.from; to = e.to; need = pos (ticks e.from) +ℤ e.offset })
  pub back : P (record { from = e.to; to = nodes + e.from; need = pos 0 -ℤ e.offset })

-- what holds of both arcs of each edge holds of all arcs
pub arcs_have : (P : Arc → Type 0) (nodes : ℕ) (ticks : ℕ → ℕ) (edges : List Edge)
    → ((j : ℕ) → j < length edges → HaveBoth P nodes ticks (edge_at edges j))
    → (j : ℕ) → j < length (arcs_over nodes ticks edges)
    → P (arc_at (arcs_over nodes ticks edges) j)
arcs_have P nodes ticks [] each j h = absurd (omega arith)
arcs_have P nodes ticks (e ∷ es) each zero h = (each 0 (omega arith)).there
arcs_have P nodes ticks (e ∷ es) each (suc zero) h = (each 0 (omega arith)).back
arcs_have P nodes ticks (e ∷ es) each (suc (suc j)) h =
    arcs_have P nodes ticks es (λ k l. each (suc k) (omega arith)) j (omega arith)

-- ---- where a schedule begins

-- a number from 0 on is 0 or at least 1
zero_or_more : (z : ℤ) → pos 0 ≤ℤ z → (z ≡ pos 0) ⊎ (pos 1 ≤ℤ z)
zero_or_more z low = by_size (cases_eq (unsigned_abs z) 0)
  where
    by_size : (unsigned_abs z ≡ 0) ⊎ (unsigned_abs z ≢ 0) → (z ≡ pos 0) ⊎ (pos 1 ≤ℤ z)
    by_size (inl none) = inl (omega (arith, ints, none))
    by_size (inr some) = inr (omega (arith, ints, some, low))

module _ (edges : List Edge) (x : Numbers) where
  -- a node with an edge has time 0
  abbrev Begins : Type 0
  Begins = (w : ℕ) × HasEdge edges w × (x w ≡ pos 0)

  -- none of the first edges has a node of time 0
  abbrev AreLater : ℕ → Type 0
  AreLater m = (j : ℕ) → j < m → (pos 1 ≤ℤ x (start_of edges j)) × (pos 1 ≤ℤ x (end_of edges j))

  -- one edge more
  later_more : (m : ℕ) → AreLater m → pos 1 ≤ℤ x (start_of edges m)
      → pos 1 ≤ℤ x (end_of edges m) → AreLater (suc m)
  later_more m later a b = λ j h. by_place j h (cases_eq j m)
    where
      by_place : (j : ℕ) → j < suc m → (j ≡ m) ⊎ (j ≢ m)
          → (pos 1 ≤ℤ x (start_of edges j)) × (pos 1 ≤ℤ x (end_of edges j))
      by_place j h (inl e) =
          subst (λ k. (pos 1 ≤ℤ x (start_of edges k)) × (pos 1 ≤ℤ x (end_of edges k))) (sym e)
          (a, b)
      by_place j h (inr d) = later j (omega arith)

  -- one of the first edges has such a node, or none
  search_edges : IsNonNegative x → (m : ℕ) → m ≤ length edges → Begins ⊎ AreLater m
  search_edges low zero h = inr (λ j l. absurd (omega arith))
  search_edges low (suc m) h =
      by_ends (search_edges low m (omega arith))
      (zero_or_more (x (start_of edges m)) (low (start_of edges m)))
      (zero_or_more (x (end_of edges m)) (low (end_of edges m)))
    where
      by_ends : Begins ⊎ AreLater m
          → (x (start_of edges m) ≡ pos 0) ⊎ (pos 1 ≤ℤ x (start_of edges m))
          → (x (end_of edges m) ≡ pos 0) ⊎ (pos 1 ≤ℤ x (end_of edges m))
          → Begins ⊎ AreLater (suc m)
      by_ends (inl found) a b = inl found
      by_ends (inr later) (inl z) b = inl (start_of edges m, (m, omega arith, inl refl), z)
      by_ends (inr later) (inr a) (inl z) = inl (end_of edges m, (m, omega arith, inr refl), z)
      by_ends (inr later) (inr a) (inr b) = inr (later_more m later a b)

module _ (nodes : ℕ) (ticks : ℕ → ℕ) (edges : List Edge) (p : Problem)
    (list : p.arcs.list ≡ arcs_over nodes ticks edges) (solvable : IsProblem p) (x : Numbers)
    (legal : Solves x p.arcs.list) (cheapest : IsCheapest p x) (earliest : IsEarliest p x) where
  -- what holds of both arcs of each edge holds of the arcs of the problem
  problem_has : (P : Arc → Type 0)
      → ((j : ℕ) → j < length edges → HaveBoth P nodes ticks (edge_at edges j))
      → (j : ℕ) → j < length p.arcs.list → P (arc_at p.arcs.list j)
  problem_has P each =
      subst (λ arcs. (j : ℕ) → j < length arcs → P (arc_at arcs j)) (sym list)
      (arcs_have P nodes ticks edges each)

  -- a node without edges has time 0
  apart_zero : (v : ℕ) → v < nodes → (HasEdge edges v → ⊥) → x v ≡ pos 0
  apart_zero v within none =
      idle_zero p solvable x legal cheapest earliest v
      (problem_has (λ a. (a.from ≢ v) × (a.to ≢ v))
      (λ j h.
      let from : start_of edges j ≢ v = λ e. none (j, h, inl e) in
      let to : end_of edges j ≢ v = λ e. none (j, h, inr e) in
      let kept : nodes + start_of edges j ≢ v = λ e. absurd (omega arith) in
      record { there = (from, to); back = (to, kept) }))

  -- if no node of an edge has time 0, no arc starts or ends at time 0
  later_nothing : AreLater edges x (length edges) → (v : ℕ) → x v ≤ℤ pos 0
  later_nothing later =
      none_later p solvable x legal cheapest earliest
      (problem_has (λ a. (pos 1 ≤ℤ x a.from) × (pos 1 ≤ℤ x a.to))
      (λ j h.
      let e = later j h in
      let from = e.0 in
      let hold = holds_from nodes ticks x edges (subst (λ arcs. Solves x arcs) list legal) j h in
      let there = hold.there in
      let back = hold.back in
      let kept : pos 1 ≤ℤ x (nodes + start_of edges j) = omega (arith, ints, there, back, from) in
      record { there = e; back = (e.1, kept) }))

  -- a node of time 0 that has an edge, where a node has one
  first_zero : (v : ℕ) → HasEdge edges v → Begins edges x
  first_zero v has =
      by_search (search_edges edges x earliest.non_negative (length edges) (omega arith))
    where
      late : AreLater edges x (length edges) → (start_of edges has.0 ≡ v) ⊎ (end_of edges has.0 ≡ v)
          → pos 1 ≤ℤ x v
      late later (inl e) = subst (λ u. pos 1 ≤ℤ x u) e (later has.0 has.1).0
      late later (inr e) = subst (λ u. pos 1 ≤ℤ x u) e (later has.0 has.1).1

      by_search : Begins edges x ⊎ AreLater edges x (length edges)
          → Begins edges x
      by_search (inl found) = found
      by_search (inr later) =
          let most = later_nothing later v in
          let least = late later has.2 in
          absurd (omega (arith, ints, most, least))

  pub begins : BeginsAtZero edges nodes x
  begins = record { apart = apart_zero; least = first_zero }
