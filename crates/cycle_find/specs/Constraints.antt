-- Difference constraints: what it is to solve them, and the closed walks that show that nothing does.
use Rattle.std.specs.Prelude.{◌≡◌, ℕ, ◌*◌, ◌^◌, ◌<◌, ◌≤◌, ℤ, pos, ◌+ℤ◌, ◌-ℤ◌, ◌≤ℤ◌, ◌<ℤ◌, List, [], ◌∷◌, length, slice_index, slice_index_or, unsigned_abs}
use Rattle.cycle_find.specs.declared.arcs.Arc.{Arc}
use Rattle.cycle_find.specs.declared.arcs.Arcs.{Arcs}

-- a whole number for each node
abbrev pub Numbers : Type 0
Numbers = ℕ → ℤ

abbrev pub numbers_of : List ℤ → Numbers
numbers_of xs = λ v. slice_index_or xs v (pos 0)

-- arc number j
abbrev pub arc_at : List Arc → ℕ → Arc
arc_at arcs j = slice_index_or arcs j (record { from = 0; to = 0; need = pos 0 })

abbrev pub start_of : List Arc → ℕ → ℕ
start_of arcs j = (arc_at arcs j).from

abbrev pub end_of : List Arc → ℕ → ℕ
end_of arcs j = (arc_at arcs j).to

abbrev pub need_of : List Arc → ℕ → ℤ
need_of arcs j = (arc_at arcs j).need

-- arc j asks that its end stands at least its need above its start
abbrev pub Meets : Numbers → List Arc → ℕ → Type 0
Meets x arcs j = need_of arcs j ≤ℤ (x (end_of arcs j) -ℤ x (start_of arcs j))

abbrev pub Solves : Numbers → List Arc → Type 0
Solves x arcs = (j : ℕ) → j < length arcs → Meets x arcs j

abbrev pub IsNonNegative : Numbers → Type 0
IsNonNegative x = (v : ℕ) → pos 0 ≤ℤ x v

-- the solution that is nowhere above any other with no number below 0
pub record IsLeast (x : Numbers) (arcs : List Arc) : Type 0 where
  pub solves : Solves x arcs
  pub non_negative : IsNonNegative x
  pub least : (y : Numbers) → Solves y arcs → IsNonNegative y → (v : ℕ) → x v ≤ℤ y v

-- a walk is a list of arcs, each of which starts where the one before ends
abbrev pub IsWalk : List Arc → ℕ → List ℕ → ℕ → Type 0
IsWalk arcs a [] b = a ≡ b
IsWalk arcs a (j ∷ js) b = (j < length arcs) × (start_of arcs j ≡ a) × IsWalk arcs (end_of arcs j) js b

abbrev pub needs_of : List Arc → List ℕ → ℤ
needs_of arcs [] = pos 0
needs_of arcs (j ∷ js) = need_of arcs j +ℤ needs_of arcs js

-- a walk that enters no node twice
abbrev pub IsSimple : List Arc → List ℕ → Type 0
IsSimple arcs js = (i k : ℕ) → i < length js → k < length js
    → end_of arcs (slice_index js i) ≡ end_of arcs (slice_index js k) → i ≡ k

-- a simple closed walk whose needs sum above 0
pub record IsPositiveCycle (arcs : List Arc) (js : List ℕ) : Type 0 where
  pub closed : (v : ℕ) × IsWalk arcs v js v
  pub simple : IsSimple arcs js
  pub positive : pos 0 <ℤ needs_of arcs js

-- the ends are nodes
abbrev pub EndsInRange : ℕ → List Arc → Type 0
EndsInRange nodes arcs = (j : ℕ) → j < length arcs → (start_of arcs j < nodes) × (end_of arcs j < nodes)

-- no need is of a greater size
abbrev pub NeedsWithin : ℕ → List Arc → Type 0
NeedsWithin size arcs = (j : ℕ) → j < length arcs → unsigned_abs (need_of arcs j) ≤ size

-- the arcs that the solver takes
pub record IsSolvable (arcs : Arcs) : Type 0 where
  pub nodes : arcs.nodes ≤ 2 ^ 16
  pub count : length arcs.list < 2 ^ 32
  pub ends : EndsInRange arcs.nodes arcs.list
  pub needs : (j : ℕ) → j < length arcs.list → arcs.nodes * unsigned_abs (need_of arcs.list j) ≤ 2 ^ 60
