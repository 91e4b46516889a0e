-- What the search for a solution keeps.
use Rattle.std.specs.Prelude.{◌≡◌, ◌≢◌, ℕ, ◌+◌, ◌-◌, ◌<◌, ◌≤◌, Bool, if◌then◌else◌, pos, ◌+ℤ◌, ◌≤ℤ◌, ◌<ℤ◌, List, [], ◌∷◌, length, slice_index}
use Rattle.std.specs.List.{sum}
use Rattle.cycle_find.specs.declared.arcs.Arc.{Arc}
use Rattle.cycle_find.specs.declared.least.SolveError.{SolveError}
use Rattle.cycle_find.specs.declared.least.SolveError.TheVariants.{Cycle, NoMemory}
use Rattle.cycle_find.specs.Constraints.{Numbers, Meets, Solves, IsNonNegative, IsPositiveCycle, start_of, end_of, need_of, needs_of}

pub record IsFirstBroken (x : Numbers) (arcs : List Arc) (j : ℕ) : Type 0 where
  pub arc : j < length arcs
  pub broken : Meets x arcs j → ⊥
  pub before : (i : ℕ) → i < j → Meets x arcs i

-- what the refusal says: a positive cycle, and so no solution
abbrev pub Refutes : List Arc → SolveError → Type 0
Refutes arcs (Cycle c) = IsPositiveCycle arcs c.arcs × ((x : Numbers) → Solves x arcs → ⊥)
Refutes arcs NoMemory = Unit {0}

-- the number of the arc at which a sweep over so many arcs is after so many steps: from the first arc
-- on, or back from the last
abbrev pub place_at : ℕ → Bool → ℕ → ℕ
place_at count back step = if back then count - 1 - step else step

-- numbers so far, not below 0
abbrev pub so_far : List ℕ → Numbers
so_far x = λ v. pos (slice_index x v)

-- node v stands where its arc `via v` put it, or its start has been raised since
pub record HasParent (arcs : List Arc) (x via : List ℕ) (v : ℕ) : Type 0 where
  pub arc : slice_index via v < length arcs
  pub here : end_of arcs (slice_index via v) ≡ v
  pub reached : so_far x v ≤ℤ (so_far x (start_of arcs (slice_index via v)) +ℤ need_of arcs (slice_index via v))

-- a walk back along the arcs by which nodes were raised
abbrev pub IsChain : List Arc → List ℕ → List ℕ → ℕ → List ℕ → ℕ → Type 0
IsChain arcs x via a [] b = a ≡ b
IsChain arcs x via a (j ∷ js) b = (0 < slice_index x a) × (slice_index via a ≡ j) × IsChain arcs x via (start_of arcs j) js b

pub record IsRaised (arcs : List Arc) (x via : List ℕ) : Type 0 where
  pub places : length via ≡ length x
  pub parents : (v : ℕ) → 0 < slice_index x v → HasParent arcs x via v
  pub climbs : (v j : ℕ) (js : List ℕ) → IsChain arcs x via v (j ∷ js) v → pos 0 <ℤ needs_of arcs (j ∷ js)
  pub below : (y : Numbers) → Solves y arcs → IsNonNegative y → (v : ℕ) → so_far x v ≤ℤ y v

-- node v was raised, by no more than its arc asks
pub record Rises (old new : List ℕ) (from to : ℕ) (size : ℕ) : Type 0 where
  pub more : sum old < sum new
  pub others : (v : ℕ) → v ≢ to → slice_index new v ≡ slice_index old v
  pub step : slice_index new to ≤ slice_index old from + size

-- all but one stand within the limit
pub record IsWithinBut (x : List ℕ) (limit size v : ℕ) : Type 0 where
  pub node : v < length x
  pub others : (u : ℕ) → u ≢ v → slice_index x u ≤ limit
  pub last : slice_index x v ≤ limit + size
