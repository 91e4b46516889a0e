-- Nodes reached from the nodes with a surplus over arcs that cost nothing.
use Rattle.std.specs.Prelude.{◌≡◌, ◌⊎◌, ℕ, ◌/◌, ◌%◌, ◌<◌, pos, ◌-ℤ◌, ◌<ℤ◌, List, length, slice_index}
use Rattle.cycle_find.specs.Constraints.{Numbers, start_of, end_of, need_of}
use Rattle.schedule_problem.specs.declared.problem.Problem.{Problem}
use Rattle.schedule_problem.specs.Flow.{Flow}
use Rattle.schedule_flow.specs.Network.{tail_of, head_of}

-- forwards the arc's need is met with equality, backwards it carries something
abbrev pub IsFree : Problem → Numbers → Flow → ℕ → Type 0
IsFree p x f r = (r % 2 ≡ 0 → (x (end_of p.arcs.list (r / 2)) -ℤ x (start_of p.arcs.list (r / 2))) ≡ need_of p.arcs.list (r / 2))
    × (r % 2 ≡ 1 → 0 < f (r / 2))

-- node v was reached over a free residual arc, from a node that was reached before it
pub record IsStep (p : Problem) (x : Numbers) (f : Flow) (place : List ℕ) (r v : ℕ) : Type 0 where
  pub arc : r / 2 < length p.arcs.list
  pub here : head_of p.arcs.list r ≡ v
  pub from : 0 < slice_index place (tail_of p.arcs.list r)
  pub earlier : slice_index place (tail_of p.arcs.list r) < slice_index place v
  pub free : IsFree p x f r

-- a reached node has a place from 1; it has a surplus, or was reached by the arc that stands beside it
pub record IsReached (p : Problem) (x : Numbers) (f : Flow) (rest : Numbers) (place via : List ℕ) : Type 0 where
  pub places : length place ≡ p.arcs.nodes
  pub vias : length via ≡ p.arcs.nodes
  pub steps : (v : ℕ) → 0 < slice_index place v → (pos 0 <ℤ rest v) ⊎ IsStep p x f place (slice_index via v) v

-- a reached node that wants something
pub record IsWanting (place : List ℕ) (rest : Numbers) (v : ℕ) : Type 0 where
  pub node : v < length place
  pub reached : 0 < slice_index place v
  pub want : rest v <ℤ pos 0
