-- Arcs that a guess names.
use Rattle.std.specs.Prelude.{◌≡◌, ◌⊎◌, ℕ, ◌<◌, pos, ◌<ℤ◌, List, length, slice_index}
use Rattle.cycle_find.specs.Constraints.{Numbers, start_of, end_of}
use Rattle.schedule_problem.specs.declared.problem.Problem.{Problem}
use Rattle.schedule_problem.specs.Flow.{Flow}
use Rattle.schedule_flow.specs.Reach.{IsStep}
use Rattle.schedule_flow.specs.Search.{slack_of}

-- arc j leads from u to v, and its need is met with equality
pub record IsFreeArc (p : Problem) (x : Numbers) (j u v : ℕ) : Type 0 where
  pub arc : j < length p.arcs.list
  pub start : start_of p.arcs.list j ≡ u
  pub end : end_of p.arcs.list j ≡ v
  pub free : slack_of p x j ≡ pos 0

-- nodes were reached one after the other over free arcs, the last of them at node v, with places below the count
pub record IsFollowed (p : Problem) (x rest : Numbers) (place via : List ℕ) (count v : ℕ) : Type 0 where
  pub places : length place ≡ p.arcs.nodes
  pub vias : length via ≡ p.arcs.nodes
  pub node : v < p.arcs.nodes
  pub here : 0 < slice_index place v
  pub most : (u : ℕ) → slice_index place u < count
  pub steps : (f : Flow) (u : ℕ) → 0 < slice_index place u → (pos 0 <ℤ rest u) ⊎ IsStep p x f place (slice_index via u) u
