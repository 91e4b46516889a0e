-- The times from which flow is sent.
use Rattle.std.specs.Prelude.{◌≡◌, ℕ, ◌^◌, ℤ, pos, ◌≤ℤ◌, List, length}
use Rattle.cycle_find.specs.Constraints.{numbers_of, Solves}
use Rattle.schedule_problem.specs.declared.problem.Problem.{Problem}

-- legal times, none below 0 or above 2^60
pub record IsStart (p : Problem) (times : List ℤ) : Type 0 where
  pub nodes : length times ≡ p.arcs.nodes
  pub legal : Solves (numbers_of times) p.arcs.list
  pub low : (v : ℕ) → pos 0 ≤ℤ numbers_of times v
  pub high : (v : ℕ) → numbers_of times v ≤ℤ pos (2 ^ 60)
