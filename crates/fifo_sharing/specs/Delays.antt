-- On the way to the chains: the delays of each producer, and the chains of the producers so far.
use Rattle.std.specs.Prelude.{ℕ, [], ◌↔◌, List, slice_index_or, Contains}
use Rattle.cycle_find.specs.Constraints.{Numbers}
use Rattle.schedule_problem.specs.declared.problem.Problem.{Problem}
use Rattle.fifo_sharing.specs.Chains.{IsDelayOf}

-- list number v has the delays above 0 of the edges of node v
abbrev pub AreDelays : Problem → Numbers → List (List ℕ) → Type 0
AreDelays p x delays = (v delay : ℕ)
    → Contains (slice_index_or delays v []) delay ↔ IsDelayOf p x v delay
