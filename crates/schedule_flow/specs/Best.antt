-- On the way to the best times, and why there are none.
use Rattle.cycle_find.specs.Constraints.{Numbers, Solves, IsPositiveCycle}
use Rattle.schedule_problem.specs.declared.problem.Problem.{Problem}
use Rattle.schedule_flow.specs.declared.solver.BestError.{BestError}
use Rattle.schedule_flow.specs.declared.solver.BestError.TheVariants.{Cycle, NoMemory}

-- what the refusal says: a positive cycle, and so no legal times
abbrev pub HasNoTimes : Problem → BestError → Type 0
HasNoTimes p (Cycle c) = IsPositiveCycle p.arcs.list c.arcs × ((x : Numbers) → Solves x p.arcs.list → ⊥)
HasNoTimes p NoMemory = Unit {0}
