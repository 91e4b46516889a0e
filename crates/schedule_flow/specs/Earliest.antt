-- The constraints of a problem, and equality where a flow carries something.
use Rattle.std.specs.Prelude.{ℕ, ◌<◌, ◌≤◌, ◌*◌, neg_ℤ, unsigned_abs, List, length}
use Rattle.cycle_find.specs.declared.arcs.Arc.{Arc}
use Rattle.cycle_find.specs.Constraints.{Numbers, Solves, need_of}
use Rattle.schedule_problem.specs.declared.problem.Problem.{Problem}
use Rattle.schedule_problem.specs.Flow.{Flow}
use Rattle.schedule_flow.specs.Network.{IsTight}

-- the arc turned round
abbrev pub turned_arc : Arc → Arc
turned_arc a = record { from = a.to; to = a.from; need = neg_ℤ a.need }

-- c times the size of each need is within the size
abbrev pub SizesWithin : ℕ → ℕ → List Arc → Type 0
SizesWithin c size arcs = (j : ℕ) → j < length arcs → c * unsigned_abs (need_of arcs j) ≤ size

pub record IsTightened (p : Problem) (f : Flow) (list : List Arc) : Type 0 where
  pub legal : (y : Numbers) → Solves y list → Solves y p.arcs.list
  pub tight : (y : Numbers) → Solves y list → IsTight p y f
  pub solves : (y : Numbers) → Solves y p.arcs.list → IsTight p y f → Solves y list
