-- Which problems are solved, and what their best times are.
use Rattle.std.specs.Prelude.{◌≡◌, ℕ, ◌^◌, ◌<◌, ◌≤◌, ◌≤ℤ◌, List, length}
use Rattle.cycle_find.specs.declared.arcs.Arc.{Arc}
use Rattle.cycle_find.specs.Constraints.{Numbers, numbers_of, Solves, IsNonNegative, IsSolvable, start_of, end_of}
use Rattle.schedule_problem.specs.declared.problem.Term.{Term}
use Rattle.schedule_problem.specs.declared.problem.Problem.{Problem}
use Rattle.schedule_problem.specs.declared.problem.Answer.{Answer}
use Rattle.schedule_problem.specs.Flow.{flow_of, cost_of, value_of, IsFlow, TermsInRange, term_at}

-- some arc leads from a to b
abbrev pub HasArc : List Arc → ℕ → ℕ → Type 0
HasArc arcs a b = (j : ℕ) × (j < length arcs) × (start_of arcs j ≡ a) × (end_of arcs j ≡ b)

-- a term's own way: one arc where its middle is its end, else one to the middle and one from there
abbrev pub HasRoute : List Arc → Term → Type 0
HasRoute arcs t = (t.mid ≡ t.to → HasArc arcs t.from t.to)
    × ((t.mid ≡ t.to → ⊥) → HasArc arcs t.from t.mid × HasArc arcs t.mid t.to)

-- the problems that can be solved
pub record IsProblem (p : Problem) : Type 0 where
  pub arcs : IsSolvable p.arcs
  pub few : length p.arcs.list < 2 ^ 31
  pub count : length p.terms ≤ 2 ^ 20
  pub ends : TermsInRange p.arcs.nodes p.terms
  pub routes : (t : ℕ) → t < length p.terms → HasRoute p.arcs.list (term_at p.terms t)

-- legal times, and a flow that is worth what they cost
pub record IsBest (p : Problem) (a : Answer) : Type 0 where
  pub nodes : length a.times ≡ p.arcs.nodes
  pub arcs : length a.flow ≡ length p.arcs.list
  pub legal : Solves (numbers_of a.times) p.arcs.list
  pub flow : IsFlow p (flow_of a.flow)
  pub equal : cost_of p (numbers_of a.times) ≡ value_of p (flow_of a.flow)

-- no legal times cost less
abbrev pub IsCheapest : Problem → Numbers → Type 0
IsCheapest p x = (y : Numbers) → Solves y p.arcs.list → cost_of p x ≤ℤ cost_of p y

-- of all legal times of that cost with none below 0, the ones that are nowhere above others
pub record IsEarliest (p : Problem) (x : Numbers) : Type 0 where
  pub non_negative : IsNonNegative x
  pub least : (y : Numbers) → Solves y p.arcs.list → IsNonNegative y → cost_of p y ≡ cost_of p x → (v : ℕ) → x v ≤ℤ y v

-- the times of such an answer cost least
abbrev pub BestAreCheapest : Problem → Type 0
BestAreCheapest p = (a : Answer) → IsBest p a → IsCheapest p (numbers_of a.times)
