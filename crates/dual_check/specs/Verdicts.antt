-- What is said of an answer to a problem of times: whether its flow shows that its times cost least.
use Rattle.std.specs.Prelude.{◌≡◌, ◌≢◌, ℕ, ℤ, ◌*◌, ◌^◌, ◌<◌, ◌≤◌, length, unsigned_abs}
use Rattle.cycle_find.specs.Constraints.{numbers_of, Solves, EndsInRange, NeedsWithin}
use Rattle.cycle_find.specs.Search.{IsFirstBroken}
use Rattle.schedule_problem.specs.declared.problem.Problem.{Problem}
use Rattle.schedule_problem.specs.declared.problem.Answer.{Answer}
use Rattle.schedule_problem.specs.Flow.{flow_of, cost_of, value_of, excess, IsFlow, TermsInRange}
use Rattle.schedule_problem.specs.Optimum.{IsBest}
use Rattle.dual_check.specs.Balance.{IsFirstOther}
use Rattle.dual_check.specs.declared.verdict.Verdict.{Verdict}
use Rattle.dual_check.specs.declared.verdict.Verdict.TheVariants as V

-- An answer with numbers for all nodes and arcs of a problem, none of which is too large for the
-- sums of a check.
pub record IsCheckable (p : Problem) (a : Answer) : Type 0 where
  pub few : length p.arcs.list < 2 ^ 32
  pub ends : EndsInRange p.arcs.nodes p.arcs.list
  pub few_terms : length p.terms ≤ 2 ^ 20
  pub term_ends : TermsInRange p.arcs.nodes p.terms
  pub size : ℕ
  pub needs : NeedsWithin size p.arcs.list
  pub small : length p.arcs.list * size ≤ 2 ^ 64
  pub times : length a.times ≡ p.arcs.nodes
  pub flow : length a.flow ≡ length p.arcs.list
  pub near : (v : ℕ) → unsigned_abs (numbers_of a.times v) ≤ 2 ^ 60
  pub carried : (j : ℕ) → flow_of a.flow j < 2 ^ 63

-- the times are legal
abbrev pub IsLegal : Problem → Answer → Type 0
IsLegal p a = Solves (numbers_of a.times) p.arcs.list

-- the first node that sends another surplus than its own
pub record IsFirstUnbalanced (p : Problem) (a : Answer) (v : ℕ) : Type 0 where
  pub legal : IsLegal p a
  pub first : IsFirstOther (excess p (flow_of a.flow)) p.arcs.nodes v

-- the times are legal and the flow is one, and they cost another sum than it is worth
pub record AreApart (p : Problem) (a : Answer) (cost value : ℤ) : Type 0 where
  pub legal : IsLegal p a
  pub balanced : IsFlow p (flow_of a.flow)
  pub costs : cost ≡ cost_of p (numbers_of a.times)
  pub worth : value ≡ value_of p (flow_of a.flow)
  pub apart : cost ≢ value

-- The verdict on an answer. `Good` stands exactly where its times are legal, its flow is one, and
-- the times cost what the flow is worth; so no legal times cost less.
abbrev pub IsVerdict : Problem → Answer → Verdict → Type 0
IsVerdict p a V.Good = IsBest p a
IsVerdict p a (V.BadTimes arc) = IsFirstBroken (numbers_of a.times) p.arcs.list arc
IsVerdict p a (V.BadFlow node) = IsFirstUnbalanced p a node
IsVerdict p a (V.CostsDiffer cost value) = AreApart p a cost value
