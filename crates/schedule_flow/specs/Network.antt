-- The residual network of a flow.
use Rattle.std.specs.Prelude.{
  ◌≡◌,
  ℕ,
  ◌+◌,
  ◌-◌,
  ◌*◌,
  ◌/◌,
  ◌%◌,
  ◌^◌,
  ◌<◌,
  ◌≤◌,
  ◌==◌,
  ◌⊎◌,
  negsuc,
  if◌then◌else◌,
  ℤ,
  pos,
  ◌+ℤ◌,
  ◌-ℤ◌,
  ◌≤ℤ◌,
  List,
  length,
  slice_index,
}
use Rattle.std.specs.List.{sum_by}
use Rattle.cycle_find.specs.declared.arcs.Arc.{Arc}
use Rattle.cycle_find.specs.Constraints.{Numbers, numbers_of, EndsInRange, start_of, end_of, need_of}
use Rattle.schedule_problem.specs.declared.problem.Problem.{Problem}
use Rattle.schedule_problem.specs.Flow.{Flow, flow_of, total, weight_of, excess}

-- what contracts see of a network: its problem, its flow and how often it was sent along a path
pub record Network : Type 0 where
  pub problem : Problem
  pub flow : List ℕ
  pub sends : ℕ

-- number 2 j is arc j forwards, and 2 j + 1 is arc j backwards
abbrev pub tail_of : List Arc → ℕ → ℕ
tail_of arcs r = if (r % 2 == 0) then start_of arcs (r / 2) else end_of arcs (r / 2)

abbrev pub head_of : List Arc → ℕ → ℕ
head_of arcs r = if (r % 2 == 0) then end_of arcs (r / 2) else start_of arcs (r / 2)

-- forwards there is always room, backwards as much as the arc carries
abbrev pub HasRoom : List Arc → Flow → ℕ → ℕ → Type 0
HasRoom arcs f amount r = (r / 2 < length arcs) × (r % 2 ≡ 1 → amount ≤ f (r / 2))

-- each arc of the path starts where the one before ends
abbrev pub IsLinked : List Arc → List ℕ → Type 0
IsLinked arcs path = (k : ℕ) → k + 1 < length path → head_of arcs (slice_index path k) ≡ tail_of arcs (slice_index path (k + 1))

abbrev pub IsDistinct : List ℕ → Type 0
IsDistinct path = (i k : ℕ) → i < length path → k < length path → slice_index path i ≡ slice_index path k → i ≡ k

-- the sum of the terms' weights
abbrev pub weights : Problem → ℤ
weights p = total (length p.terms) (λ t. pos (weight_of p.terms t))

-- where an arc carries something, its need is met with equality
abbrev pub IsTight : Problem → Numbers → Flow → Type 0
IsTight p x f = (j : ℕ) → j < length p.arcs.list → 0 < f j → (x (end_of p.arcs.list j) -ℤ x (start_of p.arcs.list j)) ≡ need_of p.arcs.list j

-- the amount at node a, and 0 elsewhere
abbrev pub at_node : ℕ → ℕ → ℕ → ℤ
at_node a amount v = if (a == v) then pos amount else pos 0

-- z, or 0 where z is below 0
abbrev pub above_zero : ℤ → ℤ
above_zero (pos n) = pos n
above_zero (negsuc n) = pos 0

-- what all nodes together still have to send
abbrev pub unsent : Problem → Flow → ℤ
unsent p f = total p.arcs.nodes (λ v. above_zero (excess p f v))

-- what a network keeps
pub record IsKept (p : Problem) (flow : List ℕ) (rest : List ℤ) (sends moved : ℕ) : Type 0 where
  pub arcs : length flow ≡ length p.arcs.list
  pub nodes : length rest ≡ p.arcs.nodes
  pub ends : EndsInRange p.arcs.nodes p.arcs.list
  pub light : weights p ≤ℤ pos (2 ^ 52)
  pub excesses : (v : ℕ) → numbers_of rest v ≡ excess p (flow_of flow) v
  pub carried : (j : ℕ) → flow_of flow j ≤ moved
  pub counted : sends ≤ moved
  pub budget : (pos moved +ℤ unsent p (flow_of flow)) ≤ℤ weights p

-- first and last node of a path
abbrev pub first_of : List Arc → List ℕ → ℕ
first_of arcs path = tail_of arcs (slice_index path 0)

abbrev pub last_of : List Arc → List ℕ → ℕ
last_of arcs path = head_of arcs (slice_index path (length path - 1))

-- a path of residual arcs that can take the amount
pub record IsPath (p : Problem) (f : Flow) (path : List ℕ) (amount : ℕ) : Type 0 where
  pub some : 0 < length path
  pub linked : IsLinked p.arcs.list path
  pub distinct : IsDistinct path
  pub room : (k : ℕ) → k < length path → HasRoom p.arcs.list f amount (slice_index path k)
  pub positive : 0 < amount
  pub surplus : pos amount ≤ℤ excess p f (first_of p.arcs.list path)
  pub want : (excess p f (last_of p.arcs.list path) +ℤ pos amount) ≤ℤ pos 0

-- what an amount comes to over residual arc r, once for each time that the path goes over it
abbrev pub sent_over : List ℕ → ℕ → ℕ → ℕ
sent_over path amount r = sum_by (λ q. if (q == r) then amount else 0) path

-- the amount was sent along the path: each arc carries so much more than before where the path goes
-- over it forwards, and so much less where it goes over it backwards
pub record IsSent (p : Problem) (old new : Flow) (path : List ℕ) (amount : ℕ) : Type 0 where
  pub excesses : (v : ℕ) → excess p new v ≡ ((excess p old v -ℤ at_node (first_of p.arcs.list path) amount v) +ℤ at_node (last_of p.arcs.list path) amount v)
  pub amounts : (j : ℕ) → pos (new j)
      ≡ ((pos (old j) +ℤ pos (sent_over path amount (2 * j))) -ℤ pos (sent_over path amount (2 * j + 1)))
  pub used : (j : ℕ) → 0 < new j → (0 < old j) ⊎ ((k : ℕ) × (k < length path) × (slice_index path k ≡ 2 * j))
