-- Costs of times, and the flows that bound them from below.
use Rattle.std.specs.Prelude.{◌≡◌, ℕ, zero, suc, ◌<◌, ◌==◌, if◌then◌else◌, ℤ, pos, ◌+ℤ◌, ◌-ℤ◌, ◌*ℤ◌, ◌≤ℤ◌, List, length, slice_index, slice_index_or}
use Rattle.cycle_find.specs.Constraints.{Numbers, Solves, start_of, end_of, need_of}
use Rattle.schedule_problem.specs.declared.problem.Term.{Term}
use Rattle.schedule_problem.specs.declared.problem.Problem.{Problem}

-- the sum of g over the numbers below n
abbrev pub total : ℕ → (ℕ → ℤ) → ℤ
total zero g = pos 0
total (suc n) g = total n g +ℤ g n

-- term number t
abbrev pub term_at : List Term → ℕ → Term
term_at terms t = slice_index_or terms t (record { from = 0; to = 0; weight = 0; mid = 0 })

abbrev pub from_of : List Term → ℕ → ℕ
from_of terms t = (term_at terms t).from

abbrev pub to_of : List Term → ℕ → ℕ
to_of terms t = (term_at terms t).to

abbrev pub weight_of : List Term → ℕ → ℕ
weight_of terms t = (term_at terms t).weight

-- a term costs its weight times the time from its start to its end
abbrev pub term_cost : List Term → Numbers → ℕ → ℤ
term_cost terms x t = pos (weight_of terms t) *ℤ (x (to_of terms t) -ℤ x (from_of terms t))

abbrev pub cost_of : Problem → Numbers → ℤ
cost_of p x = total (length p.terms) (term_cost p.terms x) -ℤ pos p.base

-- what each arc carries
abbrev pub Flow : Type 0
Flow = ℕ → ℕ

abbrev pub flow_of : List ℕ → Flow
flow_of f = λ j. slice_index f j

abbrev pub value_of : Problem → Flow → ℤ
value_of p f = total (length p.arcs.list) (λ j. pos (f j) *ℤ need_of p.arcs.list j) -ℤ pos p.base

-- the sum of the amounts, below number n, whose place is v
abbrev pub amount_at : ℕ → (ℕ → ℕ) → (ℕ → ℕ) → ℕ → ℤ
amount_at n place amount v = total n (λ k. if (place k == v) then pos (amount k) else pos 0)

abbrev pub sent : Problem → Flow → ℕ → ℤ
sent p f v = amount_at (length p.arcs.list) (start_of p.arcs.list) f v

abbrev pub taken : Problem → Flow → ℕ → ℤ
taken p f v = amount_at (length p.arcs.list) (end_of p.arcs.list) f v

-- the weight of the terms that begin at v, less that of the terms that end there
abbrev pub surplus : Problem → ℕ → ℤ
surplus p v = amount_at (length p.terms) (from_of p.terms) (weight_of p.terms) v -ℤ amount_at (length p.terms) (to_of p.terms) (weight_of p.terms) v

-- each node sends its surplus more than it takes
abbrev pub IsFlow : Problem → Flow → Type 0
IsFlow p f = (v : ℕ) → (sent p f v -ℤ taken p f v) ≡ surplus p v

-- what a node still has to send, or below 0 to take
abbrev pub excess : Problem → Flow → ℕ → ℤ
excess p f v = surplus p v -ℤ (sent p f v -ℤ taken p f v)

-- ends of terms are nodes
abbrev pub TermsInRange : ℕ → List Term → Type 0
TermsInRange nodes terms = (t : ℕ) → t < length terms → (from_of terms t < nodes) × (to_of terms t < nodes)

-- no flow is worth more than any legal times cost
abbrev pub FlowsBoundCosts : Problem → Type 0
FlowsBoundCosts p = (x : Numbers) (f : Flow) → Solves x p.arcs.list → IsFlow p f → value_of p f ≤ℤ cost_of p x
