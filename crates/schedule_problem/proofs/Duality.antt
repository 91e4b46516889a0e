-- Flows bound costs.
use Rattle.std.proofs.Common.{◌≡◌, ℕ, zero, suc, ℤ, pos, ◌-ℤ◌, ◌*ℤ◌, ◌≤ℤ◌, length, ap, ◌∙◌, arith}
use Rattle.std.proofs.lemmas.Int.{ints}
use Rattle.cycle_find.specs.Constraints.{Numbers, EndsInRange, start_of, end_of, need_of}
use Rattle.schedule_problem.specs.declared.problem.Problem.{Problem}
use Rattle.schedule_problem.specs.Flow.{total, amount_at, Flow, sent, taken, excess, IsFlow, flow_of, term_cost, from_of, to_of, weight_of, TermsInRange, FlowsBoundCosts}
use Rattle.schedule_problem.specs.Optimum.{BestAreCheapest}
use Rattle.schedule_problem.proofs.Sums.{mul-sub, total-same, total-sub, total-le, total-none, spread}

-- what a flow gains along the numbers
abbrev pub pull_of : Problem → Flow → Numbers → ℕ → ℤ
pull_of p f x j = pos (f j) *ℤ (x (end_of p.arcs.list j) -ℤ x (start_of p.arcs.list j))

module _ (p : Problem) (f : Flow) (x : Numbers) (arcs : EndsInRange p.arcs.nodes p.arcs.list) (terms : TermsInRange p.arcs.nodes p.terms) where
  -- what is left to send, times the numbers, is what the flow gains less what the terms cost
  pub gap : total p.arcs.nodes (λ v. x v *ℤ excess p f v) ≡ (total (length p.arcs.list) (pull_of p f x) -ℤ total (length p.terms) (term_cost p.terms x))
  gap =
      let n = p.arcs.nodes in
      let m = length p.arcs.list in
      let k = length p.terms in
      let B : ℕ → ℤ = amount_at k (from_of p.terms) (weight_of p.terms) in
      let E : ℕ → ℤ = amount_at k (to_of p.terms) (weight_of p.terms) in
      let S : ℕ → ℤ = sent p f in
      let T : ℕ → ℤ = taken p f in
      let parts = total-same n (λ v. x v *ℤ excess p f v)
      (λ v. (x v *ℤ B v -ℤ x v *ℤ E v) -ℤ (x v *ℤ S v -ℤ x v *ℤ T v)) (λ v l. omega (
        arith,
        ints,
        mul-sub (x v) (B v -ℤ E v) (S v -ℤ T v),
        mul-sub (x v) (B v) (E v),
        mul-sub (x v) (S v) (T v),
      )) in
      let split = total-sub n (λ v. x v *ℤ B v -ℤ x v *ℤ E v) (λ v. x v *ℤ S v -ℤ x v *ℤ T v) in
      let split1 = total-sub n (λ v. x v *ℤ B v) (λ v. x v *ℤ E v) in
      let split2 = total-sub n (λ v. x v *ℤ S v) (λ v. x v *ℤ T v) in
      let b = spread n k (from_of p.terms) (weight_of p.terms) x (λ t l. (terms t l).0) in
      let e = spread n k (to_of p.terms) (weight_of p.terms) x (λ t l. (terms t l).1) in
      let s = spread n m (start_of p.arcs.list) f x (λ j l. (arcs j l).0) in
      let t = spread n m (end_of p.arcs.list) f x (λ j l. (arcs j l).1) in
      let pull = total-same m (pull_of p f x) (λ j. pos (f j) *ℤ x (end_of p.arcs.list j) -ℤ pos
      (f j) *ℤ x (start_of p.arcs.list j)) (λ j l. mul-sub (pos (f j))
      (x (end_of p.arcs.list j)) (x (start_of p.arcs.list j))) in
      let pull' = total-sub m (λ j. pos (f j) *ℤ x (end_of p.arcs.list j)) (λ j. pos (f j) *ℤ x (start_of p.arcs.list j)) in
      let cost = total-same k (term_cost p.terms x) (λ j. pos (weight_of p.terms j) *ℤ x
      (to_of p.terms j) -ℤ pos (weight_of p.terms j) *ℤ x (from_of p.terms j))
      (λ j l. mul-sub (pos (weight_of p.terms j)) (x (to_of p.terms j))
      (x (from_of p.terms j))) in
      let cost' = total-sub k (λ j. pos (weight_of p.terms j) *ℤ x (to_of p.terms j)) (λ j. pos (weight_of p.terms j) *ℤ x (from_of p.terms j)) in
      omega (arith, ints, parts, split, split1, split2, b, e, s, t, pull, pull', cost, cost')

  -- of a flow, the terms cost what it gains
  pub pull_is_cost : IsFlow p f → total (length p.arcs.list) (pull_of p f x) ≡ total (length p.terms) (term_cost p.terms x)
  pull_is_cost h =
      let none = total-none p.arcs.nodes (λ v. x v *ℤ excess p f v) (λ v l.
      let z : excess p f v ≡ pos 0 = omega (arith, ints, h v) in
      ap (λ y. x v *ℤ y) z ∙ omega (arith, ints)) in
      omega (arith, ints, none, gap)

pub pos-mul-le : (n : ℕ) (a b : ℤ) → a ≤ℤ b → (pos n *ℤ a) ≤ℤ (pos n *ℤ b)
pos-mul-le zero a b h = omega (arith, ints)
pos-mul-le (suc n) a b h = omega (arith, ints, h, pos-mul-le n a b h)

pub flows_bound : (p : Problem) → EndsInRange p.arcs.nodes p.arcs.list → TermsInRange p.arcs.nodes p.terms → FlowsBoundCosts p
flows_bound p arcs terms x f legal flow =
    let least = total-le (length p.arcs.list) (λ j. pos (f j) *ℤ need_of p.arcs.list j)
    (pull_of p f x) (λ j l. pos-mul-le (f j) (need_of p.arcs.list j)
    (x (end_of p.arcs.list j) -ℤ x (start_of p.arcs.list j)) (legal j l)) in
    omega (arith, ints, least, pull_is_cost p f x arcs terms flow)

-- what an answer's flow is worth is a bound that its times meet
pub best_cheapest : (p : Problem) → EndsInRange p.arcs.nodes p.arcs.list → TermsInRange p.arcs.nodes p.terms → BestAreCheapest p
best_cheapest p arcs terms a b y legal =
    omega (arith, ints, b.equal, flows_bound p arcs terms y (flow_of a.flow) legal b.flow)
