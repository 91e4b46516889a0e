-- What a network in balance shows.
use Rattle.std.proofs.Common.{◌≡◌, ⊎_elim, ℕ, ◌<◌, ◌≤◌, eqb, cond, pos, ◌-ℤ◌, ◌*ℤ◌, ◌≤ℤ◌, length, refl, ap, ◌∙◌, arith}
use Rattle.std.proofs.lemmas.Int.{ints}
use Rattle.std.proofs.lemmas.Bool.{cases_lt}
use Rattle.cycle_find.specs.Constraints.{Numbers, Solves, IsNonNegative, EndsInRange, start_of, end_of}
use Rattle.schedule_problem.specs.declared.problem.Problem.{Problem}
use Rattle.schedule_problem.specs.Flow.{Flow, excess, amount_at, IsFlow, TermsInRange, cost_of, value_of, term_cost, from_of, to_of, weight_of}
use Rattle.schedule_problem.specs.Optimum.{IsProblem, IsCheapest, IsEarliest}
use Rattle.schedule_problem.proofs.Sums.{total-none, total-le, passed}
use Rattle.schedule_problem.proofs.Duality.{pull_of, gap, flows_bound}
use Rattle.schedule_flow.specs.Network.{IsTight, weights}
use Rattle.schedule_flow.proofs.Cuts.{total-equal, tight_equal, equal_tight}

nowhere : (nodes n : ℕ) (place amount : ℕ → ℕ) → ((k : ℕ) → k < n → place k < nodes) → (v : ℕ) → nodes ≤ v → amount_at n place amount v ≡ pos 0
nowhere nodes n place amount h v g = total-none n (λ k. cond (eqb (place k) v) (pos (amount k)) (pos 0)) (λ k l. passed (place k) v (pos (amount k)) (pos 0) (λ q. absurd (omega (arith, q, g, h k l))))

pub balanced : (p : Problem) (f : Flow) → EndsInRange p.arcs.nodes p.arcs.list → TermsInRange p.arcs.nodes p.terms → ((v : ℕ) → v < p.arcs.nodes → excess p f v ≤ℤ pos 0) → IsFlow p f
balanced p f arcs terms down v =
    let n = p.arcs.nodes in
    let one : Numbers = λ u. pos 1 in
    let none : (pos 1 -ℤ pos 1) ≡ pos 0 = omega (arith, ints) in
    let pull = total-none (length p.arcs.list) (pull_of p f one) (λ j l. ap (λ z. pos (f j) *ℤ z) none ∙ omega (arith, ints)) in
    let paid = total-none (length p.terms) (term_cost p.terms one) (λ t l. ap (λ z. pos (weight_of p.terms t) *ℤ z) none ∙ omega (arith, ints)) in
    let zeros = total-none n (λ u. pos 0) (λ u l. refl) in
    let all = gap p f one arcs terms in
    ⊎_elim
    (λ (l : v < n).
    let e = total-equal n (λ u. one u *ℤ excess p f u) (λ u. pos 0) (λ u m. let h = down u m in omega (arith, ints, h)) (omega (arith, ints, all, pull, paid, zeros)) v l in
    omega (arith, ints, e))
    (λ (g : n ≤ v).
    let b = nowhere n (length p.terms) (from_of p.terms) (weight_of p.terms) (λ t m. (terms t m).0) v g in
    let e = nowhere n (length p.terms) (to_of p.terms) (weight_of p.terms) (λ t m. (terms t m).1) v g in
    let s = nowhere n (length p.arcs.list) (start_of p.arcs.list) f (λ j m. (arcs j m).0) v g in
    let t = nowhere n (length p.arcs.list) (end_of p.arcs.list) f (λ j m. (arcs j m).1) v g in
    omega (arith, ints, b, e, s, t))
    (cases_lt v n)

module _ (p : Problem) (f : Flow) (y : Numbers) (problem : IsProblem p) (flow : IsFlow p f) (tight : IsTight p y f) where
  pub equal : cost_of p y ≡ value_of p f
  equal = tight_equal p f y problem.arcs.ends problem.ends flow tight

  pub cheapest : IsCheapest p y
  cheapest z legal = omega (arith, ints, equal, flows_bound p problem.arcs.ends problem.ends z f legal flow)

  pub first_times : IsNonNegative y → ((z : Numbers) → Solves z p.arcs.list → IsTight p z f → IsNonNegative z → (v : ℕ) → y v ≤ℤ z v) → IsEarliest p y
  first_times low least = record {
    non_negative = low;
    least = λ z legal up e v. least z legal (equal_tight p f z problem.arcs.ends problem.ends flow legal (e ∙ equal)) up v;
  }

pub weights_up : (p : Problem) → pos 0 ≤ℤ weights p
weights_up p =
    let n = length p.terms in
    let zeros = total-none n (λ t. pos 0) (λ t l. refl) in
    let up = total-le n (λ t. pos 0) (λ t. pos (weight_of p.terms t)) (λ t l. omega (arith, ints)) in
    omega (arith, ints, zeros, up)
