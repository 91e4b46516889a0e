-- Times that are lower where arcs start and end.
use Rattle.std.proofs.Common.{
  ◌≡◌,
  ◌≢◌,
  ℕ,
  ◌<◌,
  Bool,
  true,
  false,
  List,
  length,
  subst,
  arith,
  inl,
  inr,
  ◌⊎◌,
}
use Rattle.std.specs.Prelude.{ℤ, pos, ◌-ℤ◌, ◌≤ℤ◌, ◌==◌, if◌then◌else◌}
use Rattle.std.specs.Int.{int_max}
use Rattle.std.proofs.lemmas.Int.{ints, clamps}
use Rattle.std.proofs.lemmas.Bool.{cases_eq}
use Rattle.cycle_find.specs.declared.arcs.Arc.{Arc}
use Rattle.cycle_find.specs.Constraints.{Numbers, Solves, IsNonNegative, start_of, end_of}
use Rattle.schedule_problem.specs.declared.problem.Term.{Term}
use Rattle.schedule_problem.specs.declared.problem.Problem.{Problem}
use Rattle.schedule_problem.specs.Flow.{cost_of, term_cost, term_at, weight_of}
use Rattle.schedule_problem.specs.Optimum.{HasArc, HasRoute, IsProblem, IsCheapest, IsEarliest}
use Rattle.schedule_problem.proofs.Sums.{total-le, picked, passed}
use Rattle.schedule_problem.proofs.Duality.{pos-mul-le}

-- ---- costs

-- y is at most k below x where an arc starts, and at least k below where one ends
pub record IsLower (arcs : List Arc) (k : ℤ) (x y : Numbers) : Type 0 where
  pub starts : (j : ℕ) → j < length arcs → (x (start_of arcs j) -ℤ k) ≤ℤ y (start_of arcs j)
  pub ends : (j : ℕ) → j < length arcs → y (end_of arcs j) ≤ℤ (x (end_of arcs j) -ℤ k)

module _ (arcs : List Arc) (k : ℤ) (x y : Numbers) (lower : IsLower arcs k x y) where
  start_lower : (a b : ℕ) → HasArc arcs a b → (x a -ℤ k) ≤ℤ y a
  start_lower a b h = subst (λ v. (x v -ℤ k) ≤ℤ y v) h.2 (lower.starts h.0 h.1)

  end_lower : (a b : ℕ) → HasArc arcs a b → y b ≤ℤ (x b -ℤ k)
  end_lower a b h = subst (λ v. y v ≤ℤ (x v -ℤ k)) h.3 (lower.ends h.0 h.1)

  -- a term takes no longer
  term_shorter : (t : Term) → HasRoute arcs t → (y t.to -ℤ y t.from) ≤ℤ (x t.to -ℤ x t.from)
  term_shorter t route = by_middle (cases_eq t.mid t.to)
    where
      by_middle : (t.mid ≡ t.to) ⊎ (t.mid ≢ t.to) → (y t.to -ℤ y t.from) ≤ℤ (x t.to -ℤ x t.from)
      by_middle (inl same) =
          let a = start_lower t.from t.to (route.0 same) in
          let b = end_lower t.from t.to (route.0 same) in
          omega (arith, ints, a, b)
      by_middle (inr other) =
          let a = start_lower t.from t.mid (route.1 other).0 in
          let b = end_lower t.mid t.to (route.1 other).1 in
          omega (arith, ints, a, b)

-- such times cost no more
pub costs_no_more : (p : Problem) → IsProblem p → (k : ℤ) (x y : Numbers)
    → IsLower p.arcs.list k x y → cost_of p y ≤ℤ cost_of p x
costs_no_more p solvable k x y lower =
    let sums = total-le (length p.terms) (term_cost p.terms y) (term_cost p.terms x)
    (λ t h. pos-mul-le (weight_of p.terms t) _ _
    (term_shorter p.arcs.list k x y lower (term_at p.terms t) (solvable.routes t h))) in
    omega (arith, ints, sums)

-- ---- the earliest times

module _ (p : Problem) (solvable : IsProblem p) (x : Numbers) (legal : Solves x p.arcs.list)
    (cheapest : IsCheapest p x) (earliest : IsEarliest p x) where
  -- times from 0 that are k lower at the ends of arcs are nowhere below the earliest
  not_below : (k : ℤ) (y : Numbers) → IsNonNegative y
      → ((j : ℕ) → j < length p.arcs.list
      → y (start_of p.arcs.list j) ≡ (x (start_of p.arcs.list j) -ℤ k))
      → ((j : ℕ) → j < length p.arcs.list
      → y (end_of p.arcs.list j) ≡ (x (end_of p.arcs.list j) -ℤ k))
      → (v : ℕ) → x v ≤ℤ y v
  not_below k y low starts ends v =
      let solves : Solves y p.arcs.list = λ j h.
      let l = legal j h in
      let s = starts j h in
      let e = ends j h in
      omega (arith, ints, l, s, e) in
      let most = costs_no_more p solvable k x y (record {
        starts = λ j h. let s = starts j h in omega (arith, ints, s);
        ends = λ j h. let e = ends j h in omega (arith, ints, e);
      }) in
      let least = cheapest y solves in
      earliest.least y solves low (omega (arith, ints, most, least)) v

  -- a number at which no arc starts or ends has time 0
  pub idle_zero : (v : ℕ)
      → ((j : ℕ) → j < length p.arcs.list
      → (start_of p.arcs.list j ≢ v) × (end_of p.arcs.list j ≢ v))
      → x v ≡ pos 0
  idle_zero v apart =
      let y : Numbers = λ u. if u == v then pos 0 else x u in
      let there : (u : ℕ) → u ≢ v → y u ≡ (x u -ℤ pos 0) = λ u d.
      let q : y u ≡ x u = passed u v (pos 0) (x u) d in
      omega (arith, ints, q) in
      let here : y v ≡ pos 0 = picked v v (pos 0) (x v) (omega arith) in
      let b = not_below (pos 0) y (λ u. low u (u == v))
      (λ j h. there (start_of p.arcs.list j) (apart j h).0)
      (λ j h. there (end_of p.arcs.list j) (apart j h).1) v in
      let z = earliest.non_negative v in
      omega (arith, ints, here, b, z)
    where
      low : (u : ℕ) (b : Bool) → pos 0 ≤ℤ (if b then pos 0 else x u)
      low u true = omega (arith, ints)
      low u false = earliest.non_negative u

  -- where no arc starts or ends at time 0, nothing is later
  pub none_later : ((j : ℕ) → j < length p.arcs.list
      → (pos 1 ≤ℤ x (start_of p.arcs.list j)) × (pos 1 ≤ℤ x (end_of p.arcs.list j)))
      → (v : ℕ) → x v ≤ℤ pos 0
  none_later later v =
      let y : Numbers = λ u. int_max (pos 0) (x u -ℤ pos 1) in
      let b = not_below (pos 1) y (λ u. omega (arith, ints, clamps))
      (λ j h. let l = (later j h).0 in omega (arith, ints, clamps, l))
      (λ j h. let l = (later j h).1 in omega (arith, ints, clamps, l)) v in
      let z = earliest.non_negative v in
      omega (arith, ints, clamps, b, z)
