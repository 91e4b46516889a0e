use Rattle.std.proofs.Common.{◌≡◌, ◌≤◌, ◌<◌, ◌*◌, ◌^◌, ℕ, ℤ, pos, ◌*ℤ◌, ◌-ℤ◌, nat_abs, to_z, of_z, FitsSigned, ap, sym, ◌∙◌, subst, arith, rules, lit<}
use Rattle.std.specs.Int.{w128}
use Rattle.std.proofs.lemmas.Int.{ints, fits_signed_mul, unsigned_abs-mul, to_z-of_z}
use Rattle.std.proofs.Math.Nat.{mul-le-mul}
use Rattle.cycle_find.specs.Constraints.{numbers_of}
use Rattle.schedule_problem.specs.declared.problem.Term.{Term}
use Rattle.schedule_problem.proofs.costs.price.Goals as goal

product_small : (w : ℕ) (z : ℤ) → w < 2 ^ 32 → nat_abs z ≤ 2 ^ 62 → nat_abs (pos w *ℤ z) ≤ 2 ^ 94
product_small w z a b =
    let m : w * nat_abs z ≤ 2 ^ 32 * 2 ^ 62 = mul-le-mul {n₂ = 2 ^ 32} {m₂ = 2 ^ 62} (omega arith) b in
    omega (arith, m, unsigned_abs-mul (pos w) z)

-- what the code computes is the product
computed : (w : ℕ) (z : ℤ) → w < 2 ^ 32 → nat_abs z ≤ 2 ^ 62 → (to_z w128 w *ℤ to_z w128 (of_z w128 z)) ≡ (pos w *ℤ z)
computed w z a b =
    let e : to_z w128 w ≡ pos w = omega (arith, ints) in
    let f : to_z w128 (of_z w128 z) ≡ z = omega (arith, ints) in
    ap (λ k. k *ℤ to_z w128 (of_z w128 z)) e ∙ ap (λ k. pos w *ℤ k) f

product_fits : (w : ℕ) (z : ℤ) → w < 2 ^ 32 → nat_abs z ≤ 2 ^ 62 → FitsSigned w128 (to_z w128 w *ℤ to_z w128 (of_z w128 z))
product_fits w z a b =
    let P : ℤ → Type 0 = λ k. FitsSigned w128 k in
    let s = product_small w z a b in
    let f : FitsSigned w128 (pos w *ℤ z) = fits_signed_mul w128 (pos w) z (2 ^ 32) (2 ^ 62) (omega arith) b (lit< tt) in
    subst P (sym (computed w z a b)) f

product_is : (w : ℕ) (z : ℤ) → w < 2 ^ 32 → nat_abs z ≤ 2 ^ 62 → to_z w128 (of_z w128 (to_z w128 w *ℤ to_z w128 (of_z w128 z))) ≡ (pos w *ℤ z)
product_is w z a b = to_z-of_z w128 (to_z w128 w *ℤ to_z w128 (of_z w128 z)) (product_fits w z a b) ∙ computed w z a b

pub overflow_mul-result : goal.overflow_mul-result
overflow_mul-result c =
    let f : c.term_number-term.result.weight < 2 ^ 32 = search rules in
    product_fits c.term_number-term.result.weight c.stretch.result f c.stretch.ensures.small

pub returns-clause-cost : goal.returns-clause-cost
returns-clause-cost c =
    let a = c.term_number-term.result in
    let x = numbers_of c.args.times.now in
    let f : a.weight < 2 ^ 32 = search rules in
    let P : Term → Type 0 = λ b. (pos a.weight *ℤ c.stretch.result) ≡ (pos b.weight *ℤ (x b.to -ℤ x b.from)) in
    product_is a.weight c.stretch.result f c.stretch.ensures.small ∙ subst P c.term_number-term.ensures (ap (λ z. pos a.weight *ℤ z) c.stretch.ensures.time)

pub returns-clause-small : goal.returns-clause-small
returns-clause-small c =
    let a = c.term_number-term.result in
    let f : a.weight < 2 ^ 32 = search rules in
    let P : ℤ → Type 0 = λ k. nat_abs k ≤ 2 ^ 94 in
    subst P (sym (product_is a.weight c.stretch.result f c.stretch.ensures.small)) (product_small a.weight c.stretch.result f c.stretch.ensures.small)
