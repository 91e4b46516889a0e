use Rattle.std.proofs.Common.{◌≡◌, ◌≤◌, ◌<◌, ◌-◌, ◌*◌, ◌^◌, ℕ, ℤ, pos, ◌*ℤ◌, nat_abs, to_z, of_z, FitsSigned, ap, sym, ◌∙◌, subst, arith, rules}
use Rattle.std.specs.Int.{w64, w128}
use Rattle.std.proofs.lemmas.Int.{ints, fits_signed_mul, unsigned_abs-mul, to_z-of_z}
use Rattle.std.proofs.Math.Nat.{mul-le-mul_right}
use Rattle.cycle_find.specs.declared.arcs.Arc.{Arc}
use Rattle.dual_check.proofs.value.worth.Goals as goal

-- what the code computes of an amount and a need
abbrev computed : ℕ → ℤ → ℤ
computed w z = to_z w128 w *ℤ to_z w128 (of_z w128 (to_z w64 (of_z w64 z)))

-- it is their product
product_is : (w : ℕ) (z : ℤ) → w < 2 ^ 63 → FitsSigned w64 z → to_z w128 (of_z w128 (computed w z)) ≡ (pos w *ℤ z)
product_is w z a b =
    let e : to_z w128 w ≡ pos w = omega (arith, ints) in
    let f : to_z w128 (of_z w128 (to_z w64 (of_z w64 z))) ≡ z = omega (arith, ints, b) in
    let m : (to_z w128 w *ℤ to_z w128 (of_z w128 (to_z w64 (of_z w64 z)))) ≡ (pos w *ℤ to_z w128 (of_z w128 (to_z w64 (of_z w64 z)))) =
    ap (λ k. k *ℤ to_z w128 (of_z w128 (to_z w64 (of_z w64 z)))) e in
    let small : nat_abs z ≤ 2 ^ 63 = omega (arith, ints, b) in
    let fits : FitsSigned w128 (pos w *ℤ z) = fits_signed_mul w128 (pos w) z (2 ^ 63) (2 ^ 63) (omega arith) small (omega arith) in
    ap (λ k. to_z w128 (of_z w128 k)) (m ∙ ap (λ k. pos w *ℤ k) f) ∙ to_z-of_z w128 (pos w *ℤ z) fits

-- a product is as small as its second factor, times the greatest first one
product_small : (w : ℕ) (z : ℤ) → w < 2 ^ 63 → nat_abs (pos w *ℤ z) ≤ (2 ^ 63 - 1) * nat_abs z
product_small w z a =
    let m : w * nat_abs z ≤ (2 ^ 63 - 1) * nat_abs z = mul-le-mul_right (nat_abs z) (omega arith) in
    omega (arith, m, unsigned_abs-mul (pos w) z)

pub returns-clause-small : goal.returns-clause-small
returns-clause-small c =
    let w = c.args.amount in
    let a = c.arc_number-arc.result in
    let f : FitsSigned w64 a.need = search rules in
    let P : ℤ → Type 0 = λ k. nat_abs k ≤ (2 ^ 63 - 1) * nat_abs a.need in
    let Q : Arc → Type 0 = λ b. nat_abs (to_z w128 (of_z w128 (computed w a.need))) ≤ (2 ^ 63 - 1) * nat_abs b.need in
    subst Q c.arc_number-arc.ensures (subst P (sym (product_is w a.need c.requires.amount f)) (product_small w a.need c.requires.amount))
