-- From numbers that meet all arcs to the least solution.
use Rattle.std.proofs.Common.{◌≡◌, ℕ, zero, suc, ◌*◌, ◌<◌, ◌≤◌, ℤ, List, [], ◌∷◌, length, get_or, sum, sym, subst, arith, zero-le}
use mathlib.Core.Path.{fun_ext}
use Rattle.std.proofs.lemmas.Int.{ints}
use Rattle.std.proofs.lemmas.List.Sums.{sum_by-cons}
use Rattle.cycle_find.specs.declared.arcs.Arc.{Arc}
use Rattle.cycle_find.specs.Constraints.{Numbers, Solves, IsLeast, numbers_of}
use Rattle.cycle_find.specs.Search.{IsRaised, so_far}

pub least_of : (arcs : List Arc) (x via : List ℕ) (y : List ℤ) → IsRaised arcs x via → Solves (so_far x) arcs → ((v : ℕ) → numbers_of y v ≡ so_far x v) → IsLeast (numbers_of y) arcs
least_of arcs x via y r s e =
    let P : Numbers → Type 0 = λ z. IsLeast z arcs in
    let l : IsLeast (so_far x) arcs = record { solves = s; non_negative = λ v. omega (arith, ints); least = r.below } in
    subst P (sym (fun_ext e)) l

pub sum_within : (xs : List ℕ) (n b : ℕ) → length xs ≡ n → ((v : ℕ) → get_or xs v 0 ≤ b) → sum xs ≤ n * b
sum_within [] n b e h = zero-le
sum_within (x ∷ xs) zero b e h = absurd (omega (arith, e))
sum_within (x ∷ xs) (suc n) b e h = omega (arith, sum_by-cons (λ k. k) x xs, h 0, sum_within xs n b (omega (arith, e)) (λ v. h (suc v)))

pub factor_within : (n s b : ℕ) → 0 < n → n * s ≤ b → s ≤ b
factor_within zero s b h k = omega arith
factor_within (suc n) s b h k = omega (arith, k)
