-- An arc as it was read, and in its list.
use Rattle.std.proofs.Common.{◌≡◌, ℕ, ◌-ℤ◌, ◌≤ℤ◌, List, sym, ap, ◌∙◌, subst}
use Rattle.cycle_find.specs.declared.arcs.Arc.{Arc}
use Rattle.cycle_find.specs.Constraints.{Numbers, Meets, arc_at}

pub meets_read : (list arcs : List Arc) (x : Numbers) (j : ℕ) (a : Arc) → list ≡ arcs → a ≡ arc_at list j → Meets x arcs j → a.need ≤ℤ (x a.to -ℤ x a.from)
meets_read list arcs x j a p q m =
    let P : Arc → Type 0 = λ b. b.need ≤ℤ (x b.to -ℤ x b.from) in
    subst P (sym (q ∙ ap (λ l. arc_at l j) p)) m

pub read_meets : (list arcs : List Arc) (x : Numbers) (j : ℕ) (a : Arc) → list ≡ arcs → a ≡ arc_at list j → a.need ≤ℤ (x a.to -ℤ x a.from) → Meets x arcs j
read_meets list arcs x j a p q m =
    let P : Arc → Type 0 = λ b. b.need ≤ℤ (x b.to -ℤ x b.from) in
    subst P (q ∙ ap (λ l. arc_at l j) p) m
