-- Classes that are no project.
use Rattle.std.proofs.Common.{◌≡◌, ◌∙◌, ◌⊎◌, inl, inr, ◌↔◌, ℕ, ◌+◌, ◌-◌, ◌<◌, Bool, true, false, List, [], ◌∷◌, length, count_by, IsTrue, refl, sym, ap, cond, arith, suc}
use Rattle.std.specs.Prelude.{if◌then◌else◌}
use Rattle.std.proofs.lemmas.List.Sums.{sum_by-cons}
use Rattle.maxj_syntax.specs.Tree.{ClassTree, ClassesAre}
use Rattle.maxj_syntax.specs.Faults.{kernels_in, managers_in, has_twins, IsNoProject}
use Rattle.maxj_syntax.specs.Cells.{Cell}
use Rattle.maxj_syntax.specs.declared.tree.Class.{Class}

abbrev pub managers_of : List Class → ℕ
managers_of cs = count_by (λ (c : Class). c.manager) cs

pub record AreCounted (cs : List Class) (ts : List ClassTree) : Type 0 where
  pub managers : managers_in ts ≡ managers_of cs
  pub all : kernels_in ts + managers_in ts ≡ length cs

counted : (nodes : List Cell) (cs : List Class) (ts : List ClassTree) → ClassesAre nodes cs ts → AreCounted cs ts
counted nodes [] [] a = record { managers = refl; all = refl }
counted nodes [] (t ∷ ts) a = absurd a
counted nodes (c ∷ cs) [] a = absurd a
counted nodes (c ∷ cs) (t ∷ ts) a =
    let r = counted nodes cs ts a.1 in
    record {
      managers = more t.manager (managers_in ts) (managers_of cs) r.managers ∙ ap (λ b. cond b 1 0 + managers_of cs) (sym a.0.manager) ∙ sym (sum_by-cons (λ (x : Class). cond x.manager 1 0) c cs);
      all = split t.manager (kernels_in ts) (managers_in ts) (length cs) r.all;
    }
  where
    more : (b : Bool) (m n : ℕ) → m ≡ n → (if b then 1 + m else m) ≡ cond b 1 0 + n
    more true m n e = omega arith
    more false m n e = omega arith

    split : (b : Bool) (k m n : ℕ) → k + m ≡ n → (if b then k else 1 + k) + (if b then 1 + m else m) ≡ suc n
    split true k m n e = omega arith
    split false k m n e = omega arith

-- the counts of kernels and managers are none of a project
abbrev pub AreWrong : ℕ → ℕ → Type 0
AreWrong kernels managers = (kernels ≡ 0) ⊎ ((1 < managers) ⊎ ((1 < kernels) × (managers ≡ 0)))

pub wrong_counts : (nodes : List Cell) (cs : List Class) (ts : List ClassTree) (managers : ℕ)
    → ClassesAre nodes cs ts → managers ≡ managers_of cs
    → AreWrong (length cs - managers) managers → IsNoProject ts
wrong_counts nodes cs ts managers a e w =
    let r = counted nodes cs ts a in
    let m = r.managers in
    let k = r.all in
    elim w [
      | inl h ↦ inl (omega arith)
      | inr v ↦ elim v [
        | inl h ↦ inr (inl (omega arith))
        | inr h ↦ (let (f, g) = h in inr (inr (inr (omega arith, omega arith))))
      ]
    ]

-- where the counts are those of a project, only the names decide
pub names_decide : (nodes : List Cell) (cs : List Class) (ts : List ClassTree) (managers : ℕ)
    → ClassesAre nodes cs ts → managers ≡ managers_of cs
    → (AreWrong (length cs - managers) managers → ⊥) → (twins : Bool) → twins ≡ has_twins ts
    → IsTrue twins ↔ IsNoProject ts
names_decide nodes cs ts managers a e right twins f = (λ h. inr (inr (inl (sym f ∙ h))), names)
  where
    names : IsNoProject ts → IsTrue twins
    names n =
        let r = counted nodes cs ts a in
        let m = r.managers in
        let k = r.all in
        elim n [
          | inl h ↦ absurd (right (inl (omega arith)))
          | inr v ↦ elim v [
            | inl h ↦ absurd (right (inr (inl (omega arith))))
            | inr v ↦ elim v [
              | inl h ↦ f ∙ h
              | inr h ↦ (let (g, q) = h in absurd (right (inr (inr (omega arith, omega arith)))))
            ]
          ]
        ]
