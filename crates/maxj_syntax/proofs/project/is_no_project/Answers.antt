use Rattle.std.proofs.Common.{◌∙◌, ◌-◌, length, inl, inr, refl, sym, ap, subst, arith}
use Rattle.std.proofs.lemmas.Result.{IfOk-weaker}
use Rattle.maxj_syntax.specs.Tree.{ClassesAre}
use Rattle.maxj_syntax.proofs.Projects.{managers_of, AreWrong, wrong_counts, names_decide}
use Rattle.maxj_syntax.proofs.project.is_no_project.Goals as goal
use Rattle.maxj_syntax.proofs.project.is_no_project.Goals.{then-kernels-eq0-via-then-kernels-eq0}
use Rattle.maxj_syntax.proofs.project.is_no_project.Goals.{then-kernels-eq0-via-else-kernels-eq0+then-managers-gt1}
use Rattle.maxj_syntax.proofs.project.is_no_project.Goals.{then-kernels-eq0-via-else-kernels-eq0+else-managers-gt1+then-managers-eq0}
use Rattle.maxj_syntax.proofs.project.is_no_project.Goals.{then-kernels-gt1, else-kernels-gt1}

pub returns-then-kernels-eq0 : goal.returns-then-kernels-eq0
returns-then-kernels-eq0 c = λ classes a.
    let m = c.managers-managers.result in
    let cs = c.args.program.now.classes in
    let e = c.managers-managers.ensures ∙ ap managers_of c.as_slice-classes.ensures in
    let size = ap length c.as_slice-classes.ensures in (
      λ _. wrong_counts c.args.program.now.tree cs classes m a e (
          elim c.then-kernels-eq0.branch [
            | then-kernels-eq0-via-then-kernels-eq0 w ↦ inl (omega arith)
            | then-kernels-eq0-via-else-kernels-eq0+then-managers-gt1 w ↦ inr (inl (omega arith))
            | then-kernels-eq0-via-else-kernels-eq0+else-managers-gt1+then-managers-eq0 w ↦ (let (f, g) = w.if-managers-eq0.true in inr (inr (omega arith, g)))
          ]),
      λ _. refl,
    )

pub returns : goal.returns
returns c =
    let m = c.managers-managers.result in
    let cs = c.args.program.now.classes in
    let e = c.managers-managers.ensures ∙ ap managers_of c.as_slice-classes.ensures in
    let size = ap length c.as_slice-classes.ensures in
    let right : AreWrong (length cs - m) m → ⊥ = λ w. elim w [
      | inl h ↦ c.if-kernels-eq0.false (omega arith)
      | inr v ↦ elim v [
        | inl h ↦ omega (arith, c.if-managers-gt1.false)
        | inr h ↦ elim c.if-managers-eq0.either [ inl f ↦ f.1 h.1 | inr f ↦ omega (arith, h.0) ]
      ]
    ] in
    IfOk-weaker c.has_twins.result _ _
    (λ twins f. λ classes a. names_decide c.args.program.now.tree cs classes m a e right
    twins (f c.args.program.now.tree classes (subst
    (λ l. ClassesAre c.args.program.now.tree l classes)
    (sym c.as_slice-classes.ensures) a))) c.has_twins.ensures
