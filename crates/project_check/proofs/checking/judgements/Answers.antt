use Rattle.std.proofs.Common.{◌≡◌, ◌<◌, ◌≤◌, ℕ, ◌++◌, ◌∷◌, [], length, take, get_or, ap, sym, subst, ◌∙◌, arith}
use Rattle.std.proofs.lemmas.List.{length-take-le}
use Rattle.schedule_report.specs.Reports.{IsKernelPart}
use Rattle.project_check.specs.Checked.{IsProblemOf, AreJudged}
use Rattle.project_check.proofs.Judged.{judged_none, judged_more, judged_past}
use Rattle.project_check.proofs.Pieces.{take_read, zip_length, zip_read}
use Rattle.project_check.proofs.checking.judgements.Goals as goal
use Rattle.project_check.proofs.checking.judgements.Goals.{
  then-number-kernels+in_ok-judge+in_ok-push,
  else-number-kernels,
}

below : {i n : ℕ} → i < n → i ≤ n
below lt = omega arith

pub loop-number-init : goal.loop-number-init
loop-number-init c =
    subst (AreJudged c.args.table.now c.args.kernels.now []) (sym c.new-all.ensures.items)
    (judged_none c.args.table.now c.args.kernels.now)

pub bounds-problems-number : goal.bounds-problems-number
bounds-problems-number c =
    subst (λ n. c.loop-number.number < n)
    (zip_length (IsProblemOf c.args.table.now) c.args.kernels.now c.args.problems.now c.requires.problems)
    c.if-number-kernels.true

pub judge-requires : goal.judge-requires
judge-requires c =
    let problem = zip_read (IsProblemOf c.args.table.now) c.args.kernels.now c.args.problems.now
    c.loop-number.number c.index-kernels-number.result c.index-problems-number.result
    c.requires.problems c.if-number-kernels.true c.index-kernels-number.is c.index-problems-number.is in
    record {
      problem = problem.is;
      solvable = problem.solvable;
      few = problem.few;
      small = problem.small;
      part = subst IsKernelPart (sym c.index-parts-number.is)
          (c.requires.parts c.loop-number.number c.index-parts-number.result c.loop-number-test.true);
    }

pub loop-number-preserved : goal.loop-number-preserved
loop-number-preserved c =
    let table = c.args.table.now in
    let kernels = c.args.kernels.now in
    let parts = c.args.parts.now in
    let i = c.loop-number.number in
    let made = c.loop-number.all.items in
    let part = c.index-parts-number.result in
    let more = take_read parts i part c.loop-number-test.true c.index-parts-number.is in
    let long = length-take-le i parts (below c.loop-number-test.true) in
    subst (λ ps. AreJudged table kernels ps c.if-number-kernels.all.items) (sym more)
    (elim c.if-number-kernels.branch [
      | then-number-kernels+in_ok-judge+in_ok-push w ↦
          let kernel = w.index-kernels-number.result in
          subst (AreJudged table kernels (take i parts ++ part ∷ []))
          (sym (ap (λ v. v.items) w.all-is ∙ w.in_ok-push.ensures.items))
          (judged_more table kernels (take i parts) made kernel part w.in_ok-judge.field-0
          c.loop-number.invariant (subst (λ n. n < length kernels) (sym long) w.if-number-kernels.true)
          (subst (λ n. kernel ≡ get_or kernels n kernel) (sym long) w.index-kernels-number.is)
          w.in_ok-judge.ensures)
      | else-number-kernels w ↦
          subst (AreJudged table kernels (take i parts ++ part ∷ [])) (sym (ap (λ v. v.items) w.all-is))
          (judged_past table kernels (take i parts) made part c.loop-number.invariant
          (subst (λ n. length kernels ≤ n) (sym long) w.if-number-kernels.false))
    ])
