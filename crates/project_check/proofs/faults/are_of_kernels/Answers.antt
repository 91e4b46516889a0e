use Rattle.std.proofs.Common.{◌<◌, ◌+◌, length, get_or, drop, sym, subst, refl, inl, inr, arith}
use Rattle.schedule_report.specs.Reports.{IsKernelPart}
use Rattle.kernel_report.specs.declared.judgement.Judgement.TheVariants as J
use Rattle.kernel_report.specs.Judging.{IsOf, IsJudged}
use Rattle.project_check.specs.Refused.{IsFirstOther}
use Rattle.project_check.proofs.Judged.{judged_of, small_line, judged_count, judged_read}
use Rattle.project_check.proofs.Pieces.{item_at, zip_more}
use Rattle.project_check.proofs.Refusing.{other_from, other_missing, other_more}
use Rattle.project_check.proofs.faults.are_of_kernels.Goals as goal

pub returns-then-number-parts-clause-other : goal.returns-then-number-parts-clause-other
returns-then-number-parts-clause-other c =
    λ table judged. c.loop-number.invariant.behind table judged c.loop-number.line
    (other_missing table c.args.kernels.now c.args.parts.now c.loop-number.number c.loop-number.line
    c.loop-number-test.true (let none = c.if-number-parts.true in omega arith))

pub bounds : goal.bounds
bounds c =
    judged_count c.requires.judged.0 c.args.kernels.now c.args.parts.now c.args.judgements.now
    c.loop-number.number c.requires.judged.1 c.loop-number-test.true (omega arith)

pub overflow_add-result : goal.overflow_add-result
overflow_add-result c =
    let table = c.requires.judged.0 in
    let kernels = c.args.kernels.now in
    let parts = c.args.parts.now in
    let judgements = c.args.judgements.now in
    let i = c.loop-number.number in
    let within : i < length parts = omega arith in
    let kernel = item_at kernels i c.loop-number-test.true in
    let part = item_at parts i within in
    let count = judged_count table kernels parts judgements i c.requires.judged.1
    c.loop-number-test.true within in
    let judged = judged_read table kernels parts judgements i kernel.0 part.0 J.Good c.requires.judged.1
    count kernel.1 part.1 in
    let few = small_line table kernel.0 part.0 c.in-Mismatch.behind
    (subst (IsJudged table kernel.0 part.0) c.in-Mismatch.is judged) in
    omega arith

pub returns-in-Mismatch-clause-other : goal.returns-in-Mismatch-clause-other
returns-in-Mismatch-clause-other c =
    λ table all.
    let kernels = c.args.kernels.now in
    let parts = c.args.parts.now in
    let judgements = c.args.judgements.now in
    let i = c.loop-number.number in
    let line = c.loop-number.line + c.in-Mismatch.behind in
    let within : i < length parts = omega arith in
    let kernel = item_at kernels i c.loop-number-test.true in
    let part = item_at parts i within in
    let count = judged_count table kernels parts judgements i all c.loop-number-test.true within in
    let judged = judged_read table kernels parts judgements i kernel.0 part.0 J.Good all count kernel.1
    part.1 in
    c.loop-number.invariant.behind table all line
    (other_from table kernels parts i kernel.0 part.0 c.loop-number.line line c.loop-number-test.true
    kernel.1 within part.1
    (inl (c.in-Mismatch.behind, subst (IsJudged table kernel.0 part.0) c.in-Mismatch.is judged, refl)))

pub loop-number-preserved : goal.loop-number-preserved
loop-number-preserved c =
    let kernels = c.args.kernels.now in
    let parts = c.args.parts.now in
    let judgements = c.args.judgements.now in
    let i = c.loop-number.number in
    let part = c.index-parts-number.result in
    let within : i < length parts = omega arith in
    let kernel = item_at kernels i c.loop-number-test.true in
    let sound = subst IsKernelPart (sym c.index-parts-number.is) (c.requires.parts i part within) in
    let lines = c.lines_of-line.ensures in
    record {
      within = omega arith;
      small = omega arith;
      of = λ table all.
          zip_more (IsOf table) kernels parts i kernel.0 part c.loop-number-test.true kernel.1 within
          c.index-parts-number.is (c.loop-number.invariant.of table all)
          (judged_of table kernel.0 part (get_or judgements i J.Good)
          (judged_read table kernels parts judgements i kernel.0 part J.Good all
          (judged_count table kernels parts judgements i all c.loop-number-test.true within) kernel.1
          c.index-parts-number.is)
          c.in_default.not-Mismatch);
      behind = λ table all line other.
          c.loop-number.invariant.behind table all line
          (other_from table kernels parts i kernel.0 part c.loop-number.line line c.loop-number-test.true
          kernel.1 within c.index-parts-number.is
          (inr (
            judged_of table kernel.0 part (get_or judgements i J.Good)
                (judged_read table kernels parts judgements i kernel.0 part J.Good all
                (judged_count table kernels parts judgements i all c.loop-number-test.true within) kernel.1
                c.index-parts-number.is)
                c.in_default.not-Mismatch,
            subst (λ n. IsFirstOther table (c.loop-number.line + n) (drop (i + 1) kernels) (drop (i + 1) parts) line)
                c.lines_of-line.ensures other,
          )));
    }

pub returns-then-parts-kernels-clause-other : goal.returns-then-parts-kernels-clause-other
returns-then-parts-kernels-clause-other c =
    λ table judged. c.loop-number.invariant.behind table judged c.loop-number.line
    (other_more table c.args.kernels.now c.args.parts.now c.loop-number.number c.loop-number.line
    c.loop-number-test.false (let more = c.if-parts-kernels.true in omega arith))
