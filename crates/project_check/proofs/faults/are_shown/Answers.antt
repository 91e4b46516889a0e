use Rattle.std.proofs.Common.{◌<◌, length, take, subst, arith}
use Rattle.std.proofs.lemmas.List.{take_all}
use Rattle.std.proofs.lemmas.Result.{err_from_is_err_and}
use Rattle.kernel_report.specs.declared.judgement.Judgement.TheVariants as J
use Rattle.kernel_report.specs.Judging.{IsOf, IsShown}
use Rattle.project_check.specs.Checked.{AllShown}
use Rattle.project_check.proofs.Judged.{judged_most, judged_read}
use Rattle.project_check.proofs.Pieces.{item_at, zip_length, zip_more, zip_read}
use Rattle.project_check.proofs.Refusing.{fault_at}
use Rattle.project_check.proofs.faults.are_shown.Goals as goal

pub returns-in_err-fault_of-clause-fault : goal.returns-in_err-fault_of-clause-fault
returns-in_err-fault_of-clause-fault c =
    λ table parts of all.
    let kernels = c.args.kernels.now in
    let judgements = c.args.judgements.now in
    let i = c.loop-number.number in
    let kernel = c.index-kernels-number.result in
    let told = c.loop-number-test.true in
    let lt : i < length kernels = omega arith in
    let same = zip_length (IsOf table) kernels parts of in
    let within : i < length parts = omega arith in
    let part = item_at parts i within in
    let error = err_from_is_err_and c.from_residual.result c.from_residual.ensures.1 in
    rw (error.1, error.2)
    (fault_at table kernels parts i kernel part.0 c.in_err-fault_of.field-0.0 lt c.index-kernels-number.is
    within part.1 (c.loop-number.invariant table parts of all)
    (c.in_err-fault_of.ensures.fault table part.0
    (judged_read table kernels parts judgements i kernel part.0 J.Good all told c.index-kernels-number.is
    part.1)))

pub loop-number-preserved : goal.loop-number-preserved
loop-number-preserved c =
    λ table parts of all.
    let kernels = c.args.kernels.now in
    let judgements = c.args.judgements.now in
    let i = c.loop-number.number in
    let kernel = c.index-kernels-number.result in
    let told = c.loop-number-test.true in
    let lt : i < length kernels = omega arith in
    let same = zip_length (IsOf table) kernels parts of in
    let within : i < length parts = omega arith in
    let part = item_at parts i within in
    zip_more (IsShown table) kernels parts i kernel part.0 lt c.index-kernels-number.is within part.1
    (c.loop-number.invariant table parts of all)
    (c.in_ok-fault_of.ensures.good table part.0
    (zip_read (IsOf table) kernels parts i kernel part.0 of lt c.index-kernels-number.is part.1)
    (judged_read table kernels parts judgements i kernel part.0 J.Good all told c.index-kernels-number.is
    part.1))

pub returns-clause-shown : goal.returns-clause-shown
returns-clause-shown c =
    λ table parts of all.
    let kernels = c.args.kernels.now in
    let i = c.loop-number.number in
    let same = zip_length (IsOf table) kernels parts of in
    let most = judged_most table kernels parts c.args.judgements.now all (omega arith) in
    let past = c.loop-number-test.false in
    subst (λ ks. AllShown table ks parts) (take_all i kernels (omega arith))
    (subst (AllShown table (take i kernels)) (take_all i parts (omega arith))
    (c.loop-number.invariant table parts of all))
