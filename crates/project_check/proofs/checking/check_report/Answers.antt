use Rattle.std.proofs.Common.{◌≡◌, List, refl, sym, subst}
use Rattle.std.proofs.lemmas.Result.{err_from_is_err_and}
use Rattle.stream_graph.specs.declared.kernel.Kernel.{Kernel}
use Rattle.latency_table.specs.declared.table.Table.{Table}
use Rattle.schedule_report.specs.declared.report.ReportKernel.{ReportKernel}
use Rattle.kernel_report.specs.declared.judgement.Judgement.{Judgement}
use Rattle.project_check.specs.Checked.{AreJudged}
use Rattle.project_check.specs.Refused.{AreOf, MayHaveOther}
use Rattle.project_check.proofs.Judged.{judged_within, all_least}
use Rattle.project_check.proofs.Refusing.{
  refused_problem,
  refused_form,
  refused_other,
  refused_fault,
}
use Rattle.project_check.proofs.checking.check_report.Goals as goal

-- what is judged by equal lists
judged_in : (table : Table) (kernels : List Kernel) {parts kept : List ReportKernel}
    {told judgements : List Judgement} → parts ≡ kept → judgements ≡ told
    → AreJudged table kernels parts told → AreJudged table kernels kept judgements
judged_in table kernels {kept} {told} same read judged =
    subst (AreJudged table kernels kept) (sym read)
    (subst (λ ps. AreJudged table kernels ps told) same judged)

pub returns-in_err-problems-clause-refused : goal.returns-in_err-problems-clause-refused
returns-in_err-problems-clause-refused c =
    let error = err_from_is_err_and c.from_residual.result c.from_residual.ensures.1 in
    rw (error.1, error.2)
    (refused_problem c.args.table.now c.args.kernels.now c.args.bytes.now c.in_err-problems.field-0.0
    c.in_err-problems.ensures.refused)

pub returns-in_err-report-clause-refused : goal.returns-in_err-report-clause-refused
returns-in_err-report-clause-refused c =
    let error = err_from_is_err_and c.from_residual-in_err-report.result
    c.from_residual-in_err-report.ensures.1 in
    rw (error.1, error.2)
    (refused_form c.args.table.now c.args.kernels.now c.args.bytes.now c.in_err-report.field-0.0
    c.in_ok-problems.ensures.has c.in_err-report.ensures.wrong)

pub returns-in_err-are_of_kernels-clause-refused : goal.returns-in_err-are_of_kernels-clause-refused
returns-in_err-are_of_kernels-clause-refused c =
    let table = c.args.table.now in
    let kernels = c.args.kernels.now in
    let told = c.in_err-are_of_kernels.field-0.0 in
    let error = err_from_is_err_and c.from_residual-in_err-are_of_kernels.result
    c.from_residual-in_err-are_of_kernels.ensures.1 in
    rw (error.1, error.2)
    (refused_other table kernels c.args.bytes.now c.in_ok-report.report told c.in_ok-problems.ensures.has
    c.in_ok-report.ensures.says
    (subst (λ ps. MayHaveOther table kernels ps told) c.as_slice-parts.ensures
    (c.in_err-are_of_kernels.ensures.other table
    (judged_in table kernels refl c.as_slice-2.ensures.value c.in_ok-judgements.ensures))))

pub are_shown-requires : goal.are_shown-requires
are_shown-requires c = record {
  within = judged_within c.args.table.now c.args.kernels.now c.as_slice-parts.result.now
      c.as_slice-3.result.now
      (judged_in c.args.table.now c.args.kernels.now refl c.as_slice-3.ensures.value c.in_ok-judgements.ensures);
}

pub returns-in_err-are_shown-clause-refused : goal.returns-in_err-are_shown-clause-refused
returns-in_err-are_shown-clause-refused c =
    let table = c.args.table.now in
    let kernels = c.args.kernels.now in
    let parts = c.in_ok-report.report.kernels in
    let judged = c.in_ok-judgements.ensures in
    let of = subst (AreOf table kernels) c.as_slice-parts.ensures
    (c.in_ok-are_of_kernels.ensures.of table
    (judged_in table kernels refl c.as_slice-2.ensures.value judged)) in
    let error = err_from_is_err_and c.from_residual-in_err-are_shown.result
    c.from_residual-in_err-are_shown.ensures.1 in
    rw (error.1, error.2)
    (refused_fault table kernels c.args.bytes.now c.in_ok-report.report c.in_err-are_shown.field-0.0
    c.in_ok-problems.ensures.has c.in_ok-report.ensures.says of
    (c.in_err-are_shown.ensures.fault table parts of
    (judged_in table kernels c.as_slice-parts.ensures c.as_slice-3.ensures.value judged)))

pub returns-clause-checked : goal.returns-clause-checked
returns-clause-checked c =
    let table = c.args.table.now in
    let kernels = c.args.kernels.now in
    let parts = c.in_ok-report.report.kernels in
    let judged = c.in_ok-judgements.ensures in
    let of = subst (AreOf table kernels) c.as_slice-parts.ensures
    (c.in_ok-are_of_kernels.ensures.of table
    (judged_in table kernels refl c.as_slice-2.ensures.value judged)) in
    let shown = c.in_ok-are_shown.ensures.shown table parts of
    (judged_in table kernels c.as_slice-parts.ensures c.as_slice-3.ensures.value judged) in
    record {
      says = c.in_ok-report.ensures.says;
      problems = c.in_ok-problems.ensures.has;
      shown = shown;
      least = all_least table kernels parts c.all_shown_are_least.ensures shown;
    }
