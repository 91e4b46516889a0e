-- The report on the project's kernels.
use Rattle.std.proofs.Common.{◌≤◌, length, sym, subst}
use Rattle.project_check.specs.Checked.{IsCheckedReport}
use Rattle.project_check.specs.Refused.{IsRefused}
use Rattle.maxjc_core.proofs.Judging.{of-report}
use Rattle.maxjc_core.proofs.shown.shown_report.Goals as goal

pub check_report-requires : goal.check_report-requires
check_report-requires c = record {
  few = subst (λ ks. length ks ≤ 64) (sym c.kernels.ensures)
      c.args.project.now.whole.few.most;
}

pub returns-in-Ok-clause-shows : goal.returns-in-Ok-clause-shows
returns-in-Ok-clause-shows c source table is = record {
  latencies = c.args.latencies.now;
  is = is;
  checked = subst
      (λ ks. IsCheckedReport c.args.latencies.now ks c.args.report.now c.in-Ok.shown)
      c.kernels.ensures c.in-Ok.ensures.checked;
}

pub returns-in-Err-clause-refused : goal.returns-in-Err-clause-refused
returns-in-Err-clause-refused c source table is =
    let project = c.args.project.now in
    let latencies = c.args.latencies.now in
    let report = c.args.report.now in
    of-report source table report project latencies c.report_stop.result c.in-Err.error is
    (subst (λ ks. IsRefused latencies ks report c.in-Err.error) c.kernels.ensures c.in-Err.ensures.refused)
    c.report_stop.ensures.cause
