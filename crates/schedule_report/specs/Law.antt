-- A text says one report.
use Rattle.std.specs.Prelude.{◌≡◌}
use Rattle.schedule_report.specs.declared.report.Report.{Report}
use Rattle.schedule_report.specs.Reports.{IsReport, report_text}

-- reports with one text are one report
abbrev pub TextsDiffer : Type 0
TextsDiffer = (r s : Report) → IsReport r → IsReport s → report_text r ≡ report_text s → r ≡ s
