use Rattle.std.proofs.Common.{List, take}
use Rattle.latency_table.specs.declared.table.Table.{Table}
use Rattle.schedule_report.specs.declared.report.ReportKernel.{ReportKernel}
use Rattle.project_check.specs.Checked.{AreJudged, AllShown}
use Rattle.project_check.specs.Refused.{AreOf}
use Rattle.project_check.proofs.faults.are_shown.Given as goal

abbrev pub invariant-loop-number : goal.invariant-loop-number
invariant-loop-number l =
    (table : Table) (parts : List ReportKernel) → AreOf table l.kernels parts
    → AreJudged table l.kernels parts l.judgements
    → AllShown table (take l.number l.kernels) (take l.number parts)
