-- What checking a report answers before anything is said, as the code has it.
use Rattle.std.specs.Prelude.{ℕ, List}
use Rattle.latency_table.specs.declared.table.Table.{Table}
use Rattle.manager_links.specs.declared.project.Project.{Project}
use Rattle.mx_base.specs.Files.{Held}
use Rattle.project_check.specs.Checked.{IsCheckedReport}
use Rattle.schedule_report.specs.declared.report.Report.{Report}
use Rattle.maxjc_core.specs.Command.{CheckNames}
use Rattle.maxjc_core.specs.CompileCauses.{file_limit, IsWithin}
use Rattle.maxjc_core.specs.Projects.{IsProjectOf}
use Rattle.maxjc_core.specs.CompileStops.{AreBytes}

-- the files of a check are held and within the limit, with these bytes
pub record AreInputs (names : CheckNames) (held : Held) (source table report : List ℕ) : Type 0 where
  pub project : AreBytes names.source names.table held source table
  pub report_is : IsWithin file_limit held names.report report

-- the bytes of a source, of a latency table and of a report build this project, and say this report,
-- each part of which is shown
pub record ShowsAs (source table bytes : List ℕ) (project : Project) (report : Report) : Type 0
  where
    pub latencies : Table
    pub is : IsProjectOf source table project latencies
    pub checked : IsCheckedReport latencies project.kernels bytes report
