-- What `check` says of a report.
use Rattle.std.specs.Prelude.{◌≡◌, ℕ, List, ◌++◌, codes}
use Rattle.std.specs.Fmt.{decimal}
use Rattle.std.specs.List.{flat_map}
use Rattle.mx_base.specs.Files.{Held}
use Rattle.latency_table.specs.declared.table.Table.{Table}
use Rattle.manager_links.specs.declared.project.Project.{Project}
use Rattle.project_check.specs.Checked.{IsCheckedReport}
use Rattle.schedule_report.specs.declared.report.Report.{Report}
use Rattle.schedule_report.specs.declared.report.ReportKernel.{ReportKernel}
use Rattle.maxjc_core.specs.Command.{CheckNames}
use Rattle.maxjc_core.specs.CheckCauses.{IsCheckable}
use Rattle.maxjc_core.specs.Projects.{IsProjectOf}

-- `kernel NAME least B`
abbrev pub least_line : ReportKernel → List ℕ
least_line part = codes "kernel " ++ part.name ++ codes " least " ++ decimal part.bits ++ codes "\n"

-- The bytes of a source, of a latency table and of a report on the project that the source builds:
-- the report has a part for each kernel, and each is shown, so its times are a legal schedule whose
-- FIFOs hold the part's bits, and those of no legal schedule hold fewer.
pub record IsShowing (source table bytes : List ℕ) : Type 0 where
  pub project : Project
  pub latencies : Table
  pub is : IsProjectOf source table project latencies
  pub report : Report
  pub checked : IsCheckedReport latencies project.kernels bytes report

-- and what is said of it: a line for each kernel, with the bits that are the fewest
pub record Checks (source table report line : List ℕ) : Type 0 where
  pub shows : IsShowing source table report
  pub said : line ≡ flat_map least_line shows.report.kernels

-- the files that are read, and the lines that are said of them
pub record IsChecked (names : CheckNames) (held : Held) (line : List ℕ) : Type 0 where
  pub files : IsCheckable names held
  pub checks : Checks files.project.source files.project.table files.report line

-- a report that isn't refused: the files are held and within the limit, and each of its parts is shown
pub record IsGood (names : CheckNames) (held : Held) : Type 0 where
  pub files : IsCheckable names held
  pub shows : IsShowing files.project.source files.project.table files.report
