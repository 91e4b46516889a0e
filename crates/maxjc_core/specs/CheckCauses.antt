-- Why `check` refuses a report, by what its files hold.
use Rattle.std.specs.Prelude.{◌⊎◌, ℕ, List}
use Rattle.mx_base.specs.Files.{Held, Lacks}
use Rattle.latency_table.specs.declared.table.Table.{Table}
use Rattle.manager_links.specs.declared.project.Project.{Project}
use Rattle.project_check.specs.Refused.{IsNotChecked}
use Rattle.project_check.specs.declared.error.CheckError.{CheckError}
use Rattle.maxjc_core.specs.Command.{CheckNames}
use Rattle.maxjc_core.specs.CompileCauses.{file_limit, IsWithin, IsPast, IsReadable, IsTooLarge, IsMissing}
use Rattle.maxjc_core.specs.CauseLines.{Cause, TooLarge, NotChecked}
use Rattle.maxjc_core.specs.Projects.{IsProjectOf, MakesNoProject}

-- The cause for which the bytes of a source, of a table and of a report are refused, the first that
-- stands: why the first two make no project, or why the report shows no least schedules of the
-- project's kernels.
pub data IsOfCheck (source table report : List ℕ) : Cause → Type 0 where
  makes_none :
      (cause : Cause)
      → MakesNoProject source table cause
      → IsOfCheck source table report cause
  not_checked :
      (project : Project) (latencies : Table) (error : CheckError)
      → IsProjectOf source table project latencies
      → IsNotChecked latencies project.kernels report error
      → IsOfCheck source table report (NotChecked error)

-- the report is read after a source and a table within the limit, and they are looked at after all three
pub record IsCheckable (names : CheckNames) (held : Held) : Type 0 where
  pub project : IsReadable names.source names.table held
  pub report : List ℕ
  pub report_is : IsWithin file_limit held names.report report

-- a source and a table within the limit, and what holds of the report after them
pub record AfterTable (names : CheckNames) (held : Held) (P : Type 0) : Type 0 where
  pub project : IsReadable names.source names.table held
  pub then_report : P

-- the cause is that the source is past the limit, or the table after it, or the report after both
pub data IsInputTooLarge (names : CheckNames) (held : Held) : Cause → Type 0 where
  project :
      (cause : Cause)
      → IsTooLarge names.source names.table held cause
      → IsInputTooLarge names held cause
  report :
      AfterTable names held (IsPast file_limit held names.report)
      → IsInputTooLarge names held (TooLarge names.report)

-- the cause stands, and none before it
pub data CheckStands (names : CheckNames) (held : Held) : Cause → Type 0 where
  too_large : (cause : Cause) → IsInputTooLarge names held cause → CheckStands names held cause
  of_files :
      (files : IsCheckable names held) (cause : Cause)
      → IsOfCheck files.project.source files.project.table files.report cause
      → CheckStands names held cause

-- a file that is to be read isn't held
abbrev pub LacksChecked : CheckNames → Held → Type 0
LacksChecked names held = IsMissing names.source names.table held ⊎ AfterTable names held (Lacks held names.report)
