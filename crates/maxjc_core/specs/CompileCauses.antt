-- Why `compile` refuses a project, by what its files hold.
use Rattle.std.specs.Prelude.{◌≡◌, ◌⊎◌, ◌≤◌, ◌<◌, ℕ, All, List, length, Option, Some, None, slice_get}
use Rattle.std.specs.Option.{option_map}
use Rattle.mx_base.specs.Files.{Held, Holds, Lacks}
use Rattle.latency_table.specs.declared.table.Table.{Table}
use Rattle.stream_graph.specs.declared.kernel.Kernel.{Kernel}
use Rattle.kernel_schedule.specs.declared.schedule.Schedule.{Schedule}
use Rattle.manager_links.specs.declared.links.Links.{Links}
use Rattle.manager_links.specs.declared.project.Project.{Project}
use Rattle.manager_links.specs.Links.{AreLinksOf, IsWithinLimit}
use Rattle.project_netlists.specs.declared.error.NetlistsError.{NetlistsError}
use Rattle.project_netlists.specs.declared.error.NetlistsError.TheVariants as netlists_errors
use Rattle.project_netlists.specs.Laws.{HasCause}
use Rattle.project_netlists.specs.Refused.{FitsBits}
use Rattle.project_netlists.specs.Scheduled.{HasSchedule, AreBestSchedules, all_times}
use Rattle.maxjc_core.specs.Command.{Name, Names}
use Rattle.maxjc_core.specs.CauseLines.{Cause, TooLarge, NoSchedule, TooManyBits, LinkTooDeep}
use Rattle.maxjc_core.specs.Projects.{IsProjectOf, MakesNoProject}

-- the most bytes of a file that is read whole: 2 ^ 24
abbrev pub file_limit : ℕ
file_limit = 16777216

-- a file is held and within the limit, with these bytes
pub record IsWithin (limit : ℕ) (held : Held) (name : Name) (bytes : List ℕ) : Type 0 where
  pub holds : Holds held name bytes
  pub within : length bytes ≤ limit

-- a file is held and past the limit
pub record IsPast (limit : ℕ) (held : Held) (name : Name) : Type 0 where
  pub bytes : List ℕ
  pub holds : Holds held name bytes
  pub past : limit < length bytes

-- ---- projects that have no text

-- the cause that an error of the modules of these kernels and of their links is. Want of memory is
-- none
abbrev pub netlists_cause : List Kernel → NetlistsError → Option Cause
netlists_cause kernels (netlists_errors.Schedule number error) =
    option_map (λ (kernel : Kernel). NoSchedule kernel.name error) (slice_get kernels number)
netlists_cause kernels (netlists_errors.TooManyBits number bits) =
    option_map (λ (kernel : Kernel). TooManyBits kernel.name bits) (slice_get kernels number)
netlists_cause kernels (netlists_errors.LinkTooDeep number words) =
    Some (LinkTooDeep number words)
netlists_cause kernels netlists_errors.NoMemory = None

-- the cause for which a project has no text, by a table of latencies
pub record LacksText (table : Table) (project : Project) (cause : Cause) : Type 0 where
  pub error : NetlistsError
  pub has : HasCause table project error
  pub is : netlists_cause project.kernels error ≡ Some cause

-- A project has a text by a table of latencies where each kernel has a legal schedule, each has one
-- whose FIFOs hold at most 2^28 bits, and no link is too deep at the times of the least schedules.
pub record HasText (table : Table) (project : Project) : Type 0 where
  pub scheduled : All (HasSchedule table) project.kernels
  pub fit : All (FitsBits table) project.kernels
  pub shallow :
      (schedules : List Schedule) (links : Links)
      → AreBestSchedules table project.kernels schedules
      → AreLinksOf project (all_times schedules) links
      → All IsWithinLimit links.links

-- ---- the bytes of a source and of a table

-- The cause for which they are not compiled, the first that stands: why they make no project, or why
-- the project has no text.
pub data IsOfFiles (source table : List ℕ) : Cause → Type 0 where
  makes_none :
      (cause : Cause)
      → MakesNoProject source table cause
      → IsOfFiles source table cause
  lacks_text :
      (project : Project) (latencies : Table) (cause : Cause)
      → IsProjectOf source table project latencies
      → LacksText latencies project cause
      → IsOfFiles source table cause

-- the project of the bytes has a text
pub record CanBeBuilt (source table : List ℕ) : Type 0 where
  pub project : Project
  pub latencies : Table
  pub is : IsProjectOf source table project latencies
  pub has : HasText latencies project

-- ---- the files

-- the table is read after a source within the limit, and the source is looked at after both
pub record IsReadable (source_name table_name : Name) (held : Held) : Type 0 where
  pub source : List ℕ
  pub source_is : IsWithin file_limit held source_name source
  pub table : List ℕ
  pub table_is : IsWithin file_limit held table_name table

-- a source within the limit, and what holds of the table after it
pub record AfterSource (source_name : Name) (held : Held) (P : Type 0) : Type 0 where
  pub source : List ℕ
  pub source_is : IsWithin file_limit held source_name source
  pub then_table : P

-- the cause is that the source is past the limit, or the table after it
pub data IsTooLarge (source_name table_name : Name) (held : Held) : Cause → Type 0 where
  source : IsPast file_limit held source_name → IsTooLarge source_name table_name held (TooLarge source_name)
  table :
      AfterSource source_name held (IsPast file_limit held table_name)
      → IsTooLarge source_name table_name held (TooLarge table_name)

-- the source isn't held, or the table after it
abbrev pub IsMissing : Name → Name → Held → Type 0
IsMissing source_name table_name held = Lacks held source_name ⊎ AfterSource source_name held (Lacks held table_name)

-- the cause stands, and none before it
pub data Stands (names : Names) (held : Held) : Cause → Type 0 where
  too_large : (cause : Cause) → IsTooLarge names.source names.table held cause → Stands names held cause
  of_files :
      (files : IsReadable names.source names.table held) (cause : Cause)
      → IsOfFiles files.source files.table cause
      → Stands names held cause

-- a project that is compiled: its files are held and within the limit, and it has a text
pub record IsBuilt (names : Names) (held : Held) : Type 0 where
  pub files : IsReadable names.source names.table held
  pub can : CanBeBuilt files.source files.table
