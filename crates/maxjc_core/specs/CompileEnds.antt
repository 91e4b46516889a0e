-- How `compile` may end.
use Rattle.std.specs.Prelude.{◌≡◌, ◌⊎◌, IsSome}
use Rattle.mx_base.specs.Counts.{Rose}
use Rattle.mx_base.specs.Files.{Lacks}
use Rattle.maxjc_core.specs.CompileCauses.{Stands, IsMissing, IsBuilt}
use Rattle.maxjc_core.specs.Command.{Names}
use Rattle.maxjc_core.specs.CompileFiles.{ChangesBoth, LeavesCutOff}
use Rattle.maxjc_core.specs.CommandEnds.{KeepsFiles, IsCutOff, IsDone, IsRefused}
use Rattle.maxjc_core.specs.CauseLines.{Cause}
use Rattle.maxjc_core.specs.Outside.{Outside}
use Rattle.maxjc_core.specs.declared.status.Status.{Status}
use Rattle.maxjc_core.specs.declared.status.Status.TheVariants.{Done, Refused, ReadFault, WriteFault, NoMemory, EdgeLimit}

-- The outside before and after `compile` with these files, and the status that it answers.
pub record EndsCompile (names : Names) (before after : Outside) (status : Status) : Type 0 where
  -- `Done`: the output holds a text of a design of the project that the source builds, the report's file holds a report on
  -- the schedules of its kernels, and the summary is what was said
  pub done : status ≡ Done → IsSome before.held → IsDone names before.held after.held before.said after.said
  -- `Refused` comes exactly where a cause stands, and `Done` where none does, unless a call fails or memory is short
  pub refused : status ≡ Refused → IsRefused names before.held before.said after.said
  pub stands : (cause : Cause) → Stands names before.held cause → (status ≡ Refused) ⊎ IsCutOff status
  pub built : IsBuilt names before.held → (status ≡ Done) ⊎ IsCutOff status
  -- `ReadFault` comes only where the count of read faults rose or a file that is read isn't held, and always there, unless
  -- memory is short; and reading a source that isn't held is no fault
  pub read_fault : status ≡ ReadFault → Rose before.read_faults after.read_faults ⊎ IsMissing names.source names.table before.held
  pub missing : IsMissing names.source names.table before.held → (status ≡ ReadFault) ⊎ (status ≡ NoMemory)
  pub missing_quiet : Lacks before.held names.source → after.read_faults ≡ before.read_faults
  -- only `Done` and `WriteFault` change a file, and that is the output or the report: all memory is taken before either is
  -- created, and the report is created when the output has been written
  pub files_same : KeepsFiles status → after.held ≡ before.held
  pub others : ChangesBoth names.output names.report before.held after.held
  pub cut_off : status ≡ WriteFault → IsSome before.held → LeavesCutOff names before.held after.held
  -- no edge is made
  pub no_edges : status ≡ EdgeLimit → ⊥
