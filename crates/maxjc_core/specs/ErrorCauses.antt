-- The cause that a refusal of the code names. Want of memory and a call that failed are none.
use Rattle.std.specs.Prelude.{Option, Some, None}
use Rattle.maxj_syntax.specs.Source.{Fault}
use Rattle.maxj_syntax.specs.declared.source.SourceError.{SourceError}
use Rattle.maxj_syntax.specs.declared.source.SourceError.TheVariants as source_errors
use Rattle.word_files.specs.declared.error.RunFileError.{RunFileError}
use Rattle.word_files.specs.declared.error.RunFileError.TheVariants as run_errors
use Rattle.simulation.specs.declared.stop.Stop.{Stop}
use Rattle.simulation.specs.declared.stop.Stop.TheVariants as stops
use Rattle.latency_table.specs.declared.error.TableError.{TableError}
use Rattle.latency_table.specs.declared.error.TableError.TheVariants as table_errors
use Rattle.project_build.specs.declared.error.ProjectError.{ProjectError}
use Rattle.project_build.specs.declared.error.ProjectError.TheVariants as project_errors
use Rattle.project_check.specs.declared.error.CheckError.{CheckError}
use Rattle.project_check.specs.declared.error.CheckError.TheVariants as check_errors
use Rattle.maxjc_core.specs.CauseLines.{
  Cause,
  TooLarge,
  SourceFault,
  TableFault,
  NoProject,
  NoSchedule,
  TooManyBits,
  LinkTooDeep,
  NotChecked,
  TooManyCells,
  NotJson,
  RunShape,
  TooManyWords,
  BadLine,
  WordRange,
}
use Rattle.maxjc_core.specs.SimulateCauses.{text_cause}
use Rattle.maxjc_core.specs.declared.refusal.Refusal.{Refusal}
use Rattle.maxjc_core.specs.declared.refusal.Refusal.TheVariants as refusals

abbrev pub source_cause : SourceError → Option Cause
source_cause (source_errors.StrayByte place) = Some (SourceFault (Fault.StrayByte place))
source_cause (source_errors.NoToken place) = Some (SourceFault (Fault.NoToken place))
source_cause (source_errors.Misplaced place) = Some (SourceFault (Fault.Misplaced place))
source_cause (source_errors.Outside place) = Some (SourceFault (Fault.Outside place))
source_cause (source_errors.Excess place) = Some (SourceFault (Fault.Excess place))
source_cause source_errors.NoProject = Some (SourceFault Fault.NoProject)
source_cause source_errors.NoMemory = None

abbrev pub run_file_cause : RunFileError → Option Cause
run_file_cause run_errors.NotJson = Some NotJson
run_file_cause (run_errors.Shape key) = Some (RunShape key)
run_file_cause run_errors.NoMemory = None

abbrev pub stop_cause : Stop → Option Cause
stop_cause (stops.TooManyCells n) = Some (TooManyCells n)
stop_cause (stops.BadLine file line) = Some (BadLine file line)
stop_cause (stops.WordRange file line) = Some (WordRange file line)
stop_cause stops.ReadFault = None
stop_cause stops.WriteFault = None
stop_cause stops.NoMemory = None

abbrev pub table_cause : TableError → Option Cause
table_cause table_errors.NoMemory = None
table_cause error = Some (TableFault error)

abbrev pub project_cause : ProjectError → Option Cause
project_cause project_errors.NoMemory = None
project_cause error = Some (NoProject error)

abbrev pub report_cause : CheckError → Option Cause
report_cause check_errors.NoMemory = None
report_cause error = Some (NotChecked error)

abbrev pub cause_told : Refusal → Option Cause
cause_told (refusals.TooLarge name) = Some (TooLarge name.now)
cause_told (refusals.Source error) = source_cause error
cause_told (refusals.Table error) = table_cause error
cause_told (refusals.Project error) = project_cause error
cause_told (refusals.Schedule kernel error) = Some (NoSchedule kernel error)
cause_told (refusals.TooManyBits kernel bits) = Some (TooManyBits kernel bits)
cause_told (refusals.LinkTooDeep link words) = Some (LinkTooDeep link words)
cause_told (refusals.Report error) = report_cause error
cause_told (refusals.Verilog error) = text_cause error
cause_told (refusals.RunFile error) = run_file_cause error
cause_told (refusals.TooManyWords words) = Some (TooManyWords words)
cause_told (refusals.Run stop) = stop_cause stop

-- there is a cause, and this holds of it
abbrev pub IfCause : Option Cause → (Cause → Type 0) → Type 0
IfCause (Some cause) P = P cause
IfCause None P = ⊥
