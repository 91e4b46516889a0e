-- Why a command refuses its files, and the line that is said.
use Rattle.std.specs.Prelude.{ℕ, List, [], ◌∷◌, Option, Some, None, codes}
use Rattle.std.specs.Fmt.{decimal}
use Rattle.refusal_line.specs.Lines.{refused}
use Rattle.maxj_syntax.specs.Source.{Fault}
use Rattle.maxj_syntax.specs.Lines.{fault_line}
use Rattle.latency_table.specs.declared.error.TableError.{TableError}
use Rattle.latency_table.specs.Refused.{said as table_fault_line}
use Rattle.kernel_schedule.specs.declared.error.ScheduleError.{ScheduleError}
use Rattle.kernel_schedule.specs.Refused.{said as schedule_fault_line}
use Rattle.kernel_netlist.specs.declared.error.NetlistError.TheVariants as netlist_errors
use Rattle.kernel_netlist.specs.Refused.{said as netlist_fault_line}
use Rattle.manager_links.specs.declared.error.LinkError.TheVariants as link_errors
use Rattle.manager_links.specs.Refused.{said as link_fault_line}
use Rattle.project_build.specs.declared.error.ProjectError.{ProjectError}
use Rattle.project_build.specs.Lines.{said as project_fault_line}
use Rattle.project_check.specs.declared.error.CheckError.{CheckError}
use Rattle.project_check.specs.Refused.{said as report_fault_line}
use Rattle.rtl_check.specs.Lines.{rule_line}
use Rattle.stream_expect.specs.declared.error.ExpectError.TheVariants as expect_errors
use Rattle.stream_expect.specs.Refused.{said as word_count_line}
use Rattle.maxjc_core.specs.Command.{Name}

pub data Cause : Type 0 where
  TooLarge : Name → Cause  -- F1: this file has more bytes than its limit
  SourceFault : Fault → Cause  -- S1 to S6: this is the first fault of the source
  TableFault : TableError → Cause  -- T1 to T3: this is the first fault of the latency table
  NoProject : ProjectError → Cause  -- E1 to E15, G1 to G4 and G6, P1 to P5 and P7 to P9: why the source builds no project
  NoSchedule : Name → ScheduleError → Cause  -- L1, C1 and C2: why this kernel has no schedule by the latency table
  TooManyBits : Name → ℕ → Cause  -- B1: the FIFOs of this kernel need so many bits
  LinkTooDeep : ℕ → ℕ → Cause  -- P6: the link of this number would hold so many words
  NotChecked : CheckError → Cause  -- L1, C1 and Q1 to Q5: why the report shows no least schedules of the project's kernels
  NoToken : ℕ → Cause  -- V1: no token begins at this place of the text
  Syntax : ℕ → Cause  -- V2: the token at this place of the text is the first that no text has after those before it
  Rule : ℕ → List Name → Cause  -- V3: the rule of this number is broken by these names
  PortShape : Name → Cause  -- V4: this port of the last module is none of a run
  TooManyCells : ℕ → Cause  -- V5: the design has so many wires, registers and memory words
  NotJson : Cause  -- U1: the run file is no JSON text
  RunShape : Name → Cause  -- U2: the run file isn't of its form, or doesn't fit the ports, under this key
  TooManyWords : ℕ → Cause  -- X1: the kernels have so many words in the run, one for each node in each tick
  BadLine : Name → ℕ → Cause  -- U3: this line of this file isn't 1 to 32 hexadecimal digits
  WordRange : Name → ℕ → Cause  -- U4: this line of this file says a number past the width

-- want of memory is no cause, and has no line
abbrev pub line_or_none : Option (List ℕ) → List ℕ
line_or_none None = []
line_or_none (Some line) = line

-- the line that is said
abbrev pub line_of : Cause → List ℕ
line_of (TooLarge name) = refused (codes "F1") (name ∷ [])
line_of (SourceFault fault) = fault_line fault
line_of (TableFault error) = line_or_none (table_fault_line error)
line_of (NoProject error) = line_or_none (project_fault_line error)
line_of (NoSchedule kernel error) = line_or_none (schedule_fault_line kernel error)
line_of (TooManyBits kernel bits) =
    line_or_none (netlist_fault_line kernel (netlist_errors.TooManyBits bits))
line_of (LinkTooDeep link words) =
    line_or_none (link_fault_line (link_errors.LinkTooDeep link words))
line_of (NotChecked error) = line_or_none (report_fault_line error)
line_of (NoToken place) = refused (codes "V1") (decimal place ∷ [])
line_of (Syntax place) = refused (codes "V2") (decimal place ∷ [])
line_of (Rule number names) = rule_line number names
line_of (PortShape name) = refused (codes "V4") (name ∷ [])
line_of (TooManyCells number) = refused (codes "V5") (decimal number ∷ [])
line_of NotJson = refused (codes "U1") []
line_of (RunShape key) = refused (codes "U2") (key ∷ [])
line_of (TooManyWords words) = line_or_none (word_count_line (expect_errors.TooLarge words))
line_of (BadLine file line) = refused (codes "U3") (file ∷ decimal line ∷ [])
line_of (WordRange file line) = refused (codes "U4") (file ∷ decimal line ∷ [])
