-- What holds where a command ends.
use Rattle.std.specs.Prelude.{ℕ, ◌≡◌, ◌⊎◌, List, Option, IsSome}
use Rattle.mx_base.specs.Counts.{Rose}
use Rattle.mx_base.specs.Files.{Held, Holds}
use Rattle.maxjc_core.specs.Command.{Names, said_more}
use Rattle.maxjc_core.specs.Outside.{Outside}
use Rattle.maxjc_core.specs.CompileCauses.{Stands, IsReadable}
use Rattle.maxjc_core.specs.CauseLines.{Cause, line_of}
use Rattle.maxjc_core.specs.Compiling.{Compiles}
use Rattle.maxjc_core.specs.declared.status.Status.{Status}
use Rattle.maxjc_core.specs.declared.status.Status.TheVariants.{Done, Refused, Usage, ReadFault, WriteFault, NoMemory, EdgeLimit}

-- the statuses of calls in which no call of the outside failed
abbrev pub IsQuiet : Status → Type 0
IsQuiet Done = Unit {0}
IsQuiet Refused = Unit {0}
IsQuiet Usage = Unit {0}
IsQuiet NoMemory = Unit {0}
IsQuiet EdgeLimit = Unit {0}
IsQuiet ReadFault = ⊥
IsQuiet WriteFault = ⊥

-- the statuses after which the files are as before
abbrev pub KeepsFiles : Status → Type 0
KeepsFiles Done = ⊥
KeepsFiles WriteFault = ⊥
KeepsFiles Refused = Unit {0}
KeepsFiles Usage = Unit {0}
KeepsFiles ReadFault = Unit {0}
KeepsFiles NoMemory = Unit {0}
KeepsFiles EdgeLimit = Unit {0}

-- the statuses after which nothing was said
abbrev pub IsSilent : Status → Type 0
IsSilent ReadFault = Unit {0}
IsSilent NoMemory = Unit {0}
IsSilent Done = ⊥
IsSilent Refused = ⊥
IsSilent Usage = ⊥
IsSilent WriteFault = ⊥
IsSilent EdgeLimit = ⊥

-- a call of the outside failed, or memory was short: the only other ends of a refusal, and of a project that is compiled
abbrev pub IsCutOff : Status → Type 0
IsCutOff ReadFault = Unit {0}
IsCutOff WriteFault = Unit {0}
IsCutOff NoMemory = Unit {0}
IsCutOff Done = ⊥
IsCutOff Refused = ⊥
IsCutOff Usage = ⊥
IsCutOff EdgeLimit = ⊥

-- One call failed, and none was made after it: of the files, with their count raised and nothing said, or of what is said, with
-- its count raised and the files' count as before.
abbrev pub WriteFailed : ℕ → ℕ → ℕ → ℕ → Option (List ℕ) → Option (List ℕ) → Type 0
WriteFailed write_before write_now say_before say_now said_before said_now =
    (Rose write_before write_now × (say_now ≡ say_before) × (said_now ≡ said_before)) ⊎ (Rose say_before say_now × (write_now ≡ write_before))

-- a command that did its work, with these files and what was said before and after it: the files that were read, the text that
-- the output now holds, the report that the report's file now holds, and the line that was said
pub record IsDone (names : Names) (before now : Held) (said_before said_now : Option (List ℕ)) : Type 0 where
  pub files : IsReadable names.source names.table before
  pub text : List ℕ
  pub report : List ℕ
  pub line : List ℕ
  pub compiles : Compiles files.source files.table text report line
  pub written : Holds now names.output text
  pub reported : Holds now names.report report
  pub said : said_now ≡ said_more said_before line

-- a refusal that was said, and stands where the files are told
pub record IsRefused (names : Names) (held : Held) (said_before said_now : Option (List ℕ)) : Type 0 where
  pub cause : Cause
  pub stands : IsSome held → Stands names held cause
  pub said : said_now ≡ said_more said_before (line_of cause)

-- The outside before and after any command, and the status that it answers.
pub record EndsAll (before after : Outside) (status : Status) : Type 0 where
  -- `WriteFault` comes only where one call of writing or saying failed, and no call was made after it
  pub write_fault :
      status ≡ WriteFault
      → WriteFailed before.write_faults after.write_faults before.say_faults after.say_faults before.said after.said
  pub write_fault_reads : status ≡ WriteFault → after.read_faults ≡ before.read_faults
  pub read_fault_writes : status ≡ ReadFault → (after.write_faults ≡ before.write_faults) × (after.say_faults ≡ before.say_faults)
  -- no count rises where no call failed, and nothing more is said after a fault or want of memory
  pub quiet :
      IsQuiet status
      → (after.read_faults ≡ before.read_faults) × (after.write_faults ≡ before.write_faults) × (after.say_faults ≡ before.say_faults)
  pub silent : IsSilent status → after.said ≡ before.said
