-- How `check` may end.
use Rattle.std.specs.Prelude.{ℕ, ◌≡◌, ◌⊎◌, List, Option, IsSome}
use Rattle.mx_base.specs.Counts.{Rose}
use Rattle.mx_base.specs.Files.{Held, Lacks}
use Rattle.maxjc_core.specs.Command.{CheckNames, said_more}
use Rattle.maxjc_core.specs.CheckCauses.{CheckStands, LacksChecked}
use Rattle.maxjc_core.specs.Checking.{IsChecked, IsGood}
use Rattle.maxjc_core.specs.CommandEnds.{IsCutOff}
use Rattle.maxjc_core.specs.CauseLines.{Cause, line_of}
use Rattle.maxjc_core.specs.Outside.{Outside}
use Rattle.maxjc_core.specs.declared.status.Status.{Status}
use Rattle.maxjc_core.specs.declared.status.Status.TheVariants.{Done, Refused, ReadFault, WriteFault, NoMemory, EdgeLimit}

-- a report that was checked, with these files and what was said before and after it: the line that was said
pub record IsCheckDone (names : CheckNames) (held : Held) (said_before said_now : Option (List ℕ)) : Type 0 where
  pub line : List ℕ
  pub checked : IsChecked names held line
  pub said : said_now ≡ said_more said_before line

-- a refusal that was said, and stands where the files are told
pub record IsCheckRefused (names : CheckNames) (held : Held) (said_before said_now : Option (List ℕ)) : Type 0 where
  pub cause : Cause
  pub stands : IsSome held → CheckStands names held cause
  pub said : said_now ≡ said_more said_before (line_of cause)

-- The outside before and after `check` with these files, and the status that it answers.
pub record EndsCheck (names : CheckNames) (before after : Outside) (status : Status) : Type 0 where
  -- `Done`: the report's parts are shown for the kernels that the source builds, so that their bits are the fewest, and they
  -- are said
  pub done : status ≡ Done → IsSome before.held → IsCheckDone names before.held before.said after.said
  -- `Refused` comes exactly where a cause stands, and `Done` where none does, unless a call fails or memory is short
  pub refused : status ≡ Refused → IsCheckRefused names before.held before.said after.said
  pub stands : (cause : Cause) → CheckStands names before.held cause → (status ≡ Refused) ⊎ IsCutOff status
  pub checked : IsGood names before.held → (status ≡ Done) ⊎ IsCutOff status
  -- `ReadFault` comes only where the count of read faults rose or a file that is read isn't held, and always there, unless
  -- memory is short; and reading a source that isn't held is no fault
  pub read_fault : status ≡ ReadFault → Rose before.read_faults after.read_faults ⊎ LacksChecked names before.held
  pub missing : LacksChecked names before.held → (status ≡ ReadFault) ⊎ (status ≡ NoMemory)
  pub missing_quiet : Lacks before.held names.source → after.read_faults ≡ before.read_faults
  -- `WriteFault` comes only where saying failed
  pub write_fault : status ≡ WriteFault → Rose before.say_faults after.say_faults
  -- no file is changed, and none is to be written
  pub files_same : after.held ≡ before.held
  pub no_writes : after.write_faults ≡ before.write_faults
  -- no edge is made
  pub no_edges : status ≡ EdgeLimit → ⊥
