-- How `expect` may end.
use Rattle.std.specs.Prelude.{ℕ, ◌≡◌, ◌⊎◌, List, Option, IsSome}
use Rattle.std.specs.List.{AllZip}
use Rattle.mx_base.specs.Counts.{Rose}
use Rattle.mx_base.specs.Files.{Name, Held, Holds, Lacks}
use Rattle.simulation.specs.Outputs.{ChangesOnlyOutputs}
use Rattle.stream_expect.specs.declared.expected.Expected.{Expected}
use Rattle.word_lists.specs.Written.{word_lines}
use Rattle.maxjc_core.specs.Command.{ExpectNames, said_more}
use Rattle.maxjc_core.specs.CommandEnds.{IsCutOff}
use Rattle.maxjc_core.specs.ExpectCauses.{ExpectStands, LacksExpected}
use Rattle.maxjc_core.specs.ExpectLines.{expected_lines}
use Rattle.maxjc_core.specs.Expecting.{project_of, CanExpect, IsExpected}
use Rattle.maxjc_core.specs.CauseLines.{Cause, line_of}
use Rattle.maxjc_core.specs.Outside.{Outside}
use Rattle.maxjc_core.specs.declared.status.Status.{Status}
use Rattle.maxjc_core.specs.declared.status.Status.TheVariants.{Done, Refused, Usage, ReadFault, WriteFault, NoMemory, EdgeLimit}

-- the statuses after which the files are as before
abbrev pub WritesNothing : Status → Type 0
WritesNothing Refused = Unit {0}
WritesNothing Usage = Unit {0}
WritesNothing ReadFault = Unit {0}
WritesNothing EdgeLimit = Unit {0}
WritesNothing Done = ⊥
WritesNothing WriteFault = ⊥
WritesNothing NoMemory = ⊥

-- a file holds the lines of words of its width
abbrev pub HoldsLines : Held → Name × ℕ → List (Option ℕ) → Type 0
HoldsLines held file words = Holds held file.0 (word_lines file.1 words)

-- Words that were written, with these files and what was said before and after it: what the stream
-- equations say, of which each output file holds its words; and the lines that were said.
pub record IsExpectDone (names : ExpectNames) (before now : Held)
    (said_before said_now : Option (List ℕ)) : Type 0
  where
    pub expected : Expected
    pub is : IsExpected names before expected
    pub written : AllZip (HoldsLines now) is.can.begun.fit.plan.outputs expected.outputs
    pub said :
        said_now
        ≡ said_more said_before (expected_lines (project_of is.can.begun.fit).kernels expected)

-- a refusal that was said, and stands where the files are told
pub record IsExpectRefused (names : ExpectNames) (held : Held)
    (said_before said_now : Option (List ℕ)) : Type 0
  where
    pub cause : Cause
    pub stands : IsSome held → ExpectStands names held cause
    pub said : said_now ≡ said_more said_before (line_of cause)

-- the files are as before; or none of the command's files has a cause of a refusal, and no file but
-- its output files has changed
abbrev pub ChangesExpected : ExpectNames → Held → Held → Type 0
ChangesExpected names before now =
    (now ≡ before)
    ⊎ ((can : CanExpect names before) × ChangesOnlyOutputs can.begun.fit.plan.outputs before now)

-- The outside before and after `expect` with these files, and the status that it answers.
pub record EndsExpect (names : ExpectNames) (before after : Outside) (status : Status) : Type 0
  where
    -- `Done`: the output files hold the words that the stream equations of the project say of the run,
    -- and what was said is where it is first unguarded, and first unbalanced at the report's times
    pub done :
        status ≡ Done
        → IsSome before.held
        → IsExpectDone names before.held after.held before.said after.said
    -- `Refused` comes exactly where a cause stands, and `Done` where none does and all files are held,
    -- unless a call fails or memory is short
    pub refused :
        status ≡ Refused
        → IsExpectRefused names before.held before.said after.said
    pub stands :
        (cause : Cause)
        → ExpectStands names before.held cause
        → (status ≡ Refused) ⊎ IsCutOff status
    pub expected : CanExpect names before.held → (status ≡ Done) ⊎ IsCutOff status
    -- `ReadFault` comes only where the count of read faults rose or a file that is to be read isn't
    -- held, and always there, unless memory is short; and reading a source that isn't held is no fault
    pub read_fault :
        status ≡ ReadFault
        → Rose before.read_faults after.read_faults ⊎ LacksExpected names before.held
    pub missing : LacksExpected names before.held → (status ≡ ReadFault) ⊎ (status ≡ NoMemory)
    pub missing_quiet :
        Lacks before.held names.check.source
        → after.read_faults ≡ before.read_faults
    -- no file changes but where all were read and none refused, and then the output files alone
    pub files_same : WritesNothing status → after.held ≡ before.held
    pub others : IsSome before.held → ChangesExpected names before.held after.held
    -- no edge is made
    pub no_edges : status ≡ EdgeLimit → ⊥
