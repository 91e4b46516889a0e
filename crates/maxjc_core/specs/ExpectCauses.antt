-- Why `expect` refuses its files, in the order in which this is looked for.
use Rattle.std.specs.Prelude.{ℕ, ℤ, ◌⊎◌, List}
use Rattle.manager_links.specs.Links.{IsFirstTooDeep}
use Rattle.manager_links.specs.declared.project.Project.{Project}
use Rattle.mx_base.specs.Files.{Held, Lacks}
use Rattle.project_rtl.specs.Shapes.{shape_of}
use Rattle.stream_expect.specs.Refused.{IsTooLarge}
use Rattle.stream_graph.specs.declared.kernel.Kernel.{Kernel}
use Rattle.maxjc_core.specs.CompileCauses.{file_limit, IsPast}
use Rattle.maxjc_core.specs.CheckCauses.{IsCheckable, IsOfCheck, IsInputTooLarge, LacksChecked}
use Rattle.maxjc_core.specs.Checking.{IsShowing}
use Rattle.maxjc_core.specs.Command.{ExpectNames}
use Rattle.maxjc_core.specs.Expecting.{
  report_times,
  IsLinked,
  FitsProject,
  project_of,
  IsExpectable,
  CanBegin,
  readings,
}
use Rattle.maxjc_core.specs.InputWords.{IsFirstLineFault, LacksWords}
use Rattle.maxjc_core.specs.CauseLines.{Cause, TooLarge, LinkTooDeep, TooManyWords}
use Rattle.maxjc_core.specs.RunFiles.{HasNoPlan}

-- ---- the bytes of the files

-- the cause is the first link of a project that is too deep at these times
pub data IsTooDeep (project : Project) (times : List (List ℤ)) : Cause → Type 0 where
  at_link :
      (number words : ℕ)
      → IsFirstTooDeep project times number words
      → IsTooDeep project times (LinkTooDeep number words)

-- The cause for which the bytes of a source, of a table and of a report have no links, the first
-- that stands: a cause of `check`, or a link that is too deep at the report's times.
pub data HasNoLinks (source table report : List ℕ) : Cause → Type 0 where
  of_check :
      (cause : Cause)
      → IsOfCheck source table report cause
      → HasNoLinks source table report cause
  too_deep :
      (shows : IsShowing source table report) (cause : Cause)
      → IsTooDeep shows.project (report_times shows.report) cause
      → HasNoLinks source table report cause

-- the cause is that kernels have too many words in so many ticks each
pub data HaveTooMany (kernels : List Kernel) (ticks : List ℕ) : Cause → Type 0 where
  counted :
      (words : ℕ)
      → IsTooLarge kernels ticks words
      → HaveTooMany kernels ticks (TooManyWords words)

-- The cause for which those bytes and the bytes of a run file don't fit together, or their run has
-- too many words, the first that stands.
pub data IsOfExpect (source table report run : List ℕ) : Cause → Type 0 where
  no_links :
      (cause : Cause)
      → HasNoLinks source table report cause
      → IsOfExpect source table report run cause
  no_plan :
      (linked : IsLinked source table report) (cause : Cause)
      → HasNoPlan run (shape_of linked.shows.project) cause
      → IsOfExpect source table report run cause
  too_many_words :
      (fit : FitsProject source table report run) (cause : Cause)
      → HaveTooMany (project_of fit).kernels fit.plan.ticks cause
      → IsOfExpect source table report run cause

-- ---- the files

-- a source, a table and a report within the limit, and what holds of the run file after them
pub record AfterReport (names : ExpectNames) (held : Held) (P : Type 0) : Type 0 where
  pub check : IsCheckable names.check held
  pub then_run : P

-- the cause is that one of the four files is past the limit, and none before it
pub data IsFileTooLarge (names : ExpectNames) (held : Held) : Cause → Type 0 where
  input :
      (cause : Cause)
      → IsInputTooLarge names.check held cause
      → IsFileTooLarge names held cause
  run :
      AfterReport names held (IsPast file_limit held names.run)
      → IsFileTooLarge names held (TooLarge names.run)

-- the cause stands, and none before it
pub data ExpectStands (names : ExpectNames) (held : Held) : Cause → Type 0 where
  too_large : (cause : Cause) → IsFileTooLarge names held cause → ExpectStands names held cause
  of_files :
      (files : IsExpectable names held) (cause : Cause)
      → IsOfExpect files.check.project.source files.check.project.table files.check.report files.run
      cause
      → ExpectStands names held cause
  of_words :
      (begun : CanBegin names held) (cause : Cause)
      → IsFirstLineFault held (readings begun) cause
      → ExpectStands names held cause

-- one of the four files isn't held
abbrev pub LacksFile : ExpectNames → Held → Type 0
LacksFile names held = LacksChecked names.check held ⊎ AfterReport names held (Lacks held names.run)

-- a file that is to be read isn't held: one of the four, or an input file
abbrev pub LacksExpected : ExpectNames → Held → Type 0
LacksExpected names held =
    LacksFile names held ⊎ ((begun : CanBegin names held) × LacksWords held (readings begun))
