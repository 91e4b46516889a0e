-- The run that the files of `expect` say, and what the stream equations say of it.
use Rattle.std.specs.Prelude.{ℕ, ℤ, ◌≡◌, ◌≤◌, ◌^◌, List, map, All}
use Rattle.manager_links.specs.Links.{AreLinksOf, IsWithinLimit}
use Rattle.manager_links.specs.declared.links.Links.{Links}
use Rattle.manager_links.specs.declared.project.Project.{Project}
use Rattle.mx_base.specs.Files.{Held}
use Rattle.project_rtl.specs.Shapes.{shape_of}
use Rattle.project_rtl.specs.Words.{ticks_from, scalars_from}
use Rattle.project_streams.specs.Streams.{GivenProject}
use Rattle.project_words.specs.Given.{word_count}
use Rattle.schedule_report.specs.declared.report.Report.{Report}
use Rattle.schedule_report.specs.declared.report.ReportKernel.{ReportKernel}
use Rattle.simulation.specs.declared.plan.Plan.{Plan}
use Rattle.stream_expect.specs.Expected.{IsExpectedOf}
use Rattle.stream_expect.specs.declared.expected.Expected.{Expected}
use Rattle.maxjc_core.specs.CompileCauses.{file_limit, IsWithin}
use Rattle.maxjc_core.specs.CheckCauses.{IsCheckable}
use Rattle.maxjc_core.specs.Checking.{IsShowing}
use Rattle.maxjc_core.specs.Command.{ExpectNames}
use Rattle.maxjc_core.specs.InputWords.{Reading, readings_of, HaveWords}
use Rattle.maxjc_core.specs.RunFiles.{IsPlanOfBytes}

-- ---- what fits together

-- the times that a report says, a list for each kernel
abbrev pub report_times : Report → List (List ℤ)
report_times report = map (λ (part : ReportKernel). part.times) report.kernels

-- The bytes of a source, of a latency table and of a report on the project that the source builds:
-- the report is shown, and at its times no link of the project is too deep.
pub record IsLinked (source table report : List ℕ) : Type 0 where
  pub shows : IsShowing source table report
  pub made : Links
  pub are : AreLinksOf shows.project (report_times shows.report) made
  pub shallow : All IsWithinLimit made.links

-- with the bytes of a run file that fits the ports of the project's design
pub record FitsProject (source table report run : List ℕ) : Type 0 where
  pub linked : IsLinked source table report
  pub plan : Plan
  pub planned : IsPlanOfBytes run (shape_of linked.shows.project) plan

-- the project that is run, and how many words its kernels have in this run
abbrev pub project_of : {source table report run : List ℕ}
    → FitsProject source table report run → Project
project_of fit = fit.linked.shows.project

abbrev pub words_in : {source table report run : List ℕ} → FitsProject source table report run → ℕ
words_in fit = word_count fit.linked.shows.project.kernels fit.plan.ticks

-- ---- the files

-- the run file is read after the files of a check, and they are looked at after all four
pub record IsExpectable (names : ExpectNames) (held : Held) : Type 0 where
  pub check : IsCheckable names.check held
  pub run : List ℕ
  pub run_is : IsWithin file_limit held names.run run

-- they fit together, and the kernels have at most 2^24 words in the run
pub record CanBegin (names : ExpectNames) (held : Held) : Type 0 where
  pub files : IsExpectable names held
  pub fit :
      FitsProject files.check.project.source files.check.project.table files.check.report files.run
  pub few : words_in fit ≤ 2 ^ 24

-- what is read of the input files, in the order of the ports
abbrev pub readings : {names : ExpectNames} {held : Held} → CanBegin names held → List Reading
readings begun =
    readings_of begun.fit.plan.ticks (project_of begun.fit).joints.inputs begun.fit.plan.inputs

-- and each line of these that is to be read says a word
pub record CanExpect (names : ExpectNames) (held : Held) : Type 0 where
  pub begun : CanBegin names held
  pub words : List (List ℕ)
  pub have : HaveWords held (readings begun) words

-- ---- the run

-- the ticks of the kernels and the words of their scalars are those of a plan, and the words of the
-- streams from the CPU are these
pub record IsGivenBy (project : Project) (plan : Plan) (lists : List (List ℕ))
    (given : GivenProject) : Type 0
  where
    pub ticks : ticks_from given 0 project.kernels ≡ plan.ticks
    pub scalars : scalars_from given 0 project.kernels ≡ plan.scalars
    pub words : given.words ≡ lists

-- what the stream equations say of the run that the files say, and of the ideal run at the report's
-- times
pub record IsExpected (names : ExpectNames) (held : Held) (expected : Expected) : Type 0 where
  pub can : CanExpect names held
  pub given : GivenProject
  pub gives : IsGivenBy (project_of can.begun.fit) can.begun.fit.plan can.words given
  pub is :
      IsExpectedOf (project_of can.begun.fit) (report_times can.begun.fit.linked.shows.report)
      can.begun.fit.linked.made given expected
