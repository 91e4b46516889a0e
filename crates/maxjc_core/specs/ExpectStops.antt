-- What `expect` has of its files before anything is written, as the code has it.
use Rattle.std.specs.Prelude.{ℕ, ◌≡◌, ◌≤◌, ◌<◌, ◌^◌, List, [], ◌∷◌, ◌++◌, All, map, length, slice_index, Option}
use Rattle.std.specs.List.{AllZip}
use Rattle.kernel_control.specs.Ports.{scalars_of}
use Rattle.manager_links.specs.Links.{AreLinksOf, IsWithinLimit}
use Rattle.manager_links.specs.declared.project.Project.{Project}
use Rattle.mx_base.specs.Files.{Name, Held}
use Rattle.project_rtl.specs.Shapes.{shape_of}
use Rattle.project_streams.specs.Streams.{GivenProject}
use Rattle.project_words.specs.Given.{word_count}
use Rattle.rtl_ir.specs.Rules.{AllDiffer}
use Rattle.schedule_report.specs.declared.report.Report.{Report}
use Rattle.simulation.specs.Plans.{FitsShape, AreApart}
use Rattle.simulation.specs.declared.plan.Plan.{Plan}
use Rattle.stream_expect.specs.Expected.{IsExpectedOf}
use Rattle.stream_expect.specs.declared.expected.Expected.{Expected}
use Rattle.stream_graph.specs.declared.kernel.Kernel.{Kernel}
use Rattle.word_lists.specs.Written.{HaveWidth}
use Rattle.maxjc_core.specs.CompileCauses.{file_limit, IsWithin}
use Rattle.maxjc_core.specs.CheckStops.{AreInputs, ShowsAs}
use Rattle.maxjc_core.specs.Command.{ExpectNames}
use Rattle.maxjc_core.specs.ExpectLines.{expected_lines}
use Rattle.maxjc_core.specs.Expecting.{report_times, project_of, IsExpectable, IsGivenBy, IsExpected}
use Rattle.maxjc_core.specs.InputWords.{Reading, readings_of}
use Rattle.maxjc_core.specs.RunFiles.{IsPlanOfBytes}
use Rattle.maxjc_core.specs.declared.begin.Begun.{Begun}
use Rattle.maxjc_core.specs.declared.expect.Answer.{Answer}
use Rattle.maxjc_core.specs.declared.linked.Linked.{Linked}

-- the files of `expect` are held and within the limit, with these bytes
pub record AreRunInputs (names : ExpectNames) (held : Held) (source table report run : List ℕ)
    : Type 0
  where
    pub check : AreInputs names.check held source table report
    pub run_is : IsWithin file_limit held names.run run

-- the project of these bytes, with the times of its report, and the links that it has at them
pub record LinksAs (source table bytes : List ℕ) (linked : Linked) : Type 0 where
  pub report : Report
  pub shows : ShowsAs source table bytes linked.project report
  pub times : linked.times ≡ report_times report
  pub are : AreLinksOf linked.project linked.times linked.links
  pub shallow : All IsWithinLimit linked.links.links

-- and with the plan of a run file
pub record BeginsAs (source table bytes run : List ℕ) (begun : Begun) : Type 0 where
  pub linked : LinksAs source table bytes begun.linked
  pub planned : IsPlanOfBytes run (shape_of begun.linked.project) begun.plan
  pub few : word_count begun.linked.project.kernels begun.plan.ticks ≤ 2 ^ 24

-- the plan has what the ports ask for, and each output a file of its own
pub record FitsPorts (project : Project) (plan : Plan) : Type 0 where
  pub fits : FitsShape plan (shape_of project)
  pub apart : AreApart plan

-- these bytes and these begin a run, and its plan fits the ports of the project
pub record IsReady (begun : Begun) : Type 0 where
  pub source : List ℕ
  pub table : List ℕ
  pub bytes : List ℕ
  pub run : List ℕ
  pub begins : BeginsAs source table bytes run begun
  pub fits : FitsPorts begun.linked.project begun.plan

-- those of the files begin it
pub record BeginsIn (names : ExpectNames) (held : Held) (begun : Begun) : Type 0 where
  pub files : IsExpectable names held
  pub begins :
      BeginsAs files.check.project.source files.check.project.table files.check.report files.run begun

-- what is read of the input files of a run
abbrev pub readings_in : Begun → List Reading
readings_in begun =
    readings_of begun.plan.ticks begun.linked.project.joints.inputs begun.plan.inputs

-- a width of words
abbrev pub IsWordWidth : ℕ → Type 0
IsWordWidth width = (1 ≤ width) × (width ≤ 128)

-- each word of a list is one of its reading's width
abbrev pub AreWithin : Reading → List ℕ → Type 0
AreWithin r words = All (λ w. w < 2 ^ r.width) words

-- a word for each node of a kernel, of which those of its scalars are these
pub record AreNodeWords (kernel : Kernel) (words own : List ℕ) : Type 0 where
  pub each : length words ≡ length kernel.nodes
  pub scalars : map (slice_index words) (scalars_of kernel.nodes) ≡ own

-- such lists for kernels, of the scalars of all of them
abbrev pub AreNodeLists : List Kernel → List (List ℕ) → List ℕ → Type 0
AreNodeLists [] [] scalars = scalars ≡ []
AreNodeLists (kernel ∷ kernels) (words ∷ lists) scalars =
    (own : List ℕ) × (others : List ℕ) × AreNodeWords kernel words own
    × AreNodeLists kernels lists others
    × (scalars ≡ own ++ others)
AreNodeLists kernels lists scalars = ⊥

-- words of an output have the width of its file
abbrev pub IsOutput : Name × ℕ → List (Option ℕ) → Type 0
IsOutput file words = IsWordWidth file.1 × HaveWidth file.1 words

-- they can be written, and to a file of each output's own
pub record CanWrite (outputs : List (Name × ℕ)) (lists : List (List (Option ℕ))) : Type 0 where
  pub each : AllZip IsOutput outputs lists
  pub apart : AllDiffer (map (λ (file : Name × ℕ). file.0) outputs)

-- what the stream equations say of a run that begins with this, over these words
pub record IsExpectedIn (begun : Begun) (lists : List (List ℕ)) (expected : Expected) : Type 0
  where
    pub given : GivenProject
    pub gives : IsGivenBy begun.linked.project begun.plan lists given
    pub is :
        IsExpectedOf begun.linked.project begun.linked.times begun.linked.links given expected

-- and what is to be written and said of it
pub record IsAnswerOf (begun : Begun) (lists : List (List ℕ)) (answer : Answer) : Type 0 where
  pub expected : Expected
  pub is : IsExpectedIn begun lists expected
  pub outputs : answer.outputs ≡ begun.plan.outputs
  pub words : answer.words ≡ expected.outputs
  pub lines : answer.lines.items ≡ expected_lines begun.linked.project.kernels expected

-- what is to be written and said of the files
pub record AnswersAs (names : ExpectNames) (held : Held) (answer : Answer) : Type 0 where
  pub expected : Expected
  pub is : IsExpected names held expected
  pub outputs : answer.outputs ≡ is.can.begun.fit.plan.outputs
  pub words : answer.words ≡ expected.outputs
  pub lines : answer.lines.items ≡ expected_lines (project_of is.can.begun.fit).kernels expected
