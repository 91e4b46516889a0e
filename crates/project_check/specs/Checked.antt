-- What a report shows of a project's kernels.
use Rattle.std.specs.Prelude.{◌≡◌, ℕ, ◌+◌, ◌≤◌, ◌^◌, List, [], ◌∷◌, length, All}
use Rattle.std.specs.List.{AllZip}
use Rattle.cycle_find.specs.Constraints.{NeedsWithin}
use Rattle.schedule_problem.specs.declared.problem.Problem.{Problem}
use Rattle.schedule_problem.specs.Optimum.{IsProblem}
use Rattle.stream_graph.specs.declared.kernel.Kernel.{Kernel}
use Rattle.latency_table.specs.declared.table.Table.{Table}
use Rattle.offset_edges.specs.Edges.{edges_of}
use Rattle.offset_edges.specs.Latencies.{AllTimed}
use Rattle.offset_edges.specs.Problems.{problem_of}
use Rattle.offset_edges.specs.Walks.{IsCausal}
use Rattle.schedule_report.specs.declared.report.Report.{Report}
use Rattle.schedule_report.specs.declared.report.ReportKernel.{ReportKernel}
use Rattle.schedule_report.specs.Reading.{Says}
use Rattle.kernel_report.specs.declared.judgement.Judgement.{Judgement}
use Rattle.kernel_report.specs.Judging.{IsShown, IsJudged, IsLeastOf}

-- a kernel that has a problem of schedules: the table has a latency for each of its nodes, and it is
-- causal
pub record HasProblem (table : Table) (kernel : Kernel) : Type 0 where
  pub timed : AllTimed table kernel.nodes
  pub causal : IsCausal (edges_of kernel.nodes)

-- each part is shown for its kernel
abbrev pub AllShown : Table → List Kernel → List ReportKernel → Type 0
AllShown table kernels parts = AllZip (IsShown table) kernels parts

-- The bytes are this report, whose parts are those of these kernels, which have problems of
-- schedules. Each part is shown: its times are a legal schedule whose FIFOs hold the part's bits, and
-- no legal schedule has FIFOs of fewer bits.
pub record IsCheckedReport (table : Table) (kernels : List Kernel) (bytes : List ℕ)
    (report : Report) : Type 0
  where
    pub says : Says bytes report
    pub problems : All (HasProblem table) kernels
    pub shown : AllShown table kernels report.kernels
    pub least : AllZip (IsLeastOf table) kernels report.kernels

-- ---- step by step

-- the problem of a kernel, small enough to be judged by
pub record IsProblemOf (table : Table) (kernel : Kernel) (problem : Problem) : Type 0 where
  pub is : problem ≡ problem_of table kernel.nodes
  pub solvable : IsProblem problem
  pub few : length problem.arcs.list ≤ 2 ^ 20
  pub small : NeedsWithin (2 ^ 32 + 64) problem.arcs.list

abbrev pub AreProblems : Table → List Kernel → List Problem → Type 0
AreProblems table kernels problems = AllZip (IsProblemOf table) kernels problems

-- each part that stands at the place of a kernel is judged
abbrev pub AreJudged :
    Table → List Kernel → List ReportKernel → List Judgement → Type 0
AreJudged table (kernel ∷ kernels) (part ∷ parts) (judgement ∷ judgements) =
    IsJudged table kernel part judgement × AreJudged table kernels parts judgements
AreJudged table (kernel ∷ kernels) (part ∷ parts) [] = ⊥
AreJudged table [] parts judgements = judgements ≡ []
AreJudged table kernels [] judgements = judgements ≡ []
