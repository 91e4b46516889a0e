-- How far a report has been read, and what a line changes of that.
use Rattle.std.specs.Prelude.{
  ◌≡◌,
  ◌⊎◌,
  ℕ,
  ℤ,
  ◌+◌,
  ◌*◌,
  ◌^◌,
  ◌<◌,
  ◌≤◌,
  ◌==◌,
  ◌&&◌,
  if◌then◌else◌,
  List,
  [],
  ◌∷◌,
  ◌++◌,
  length,
  codes,
  unsigned_abs,
  All,
  IsTrue,
}
use Rattle.std.specs.List.{flat_map}
use Rattle.kernel_calls.specs.Laws.{is_port_name}
use Rattle.schedule_report.specs.declared.report.ReportKernel.{ReportKernel}
use Rattle.schedule_report.specs.declared.stage.Stage.{Stage}
use Rattle.schedule_report.specs.declared.stage.Stage.TheVariants.{Start, Between, Within, Done}
use Rattle.schedule_report.specs.Fields.{IsTime}
use Rattle.schedule_report.specs.Reports.{IsKernelPart, kernel_line, kernel_lines, flow_line}

-- the first line
abbrev pub first_line : List ℕ
first_line = codes "maxjc-report 1"

-- what a kernel's line says, with no time and no flow behind it yet
pub record IsHead (k : ReportKernel) : Type 0 where
  pub named : IsTrue (is_port_name k.name)
  pub nodes : k.nodes < 2 ^ 32
  pub edges : k.edges < 2 ^ 32
  pub bits : k.bits < 2 ^ 63
  pub timeless : k.times ≡ []
  pub flowless : k.flow ≡ []

-- the first lines of a kernel's part: flows come behind all of the times
pub record IsPartial (k : ReportKernel) : Type 0 where
  pub named : IsTrue (is_port_name k.name)
  pub nodes : k.nodes < 2 ^ 32
  pub edges : k.edges < 2 ^ 32
  pub bits : k.bits < 2 ^ 63
  pub times_within : length k.times ≤ k.nodes
  pub flow_within : length k.flow ≤ 2 * k.edges
  pub order : 0 < length k.flow → length k.times ≡ k.nodes
  pub times : All (λ s. unsigned_abs s ≤ 2 ^ 60) k.times
  pub flow : All (λ f. f < 2 ^ 63) k.flow

-- the same where a time or a flow is still to come
pub record IsOpen (k : ReportKernel) : Type 0 where
  pub part : IsPartial k
  pub left : length k.times + length k.flow < k.nodes + 2 * k.edges

abbrev pub IsStage : Stage → Type 0
IsStage Start = Unit {0}
IsStage (Between ks) = All IsKernelPart ks
IsStage (Within ks k) = All IsKernelPart ks × IsOpen k
IsStage (Done ks) = All IsKernelPart ks

-- the lines so far
abbrev pub lines_of : Stage → List (List ℕ)
lines_of Start = []
lines_of (Between ks) = first_line ∷ flat_map kernel_lines ks
lines_of (Within ks k) = first_line ∷ (flat_map kernel_lines ks ++ kernel_lines k)
lines_of (Done ks) = first_line ∷ (flat_map kernel_lines ks ++ codes "end" ∷ [])

-- behind these kernels and this one, which may be whole now
abbrev pub settled : List ReportKernel → ReportKernel → Stage
settled ks k = if length k.times == k.nodes && length k.flow == 2 * k.edges then Between (ks ++ k ∷ []) else Within ks k

abbrev pub with_time : ReportKernel → ℤ → ReportKernel
with_time k s = record k { times = k.times ++ s ∷ [] }

abbrev pub with_flow : ReportKernel → ℕ → ReportKernel
with_flow k f = record k { flow = k.flow ++ f ∷ [] }

-- a kernel's line
pub record NextKernel (ks : List ReportKernel) (line : List ℕ) (new : Stage) : Type 0 where
  pub kernel : ReportKernel
  pub head : IsHead kernel
  pub line_is : line ≡ kernel_line kernel
  pub new_is : new ≡ settled ks kernel

-- a time, where one is still to come
pub record NextTime (ks : List ReportKernel) (k : ReportKernel) (line : List ℕ) (new : Stage) : Type 0 where
  pub missing : length k.times < k.nodes
  pub time : ℤ
  pub says : IsTime line time
  pub new_is : new ≡ settled ks (with_time k time)

-- a flow, behind all of the times
pub record NextFlow (ks : List ReportKernel) (k : ReportKernel) (line : List ℕ) (new : Stage) : Type 0 where
  pub timed : k.nodes ≤ length k.times
  pub flow : ℕ
  pub small : flow < 2 ^ 63
  pub line_is : line ≡ flow_line flow
  pub new_is : new ≡ settled ks (with_flow k flow)

-- the line leads from one stage to the other
abbrev pub Next : Stage → List ℕ → Stage → Type 0
Next Start line new = (line ≡ first_line) × (new ≡ Between [])
Next (Between ks) line new = ((line ≡ codes "end") × (new ≡ Done ks)) ⊎ NextKernel ks line new
Next (Within ks k) line new = NextTime ks k line new ⊎ NextFlow ks k line new
Next (Done ks) line new = ⊥

-- the lines lead from one stage to the other, one after another
abbrev pub Runs : Stage → List (List ℕ) → Stage → Type 0
Runs old [] new = old ≡ new
Runs old (line ∷ lines) new = (mid : Stage) × Next old line mid × Runs mid lines new
