-- What the steps of a judgement say.
use Rattle.std.specs.Prelude.{◌≡◌, ℕ, ◌<◌, length}
use Rattle.stream_graph.specs.declared.kernel.Kernel.{Kernel}
use Rattle.offset_edges.specs.Edges.{edges_of}
use Rattle.schedule_report.specs.declared.report.ReportKernel.{ReportKernel}
use Rattle.dual_check.specs.declared.verdict.Verdict.{Verdict}
use Rattle.dual_check.specs.declared.verdict.Verdict.TheVariants as V
use Rattle.kernel_report.specs.declared.judgement.Judgement.{Judgement}
use Rattle.kernel_report.specs.declared.judgement.Judgement.TheVariants as J
use Rattle.kernel_report.specs.Judging.{IsTimely}

-- the part has the kernel's name and counts
pub record HasCounts (kernel : Kernel) (part : ReportKernel) : Type 0 where
  pub named : part.name ≡ kernel.name
  pub nodes : part.nodes ≡ length kernel.nodes
  pub edges : part.edges ≡ length (edges_of kernel.nodes)

-- the first node whose time no schedule has
pub record IsFirstUntimely (part : ReportKernel) (v : ℕ) : Type 0 where
  pub node : v < length part.times
  pub untimely : IsTimely part v → ⊥
  pub before : (u : ℕ) → u < v → IsTimely part u

-- the judgement that a verdict on the times and the flow makes
abbrev pub judgement_of : Verdict → Judgement
judgement_of V.Good = J.Good
judgement_of (V.BadTimes arc) = J.BadTimes arc
judgement_of (V.BadFlow node) = J.BadFlow node
judgement_of (V.CostsDiffer cost value) = J.CostsDiffer cost value
