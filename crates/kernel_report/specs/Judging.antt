-- Whether a part of a report is one of a kernel, and shows that its bits are the fewest.
use Rattle.std.specs.Prelude.{◌≡◌, ◌≢◌, ℕ, zero, suc, ◌<◌, ◌^◌, ℤ, pos, ◌≤ℤ◌, length}
use Rattle.cycle_find.specs.Constraints.{Numbers, numbers_of, Solves}
use Rattle.cycle_find.specs.Search.{IsFirstBroken}
use Rattle.schedule_problem.specs.Flow.{flow_of, cost_of, value_of, excess, IsFlow}
use Rattle.dual_check.specs.Balance.{IsFirstOther}
use Rattle.stream_graph.specs.declared.kernel.Kernel.{Kernel}
use Rattle.latency_table.specs.declared.table.Table.{Table}
use Rattle.offset_edges.specs.Edges.{edges_of}
use Rattle.offset_edges.specs.Latencies.{ticks_of}
use Rattle.offset_edges.specs.Problems.{problem_of}
use Rattle.offset_edges.specs.Schedules.{fifo_bits}
use Rattle.kernel_schedule.specs.Schedules.{IsLeastLegal}
use Rattle.schedule_report.specs.declared.report.ReportKernel.{ReportKernel}
use Rattle.kernel_report.specs.declared.judgement.Judgement.{Judgement}
use Rattle.kernel_report.specs.declared.judgement.Judgement.TheVariants as J
use Rattle.kernel_report.specs.Times.{whole_times}

-- the times of a part, for all nodes of the kernel's problem
abbrev pub times_in : Kernel → ReportKernel → Numbers
times_in kernel part = whole_times kernel.nodes (numbers_of part.times)

-- what they cost
abbrev pub cost_in : Table → Kernel → ReportKernel → ℤ
cost_in table kernel part = cost_of (problem_of table kernel.nodes) (times_in kernel part)

-- the first line of the part is the kernel's: its name and its counts, and the bits are what the
-- part's times cost
pub record HasHead (table : Table) (kernel : Kernel) (part : ReportKernel) : Type 0 where
  pub named : part.name ≡ kernel.name
  pub nodes : part.nodes ≡ length kernel.nodes
  pub edges : part.edges ≡ length (edges_of kernel.nodes)
  pub bits : pos part.bits ≡ cost_in table kernel part

-- the time of a node is one that a schedule has
abbrev pub IsTimely : ReportKernel → ℕ → Type 0
IsTimely part v =
    (pos 0 ≤ℤ numbers_of part.times v) × (numbers_of part.times v ≤ℤ pos (2 ^ 46))

-- the part is one of the kernel
pub record IsOf (table : Table) (kernel : Kernel) (part : ReportKernel) : Type 0 where
  pub head : HasHead table kernel part
  pub timely : (v : ℕ) → v < length kernel.nodes → IsTimely part v

-- The first line of a part that is none of the kernel's, counted from 0: the part's first line, or
-- that of a time.
abbrev pub IsMismatch : Table → Kernel → ReportKernel → ℕ → Type 0
IsMismatch table kernel part zero = HasHead table kernel part → ⊥
IsMismatch table kernel part (suc v) =
    HasHead table kernel part
    × (v < length kernel.nodes)
    × (IsTimely part v → ⊥)
    × ((u : ℕ) → u < v → IsTimely part u)

-- the times of the part are legal
abbrev pub AreLegal : Table → Kernel → ReportKernel → Type 0
AreLegal table kernel part =
    Solves (times_in kernel part) (problem_of table kernel.nodes).arcs.list

-- the part's flow is one
abbrev pub IsFlowIn : Table → Kernel → ReportKernel → Type 0
IsFlowIn table kernel part = IsFlow (problem_of table kernel.nodes) (flow_of part.flow)

-- the part is one of the kernel, its times are legal, its flow is one, and the times cost what the
-- flow is worth
pub record IsShown (table : Table) (kernel : Kernel) (part : ReportKernel) : Type 0 where
  pub of : IsOf table kernel part
  pub legal : AreLegal table kernel part
  pub flow : IsFlowIn table kernel part
  pub equal :
      cost_in table kernel part ≡ value_of (problem_of table kernel.nodes) (flow_of part.flow)

-- the part is one of the kernel, and this is the first arc that its times break
pub record BreaksArc (table : Table) (kernel : Kernel) (part : ReportKernel) (arc : ℕ) : Type 0
  where
    pub of : IsOf table kernel part
    pub first :
        IsFirstBroken (times_in kernel part) (problem_of table kernel.nodes).arcs.list arc

-- its times are legal, and this is the first node whose balance is wrong
pub record BreaksFlow (table : Table) (kernel : Kernel) (part : ReportKernel) (node : ℕ) : Type 0
  where
    pub of : IsOf table kernel part
    pub legal : AreLegal table kernel part
    pub first :
        IsFirstOther (excess (problem_of table kernel.nodes) (flow_of part.flow))
        (problem_of table kernel.nodes).arcs.nodes
        node

-- its times are legal and its flow is one, and they cost another sum than it is worth
pub record HasOtherCost (table : Table) (kernel : Kernel) (part : ReportKernel) (cost value : ℤ)
    : Type 0
  where
    pub of : IsOf table kernel part
    pub legal : AreLegal table kernel part
    pub flow : IsFlowIn table kernel part
    pub costs : cost ≡ cost_in table kernel part
    pub worth : value ≡ value_of (problem_of table kernel.nodes) (flow_of part.flow)
    pub apart : cost ≢ value

-- the judgement on a part of a report, for a kernel and a table of latencies
abbrev pub IsJudged : Table → Kernel → ReportKernel → Judgement → Type 0
IsJudged table kernel part J.Good = IsShown table kernel part
IsJudged table kernel part (J.Mismatch line) = IsMismatch table kernel part line
IsJudged table kernel part (J.BadTimes arc) = BreaksArc table kernel part arc
IsJudged table kernel part (J.BadFlow node) = BreaksFlow table kernel part node
IsJudged table kernel part (J.CostsDiffer cost value) = HasOtherCost table kernel part cost value

-- The times of a part that is shown are a legal schedule, whose FIFOs hold the part's bits, and no
-- legal schedule has FIFOs of fewer bits.
pub record IsLeastOf (table : Table) (kernel : Kernel) (part : ReportKernel) : Type 0 where
  pub least : IsLeastLegal table kernel.nodes (numbers_of part.times)
  pub bits :
      pos part.bits
      ≡ fifo_bits (ticks_of table kernel.nodes) kernel.nodes (edges_of kernel.nodes)
      (numbers_of part.times)

abbrev pub ShownAreLeast : Table → Kernel → Type 0
ShownAreLeast table kernel =
    (part : ReportKernel) → IsShown table kernel part → IsLeastOf table kernel part
