-- Why a report on a project's kernels is refused.
use Rattle.std.specs.Prelude.{
  ◌≡◌,
  ◌⊎◌,
  ℕ,
  ◌+◌,
  ◌*◌,
  ℤ,
  List,
  [],
  ◌∷◌,
  ◌++◌,
  All,
  Option,
  Some,
  None,
  codes,
}
use Rattle.std.specs.Fmt.{decimal, signed_decimal}
use Rattle.std.specs.List.{AllZip}
use Rattle.refusal_line.specs.Lines.{refused}
use Rattle.stream_graph.specs.declared.kernel.Kernel.{Kernel}
use Rattle.latency_table.specs.declared.table.Table.{Table}
use Rattle.offset_edges.specs.declared.error.EdgeError.{EdgeError}
use Rattle.offset_edges.specs.declared.error.EdgeError.TheVariants as edge_errors
use Rattle.offset_edges.specs.Refused as Edges
use Rattle.schedule_report.specs.declared.report.Report.{Report}
use Rattle.schedule_report.specs.declared.report.ReportKernel.{ReportKernel}
use Rattle.schedule_report.specs.Reading.{Says, IsFirstWrong}
use Rattle.kernel_report.specs.Judging.{
  IsOf,
  IsMismatch,
  IsShown,
  BreaksArc,
  BreaksFlow,
  HasOtherCost,
}
use Rattle.project_check.specs.declared.error.CheckError.{CheckError}
use Rattle.project_check.specs.declared.error.CheckError.TheVariants as E
use Rattle.project_check.specs.Checked.{HasProblem}

-- ---- kernels without problems

-- this is the first kernel that has no problem, and why
pub record LacksProblem (table : Table) (kernels : List Kernel) (name : List ℕ)
    (error : EdgeError) : Type 0
  where
    pub kernel : Kernel
    pub before : List Kernel
    pub after : List Kernel
    pub split : kernels ≡ before ++ kernel ∷ after
    pub earlier : All (HasProblem table) before
    pub named : name ≡ kernel.name
    pub fault : error ≡ edge_errors.NoMemory → ⊥
    pub refused : Edges.IsRefused table kernel.nodes error

-- ---- lines that are none of the kernels

-- how many lines a part of a report has: its first one, one for each node, and two for each edge
abbrev pub lines_of : ReportKernel → ℕ
lines_of part = 1 + part.nodes + 2 * part.edges

-- The line of this number is the first that is none of a report on these kernels, where these parts
-- begin at a line: a line of a part that is none of its kernel; the line behind the parts where one
-- is missing; and the first line of one more.
abbrev pub IsFirstOther : Table → ℕ → List Kernel → List ReportKernel → ℕ → Type 0
IsFirstOther table begin [] [] line = ⊥
IsFirstOther table begin [] (part ∷ parts) line = line ≡ begin
IsFirstOther table begin (kernel ∷ kernels) [] line = line ≡ begin
IsFirstOther table begin (kernel ∷ kernels) (part ∷ parts) line =
    ((behind : ℕ) × IsMismatch table kernel part behind × (line ≡ begin + behind))
    ⊎ (IsOf table kernel part × IsFirstOther table (begin + lines_of part) kernels parts line)

-- each part is one of its kernel
abbrev pub AreOf : Table → List Kernel → List ReportKernel → Type 0
AreOf table kernels parts = AllZip (IsOf table) kernels parts

-- ---- parts that aren't shown

-- why a part of a kernel isn't shown: its times, else its flow, else what they cost
pub data IsPartFault (table : Table) (kernel : Kernel) (part : ReportKernel) : CheckError → Type 0
  where
    times :
        (arc : ℕ)
        → BreaksArc table kernel part arc
        → IsPartFault table kernel part (E.BrokenArc kernel.name arc)
    flow :
        (node : ℕ)
        → BreaksFlow table kernel part node
        → IsPartFault table kernel part (E.Unbalanced kernel.name node)
    costs :
        (cost value : ℤ)
        → HasOtherCost table kernel part cost value
        → IsPartFault table kernel part (E.CostsDiffer kernel.name cost value)

-- of these parts, one for each kernel, the first that isn't shown, and why
abbrev pub IsFirstFault : Table → List Kernel → List ReportKernel → CheckError → Type 0
IsFirstFault table (kernel ∷ kernels) (part ∷ parts) error =
    IsPartFault table kernel part error
    ⊎ (IsShown table kernel part × IsFirstFault table kernels parts error)
IsFirstFault table kernels parts error = ⊥

-- ---- the causes

-- The cause for which the bytes of a report on these kernels are refused, the first that stands: a
-- kernel has no problem; they are no report; a line is none of these kernels; a part isn't shown.
pub data IsNotChecked (table : Table) (kernels : List Kernel) (bytes : List ℕ) : CheckError → Type 0
  where
    problem :
        (name : List ℕ) (error : EdgeError)
        → LacksProblem table kernels name error
        → IsNotChecked table kernels bytes (E.Problem name error)
    form :
        (line : ℕ)
        → All (HasProblem table) kernels
        → IsFirstWrong bytes line
        → IsNotChecked table kernels bytes (E.NoReport line)
    other :
        (report : Report) (line : ℕ)
        → All (HasProblem table) kernels
        → Says bytes report
        → IsFirstOther table 2 kernels report.kernels line
        → IsNotChecked table kernels bytes (E.Other line)
    fault :
        (report : Report) (error : CheckError)
        → All (HasProblem table) kernels
        → Says bytes report
        → AreOf table kernels report.kernels
        → IsFirstFault table kernels report.kernels error
        → IsNotChecked table kernels bytes error

-- memory was short, or that is the cause
abbrev pub IsRefused : Table → List Kernel → List ℕ → CheckError → Type 0
IsRefused table kernels bytes error =
    (error ≡ E.NoMemory) ⊎ IsNotChecked table kernels bytes error

-- ---- step by step

-- memory was short, or one of these kernels has no problem
abbrev pub MayLackProblem : Table → List Kernel → CheckError → Type 0
MayLackProblem table kernels (E.Problem name error) = LacksProblem table kernels name error
MayLackProblem table kernels error = error ≡ E.NoMemory

-- memory was short, or this kernel has no problem for this reason
pub record SaysProblem (kernel : Kernel) (error said : EdgeError) (name : List ℕ) : Type 0 where
  pub named : name ≡ kernel.name
  pub same : said ≡ error
  pub fault : error ≡ edge_errors.NoMemory → ⊥

abbrev pub IsOfProblem : Kernel → EdgeError → CheckError → Type 0
IsOfProblem kernel error (E.Problem name told) = SaysProblem kernel error told name
IsOfProblem kernel error told = told ≡ E.NoMemory

-- memory was short, or the bytes are no report
abbrev pub MayBeWrong : List ℕ → CheckError → Type 0
MayBeWrong bytes (E.NoReport line) = IsFirstWrong bytes line
MayBeWrong bytes error = error ≡ E.NoMemory

-- a line of these parts, which begin at line 2, is none of these kernels
abbrev pub MayHaveOther : Table → List Kernel → List ReportKernel → CheckError → Type 0
MayHaveOther table kernels parts (E.Other line) = IsFirstOther table 2 kernels parts line
MayHaveOther table kernels parts error = ⊥

-- memory was short, or a part isn't shown
abbrev pub MayBeFault : Table → Kernel → ReportKernel → CheckError → Type 0
MayBeFault table kernel part error =
    (error ≡ E.NoMemory) ⊎ IsPartFault table kernel part error

abbrev pub MayHaveFault : Table → List Kernel → List ReportKernel → CheckError → Type 0
MayHaveFault table kernels parts error =
    (error ≡ E.NoMemory) ⊎ IsFirstFault table kernels parts error

-- ---- what is said

-- the line that is said. Want of memory says none
abbrev pub said : CheckError → Option (List ℕ)
said (E.Problem kernel error) = Edges.said kernel error
said (E.NoReport line) = Some (refused (codes "Q1") (decimal line ∷ []))
said (E.Other line) = Some (refused (codes "Q2") (decimal line ∷ []))
said (E.BrokenArc kernel arc) = Some (refused (codes "Q3") (kernel ∷ decimal arc ∷ []))
said (E.Unbalanced kernel node) = Some (refused (codes "Q4") (kernel ∷ decimal node ∷ []))
said (E.CostsDiffer kernel cost value) =
    Some (refused (codes "Q5") (kernel ∷ signed_decimal cost ∷ signed_decimal value ∷ []))
said E.NoMemory = None
