-- Why a report is refused, by what its steps say.
use Rattle.std.proofs.Common.{◌≡◌, ◌∙◌, ⊎_elim, inl, inr, ℕ, zero, suc, ◌+◌, ◌<◌, ◌≤◌, ℤ, List, [], ◌∷◌, length, get_or, take, drop, refl, sym, subst}
use Rattle.std.specs.Prelude.{All}
use Rattle.std.proofs.lemmas.List.{drop_all}
use Rattle.stream_graph.specs.declared.kernel.Kernel.{Kernel}
use Rattle.latency_table.specs.declared.table.Table.{Table}
use Rattle.offset_edges.specs.declared.error.EdgeError.{EdgeError}
use Rattle.offset_edges.specs.Refused as Edges
use Rattle.schedule_report.specs.declared.report.Report.{Report}
use Rattle.schedule_report.specs.declared.report.ReportKernel.{ReportKernel}
use Rattle.schedule_report.specs.Reading.{Says}
use Rattle.kernel_report.specs.declared.judgement.Judgement.{Judgement}
use Rattle.kernel_report.specs.declared.judgement.Judgement.TheVariants as J
use Rattle.kernel_report.specs.Judging.{IsJudged}
use Rattle.project_check.specs.declared.error.CheckError.{CheckError}
use Rattle.project_check.specs.declared.error.CheckError.TheVariants as E
use Rattle.project_check.specs.Checked.{HasProblem, AllShown}
use Rattle.project_check.specs.Refused.{
  IsFirstOther,
  AreOf,
  IsPartFault,
  IsFirstFault,
  IsNotChecked,
  IsRefused,
  MayLackProblem,
  IsOfProblem,
  MayBeWrong,
  MayBeFault,
  MayHaveOther,
  MayHaveFault,
}
use Rattle.project_check.proofs.Pieces.{item_at, drop_read, split_read}

-- ---- one step

-- a kernel that has no problem, behind kernels that have one
pub of_problem : (table : Table) (kernels : List Kernel) (i : ℕ) (kernel : Kernel)
    (error : EdgeError) (told : CheckError) → i < length kernels
    → kernel ≡ get_or kernels i kernel → All (HasProblem table) (take i kernels)
    → Edges.IsRefused table kernel.nodes error → IsOfProblem kernel error told
    → MayLackProblem table kernels told
of_problem table kernels i kernel error (E.Problem name other) lt is earlier refused h = record {
  kernel = kernel;
  before = take i kernels;
  after = drop (i + 1) kernels;
  split = split_read kernels i kernel lt is;
  earlier = earlier;
  named = h.named;
  fault = λ e. h.fault (sym h.same ∙ e);
  refused = subst (Edges.IsRefused table kernel.nodes) (sym h.same) refused;
}
of_problem table kernels i kernel error told lt is earlier refused h = h

-- a line from a part on that stands at the place of a kernel
pub other_from : (table : Table) (kernels : List Kernel) (parts : List ReportKernel) (i : ℕ)
    (kernel : Kernel) (part : ReportKernel) (begin line : ℕ) → i < length kernels
    → kernel ≡ get_or kernels i kernel → i < length parts → part ≡ get_or parts i part
    → IsFirstOther table begin (kernel ∷ drop (i + 1) kernels) (part ∷ drop (i + 1) parts) line
    → IsFirstOther table begin (drop i kernels) (drop i parts) line
other_from table kernels parts i kernel part begin line lt is within at h =
    subst (λ ks. IsFirstOther table begin ks (drop i parts) line) (sym (drop_read kernels i kernel lt is))
    (subst (λ ps. IsFirstOther table begin (kernel ∷ drop (i + 1) kernels) ps line)
    (sym (drop_read parts i part within at)) h)

-- the line of a part that is missing
pub other_missing : (table : Table) (kernels : List Kernel) (parts : List ReportKernel) (i begin : ℕ)
    → i < length kernels → length parts ≤ i
    → IsFirstOther table begin (drop i kernels) (drop i parts) begin
other_missing table kernels parts i begin lt le =
    let kernel = item_at kernels i lt in
    subst (λ ks. IsFirstOther table begin ks (drop i parts) begin)
    (sym (drop_read kernels i kernel.0 lt kernel.1))
    (subst (λ ps. IsFirstOther table begin (kernel.0 ∷ drop (i + 1) kernels) ps begin)
    (sym (drop_all i parts le)) refl)

-- the line of one more
pub other_more : (table : Table) (kernels : List Kernel) (parts : List ReportKernel) (i begin : ℕ)
    → length kernels ≤ i → i < length parts
    → IsFirstOther table begin (drop i kernels) (drop i parts) begin
other_more table kernels parts i begin le lt =
    let part = item_at parts i lt in
    subst (λ ks. IsFirstOther table begin ks (drop i parts) begin) (sym (drop_all i kernels le))
    (subst (λ ps. IsFirstOther table begin [] ps begin) (sym (drop_read parts i part.0 lt part.1)) refl)

-- what a part that is judged so is refused for
pub part_times : (table : Table) (kernel : Kernel) (part : ReportKernel) (judgement : Judgement)
    (arc : ℕ) (name : List ℕ) → name ≡ kernel.name → judgement ≡ J.BadTimes arc
    → IsJudged table kernel part judgement → MayBeFault table kernel part (E.BrokenArc name arc)
part_times table kernel part judgement arc name named is judged =
    inr (subst (λ n. IsPartFault table kernel part (E.BrokenArc n arc)) (sym named)
    (IsPartFault.times arc (subst (IsJudged table kernel part) is judged)))

pub part_flow : (table : Table) (kernel : Kernel) (part : ReportKernel) (judgement : Judgement)
    (node : ℕ) (name : List ℕ) → name ≡ kernel.name → judgement ≡ J.BadFlow node
    → IsJudged table kernel part judgement → MayBeFault table kernel part (E.Unbalanced name node)
part_flow table kernel part judgement node name named is judged =
    inr (subst (λ n. IsPartFault table kernel part (E.Unbalanced n node)) (sym named)
    (IsPartFault.flow node (subst (IsJudged table kernel part) is judged)))

pub part_costs : (table : Table) (kernel : Kernel) (part : ReportKernel) (judgement : Judgement)
    (cost value : ℤ) (name : List ℕ) → name ≡ kernel.name → judgement ≡ J.CostsDiffer cost value
    → IsJudged table kernel part judgement
    → MayBeFault table kernel part (E.CostsDiffer name cost value)
part_costs table kernel part judgement cost value name named is judged =
    inr (subst (λ n. IsPartFault table kernel part (E.CostsDiffer n cost value)) (sym named)
    (IsPartFault.costs cost value (subst (IsJudged table kernel part) is judged)))

-- a fault behind parts that are shown
fault_behind : (table : Table) (i : ℕ) (kernels : List Kernel) (parts : List ReportKernel)
    (error : CheckError) → AllShown table (take i kernels) (take i parts)
    → IsFirstFault table (drop i kernels) (drop i parts) error
    → IsFirstFault table kernels parts error
fault_behind table zero kernels parts error shown h = h
fault_behind table (suc i) [] parts error shown h = absurd h
fault_behind table (suc i) (k ∷ ks) [] error shown h = absurd (none table (drop i ks) error h)
  where
    none : (table : Table) (ks : List Kernel) (error : CheckError)
        → IsFirstFault table ks [] error → ⊥
    none table [] error h = h
    none table (k ∷ ks) error h = h
fault_behind table (suc i) (k ∷ ks) (p ∷ ps) error shown h =
    inr (shown.0, fault_behind table i ks ps error shown.1 h)

-- a fault of a part that stands at the place of a kernel, behind parts that are shown
pub fault_at : (table : Table) (kernels : List Kernel) (parts : List ReportKernel) (i : ℕ)
    (kernel : Kernel) (part : ReportKernel) (error : CheckError) → i < length kernels
    → kernel ≡ get_or kernels i kernel → i < length parts → part ≡ get_or parts i part
    → AllShown table (take i kernels) (take i parts) → MayBeFault table kernel part error
    → MayHaveFault table kernels parts error
fault_at table kernels parts i kernel part error lt is within at shown h =
    ⊎_elim (λ memory. inl memory)
    (λ fault. inr (fault_behind table i kernels parts error shown
    (subst (λ ks. IsFirstFault table ks (drop i parts) error) (sym (drop_read kernels i kernel lt is))
    (subst (λ ps. IsFirstFault table (kernel ∷ drop (i + 1) kernels) ps error)
    (sym (drop_read parts i part within at)) (inl fault)))))
    h

-- ---- the whole report

pub refused_problem : (table : Table) (kernels : List Kernel) (bytes : List ℕ) (error : CheckError)
    → MayLackProblem table kernels error → IsRefused table kernels bytes error
refused_problem table kernels bytes (E.Problem name error) h =
    inr (IsNotChecked.problem name error h)
refused_problem table kernels bytes error h = inl h

pub refused_form : (table : Table) (kernels : List Kernel) (bytes : List ℕ) (error : CheckError)
    → All (HasProblem table) kernels → MayBeWrong bytes error
    → IsRefused table kernels bytes error
refused_form table kernels bytes (E.NoReport line) has h = inr (IsNotChecked.form line has h)
refused_form table kernels bytes error has h = inl h

pub refused_other : (table : Table) (kernels : List Kernel) (bytes : List ℕ) (report : Report)
    (error : CheckError) → All (HasProblem table) kernels → Says bytes report
    → MayHaveOther table kernels report.kernels error → IsRefused table kernels bytes error
refused_other table kernels bytes report (E.Other line) has says h =
    inr (IsNotChecked.other report line has says h)
refused_other table kernels bytes report error has says h = absurd h

pub refused_fault : (table : Table) (kernels : List Kernel) (bytes : List ℕ) (report : Report)
    (error : CheckError) → All (HasProblem table) kernels → Says bytes report
    → AreOf table kernels report.kernels → MayHaveFault table kernels report.kernels error
    → IsRefused table kernels bytes error
refused_fault table kernels bytes report error has says of h =
    ⊎_elim (λ memory. inl memory) (λ fault. inr (IsNotChecked.fault report error has says of fault)) h
