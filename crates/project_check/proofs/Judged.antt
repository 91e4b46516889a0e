-- What judgements on parts say of them.
use Rattle.std.proofs.Common.{◌≡◌, ℕ, zero, suc, ◌<◌, ◌≤◌, List, [], ◌∷◌, ◌++◌, length, get_or, refl, sym, ap, subst, arith}
use Rattle.std.specs.Prelude.{All}
use Rattle.std.specs.List.{AllZip}
use Rattle.std.proofs.lemmas.List.Elements.{All-head, All-tail}
use Rattle.stream_graph.specs.declared.kernel.Kernel.{Kernel}
use Rattle.latency_table.specs.declared.table.Table.{Table}
use Rattle.schedule_report.specs.declared.report.ReportKernel.{ReportKernel}
use Rattle.kernel_report.specs.declared.judgement.Judgement.{Judgement}
use Rattle.kernel_report.specs.declared.judgement.Judgement.TheVariants as J
use Rattle.kernel_report.specs.Judging.{
  IsOf,
  IsMismatch,
  IsJudged,
  IsLeastOf,
  ShownAreLeast,
}
use Rattle.project_check.specs.Checked.{AllShown, AreJudged}

-- ---- one part

-- a part that is judged otherwise is one of its kernel
pub judged_of : (table : Table) (kernel : Kernel) (part : ReportKernel) (judgement : Judgement)
    → IsJudged table kernel part judgement → ((line : ℕ) → judgement ≡ J.Mismatch line → ⊥)
    → IsOf table kernel part
judged_of table kernel part J.Good judged other = judged.of
judged_of table kernel part (J.Mismatch line) judged other = absurd (other line refl)
judged_of table kernel part (J.BadTimes arc) judged other = judged.of
judged_of table kernel part (J.BadFlow node) judged other = judged.of
judged_of table kernel part (J.CostsDiffer cost value) judged other = judged.of

few_lines : (table : Table) (kernel : Kernel) (part : ReportKernel) (line : ℕ)
    → IsMismatch table kernel part line → line ≤ length kernel.nodes
few_lines table kernel part zero m = omega arith
few_lines table kernel part (suc v) m = let place = m.1 in omega arith

-- the number of a line that is none of a kernel is small
pub small_line : (table : Table) (kernel : Kernel) (part : ReportKernel) (line : ℕ)
    → IsMismatch table kernel part line → line ≤ 4096
small_line table kernel part line m =
    let most = few_lines table kernel part line m in
    let few = kernel.few in
    omega arith

-- ---- all parts

pub judged_none : (table : Table) (kernels : List Kernel) → AreJudged table kernels [] []
judged_none table [] = refl
judged_none table (k ∷ ks) = refl

-- the parts before one, judged as far as there are kernels, and that one
pub judged_more : (table : Table) (kernels : List Kernel) (parts : List ReportKernel)
    (judgements : List Judgement) (kernel : Kernel) (part : ReportKernel) (judgement : Judgement)
    → AreJudged table kernels parts judgements → length parts < length kernels
    → kernel ≡ get_or kernels (length parts) kernel → IsJudged table kernel part judgement
    → AreJudged table kernels (parts ++ part ∷ []) (judgements ++ judgement ∷ [])
judged_more table [] parts judgements kernel part judgement all lt is one = absurd (omega arith)
judged_more table (k ∷ ks) [] [] kernel part judgement all lt is one =
    (subst (λ x. IsJudged table x part judgement) is one, judged_none table ks)
judged_more table (k ∷ ks) [] (j ∷ js) kernel part judgement all lt is one = absurd (cc)
judged_more table (k ∷ ks) (p ∷ ps) [] kernel part judgement all lt is one = absurd all
judged_more table (k ∷ ks) (p ∷ ps) (j ∷ js) kernel part judgement all lt is one =
    (all.0, judged_more table ks ps js kernel part judgement all.1 (omega arith) is one)

-- a part behind those of all kernels isn't judged
pub judged_past : (table : Table) (kernels : List Kernel) (parts : List ReportKernel)
    (judgements : List Judgement) (part : ReportKernel)
    → AreJudged table kernels parts judgements → length kernels ≤ length parts
    → AreJudged table kernels (parts ++ part ∷ []) judgements
judged_past table [] parts judgements part all le = all
judged_past table (k ∷ ks) [] judgements part all le = absurd (omega arith)
judged_past table (k ∷ ks) (p ∷ ps) [] part all le = absurd all
judged_past table (k ∷ ks) (p ∷ ps) (j ∷ js) part all le =
    (all.0, judged_past table ks ps js part all.1 (omega arith))

-- each kernel that has a part has a judgement
pub judged_count : (table : Table) (kernels : List Kernel) (parts : List ReportKernel)
    (judgements : List Judgement) (i : ℕ) → AreJudged table kernels parts judgements
    → i < length kernels → i < length parts → i < length judgements
judged_count table [] parts judgements i all kernel part = absurd (omega arith)
judged_count table (k ∷ ks) [] judgements i all kernel part = absurd (omega arith)
judged_count table (k ∷ ks) (p ∷ ps) [] i all kernel part = absurd all
judged_count table (k ∷ ks) (p ∷ ps) (j ∷ js) zero all kernel part = omega arith
judged_count table (k ∷ ks) (p ∷ ps) (j ∷ js) (suc i) all kernel part =
    let rest = judged_count table ks ps js i all.1 (omega arith) (omega arith) in omega arith

pub judged_most : (table : Table) (kernels : List Kernel) (parts : List ReportKernel)
    (judgements : List Judgement) → AreJudged table kernels parts judgements
    → length kernels ≤ length parts → length kernels ≤ length judgements
judged_most table [] parts judgements all le = omega arith
judged_most table (k ∷ ks) [] judgements all le = absurd (omega arith)
judged_most table (k ∷ ks) (p ∷ ps) [] all le = absurd all
judged_most table (k ∷ ks) (p ∷ ps) (j ∷ js) all le =
    let rest = judged_most table ks ps js all.1 (omega arith) in omega arith

pub judged_within : (table : Table) (kernels : List Kernel) (parts : List ReportKernel)
    (judgements : List Judgement) → AreJudged table kernels parts judgements
    → length judgements ≤ length kernels
judged_within table [] parts judgements all = let none = ap length all in omega arith
judged_within table (k ∷ ks) [] judgements all = let none = ap length all in omega arith
judged_within table (k ∷ ks) (p ∷ ps) [] all = absurd all
judged_within table (k ∷ ks) (p ∷ ps) (j ∷ js) all =
    let rest = judged_within table ks ps js all.1 in omega arith

judged_at : (table : Table) (kernels : List Kernel) (parts : List ReportKernel)
    (judgements : List Judgement) (i : ℕ) (kernel : Kernel) (part : ReportKernel)
    (judgement : Judgement) → AreJudged table kernels parts judgements → i < length judgements
    → IsJudged table (get_or kernels i kernel) (get_or parts i part) (get_or judgements i judgement)
judged_at table [] parts judgements i kernel part judgement all lt =
    let none = ap length all in absurd (omega arith)
judged_at table (k ∷ ks) [] judgements i kernel part judgement all lt =
    let none = ap length all in absurd (omega arith)
judged_at table (k ∷ ks) (p ∷ ps) [] i kernel part judgement all lt = absurd all
judged_at table (k ∷ ks) (p ∷ ps) (j ∷ js) zero kernel part judgement all lt = all.0
judged_at table (k ∷ ks) (p ∷ ps) (j ∷ js) (suc i) kernel part judgement all lt =
    judged_at table ks ps js i kernel part judgement all.1 (omega arith)

-- the judgement on a part that was read
pub judged_read : (table : Table) (kernels : List Kernel) (parts : List ReportKernel)
    (judgements : List Judgement) (i : ℕ) (kernel : Kernel) (part : ReportKernel)
    (judgement : Judgement) → AreJudged table kernels parts judgements → i < length judgements
    → kernel ≡ get_or kernels i kernel → part ≡ get_or parts i part
    → IsJudged table kernel part (get_or judgements i judgement)
judged_read table kernels parts judgements i kernel part judgement all lt is at =
    let told = get_or judgements i judgement in
    subst (λ k. IsJudged table k part told) (sym is)
    (subst (λ p. IsJudged table (get_or kernels i kernel) p told) (sym at)
    (judged_at table kernels parts judgements i kernel part judgement all lt))

-- parts that are shown have the fewest bits
pub all_least : (table : Table) (kernels : List Kernel) (parts : List ReportKernel)
    → All (ShownAreLeast table) kernels → AllShown table kernels parts
    → AllZip (IsLeastOf table) kernels parts
all_least table [] [] law all = tt
all_least table [] (p ∷ ps) law all = absurd all
all_least table (k ∷ ks) [] law all = absurd all
all_least table (k ∷ ks) (p ∷ ps) law all = (
  All-head (ShownAreLeast table) k ks law p all.0,
  all_least table ks ps (All-tail (ShownAreLeast table) k ks law) all.1,
)
