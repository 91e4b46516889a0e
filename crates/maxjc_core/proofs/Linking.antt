-- A project with the times of a report, and with a plan.
use Rattle.std.proofs.Common.{◌≡◌, ℕ, List, [], ◌∷◌, map, Some, Result, Ok, Err, arith, sym, subst}
use Rattle.std.specs.Prelude.{All, IfOk, slice_get}
use Rattle.std.specs.List.{AllZip}
use Rattle.std.proofs.lemmas.List.Elements.{All-head, All-tail, All-contains}
use Rattle.latency_table.specs.declared.table.Table.{Table}
use Rattle.kernel_report.specs.Judging.{IsShown}
use Rattle.manager_links.specs.Links.{AreLinksOf}
use Rattle.manager_links.specs.Starts.{IsTimed, AreTimes}
use Rattle.manager_links.specs.declared.hosts.HostPort.{HostPort}
use Rattle.manager_links.specs.declared.project.Project.{Project}
use Rattle.manager_links.proofs.Pieces.{one_place, stands_in}
use Rattle.mx_base.specs.Files.{Name}
use Rattle.project_check.specs.Checked.{HasProblem}
use Rattle.project_rtl.specs.Shapes.{shape_of, host_shape}
use Rattle.project_words.specs.Given.{AreCausal}
use Rattle.rtl_ir.specs.Rules.{AllDiffer}
use Rattle.schedule_report.specs.Reports.{IsKernelPart}
use Rattle.schedule_report.specs.declared.report.ReportKernel.{ReportKernel}
use Rattle.stream_graph.specs.declared.kernel.Kernel.{Kernel}
use Rattle.maxjc_core.specs.ExpectStops.{LinksAs, BeginsAs}
use Rattle.maxjc_core.specs.Expecting.{IsLinked, FitsProject}
use Rattle.maxjc_core.specs.declared.begin.Begun.{Begun}
use Rattle.maxjc_core.specs.declared.linked.Linked.{Linked}
use Rattle.maxjc_core.proofs.Checking.{showing}
use Rattle.maxjc_core.proofs.OneShape.{fused}

-- ---- times

timed-part : (table : Table) (kernel : Kernel) (part : ReportKernel) → IsKernelPart part
    → IsShown table kernel part → IsTimed kernel part.times
timed-part table kernel part is shown =
    let counted = is.counted in
    let nodes = shown.of.head.nodes in
    record {
      each = omega (arith, counted, nodes);
      begin = λ v lt. (shown.of.timely v lt).0;
      most = λ v lt. (shown.of.timely v lt).1;
    }

-- the times of parts that are shown are times of the kernels
pub timed-parts : (table : Table) (kernels : List Kernel) (parts : List ReportKernel)
    → All IsKernelPart parts → AllZip (IsShown table) kernels parts
    → AreTimes kernels (map (λ (part : ReportKernel). part.times) parts)
timed-parts table [] [] are shown = tt
timed-parts table [] (part ∷ parts) are shown = absurd shown
timed-parts table (kernel ∷ kernels) [] are shown = absurd shown
timed-parts table (kernel ∷ kernels) (part ∷ parts) are shown = (
  timed-part table kernel part (All-head IsKernelPart part parts are) shown.0,
  timed-parts table kernels parts (All-tail IsKernelPart part parts are) shown.1,
)

-- ---- kernels

-- kernels that have problems of schedules are causal
pub causal-kernels : (table : Table) (kernels : List Kernel) → All (HasProblem table) kernels
    → AreCausal kernels
causal-kernels table kernels problems k kernel at =
    (All-contains (HasProblem table) kernels kernel problems (stands_in kernels k kernel at)).causal

-- ---- ports

-- the streams to the CPU have different names
pub outputs-differ : (project : Project)
    → AllDiffer (map (λ (y : Name × ℕ). y.0) (shape_of project).outputs)
outputs-differ project i j name here there =
    let names = fused host_shape (λ (y : Name × ℕ). y.0) project.joints.outputs in
    one_place (map (λ (host : HostPort). host.name) project.joints.outputs) i j name
    project.whole.outputs.differ
    (subst (λ (l : List Name). slice_get l i ≡ Some name) (sym names) here)
    (subst (λ (l : List Name). slice_get l j ≡ Some name) (sym names) there)

-- two facts of what is answered
pub both-ok : {A E : Type 0} (r : Result A E) (P Q R : A → Type 0) → ((a : A) → P a → Q a → R a)
    → IfOk r P → IfOk r Q → IfOk r R
both-ok (Ok a) P Q R both p q = both a p q
both-ok (Err e) P Q R both p q = tt

-- ---- what was begun

-- the links of the code are those of the bytes
abbrev pub linking : (source table bytes : List ℕ) (linked : Linked)
    → LinksAs source table bytes linked → IsLinked source table bytes
linking source table bytes linked l = record {
  shows = showing source table bytes linked.project l.report l.shows;
  made = linked.links;
  are = subst (λ ts. AreLinksOf linked.project ts linked.links) l.times l.are;
  shallow = l.shallow;
}

-- and so is the plan
abbrev pub fitting : (source table bytes run : List ℕ) (begun : Begun)
    → BeginsAs source table bytes run begun → FitsProject source table bytes run
fitting source table bytes run begun b = record {
  linked = linking source table bytes begun.linked b.linked;
  plan = begun.plan;
  planned = b.planned;
}
