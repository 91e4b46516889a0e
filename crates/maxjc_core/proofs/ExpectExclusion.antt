-- Files of which nothing is refused have no cause of a refusal.
use Rattle.std.proofs.Common.{◌≡◌, ◌∙◌, ◌≤◌, ◌^◌, inl, inr, ℕ, List, map, Ok, arith, ap, sym, subst}
use Rattle.std.specs.Prelude.{IsSome}
use Rattle.manager_links.specs.Links.{AreLinksOf, IsFirstOver}
use Rattle.manager_links.specs.declared.hosts.HostPort.{HostPort}
use Rattle.manager_links.specs.declared.project.Project.{Project}
use Rattle.mx_base.specs.Files.{Held}
use Rattle.project_netlists.proofs.Unique.{one_links}
use Rattle.project_rtl.specs.Shapes.{shape_of, host_shape, scalar_shapes}
use Rattle.project_words.specs.Given.{word_count}
use Rattle.rtl_ir.specs.Interfaces as Ports
use Rattle.rtl_ir.specs.Ports.{Shape}
use Rattle.schedule_report.specs.Reading.{Says}
use Rattle.schedule_report.specs.declared.report.Report.{Report}
use Rattle.simulation.specs.Plans.{IsPlanOf}
use Rattle.simulation.specs.declared.plan.Plan.{Plan}
use Rattle.std.specs.List.{flat_map}
use Rattle.stream_graph.specs.declared.kernel.Kernel.{Kernel}
use Rattle.word_files.specs.RunFiles.{Reads}
use Rattle.word_files.specs.declared.run_file.RunFile.{RunFile}
use Rattle.maxjc_core.specs.Checking.{IsShowing}
use Rattle.maxjc_core.specs.Command.{ExpectNames}
use Rattle.maxjc_core.specs.ExpectCauses.{
  IsTooDeep,
  HasNoLinks,
  HaveTooMany,
  IsOfExpect,
  IsFileTooLarge,
  ExpectStands,
}
use Rattle.maxjc_core.specs.Expecting.{
  report_times,
  IsLinked,
  FitsProject,
  project_of,
  words_in,
  IsExpectable,
  CanBegin,
  readings,
  CanExpect,
}
use Rattle.maxjc_core.specs.InputWords.{readings_of, IsFirstLineFault}
use Rattle.maxjc_core.specs.CauseLines.{Cause}
use Rattle.maxjc_core.specs.RunFiles.{IsPlanned, IsPlanOfBytes, IsUnfitFor, IsUnfit, HasNoPlan}
use Rattle.maxjc_core.proofs.CheckExclusion.{one-report, not-of-check, no-large-input, told-from-large-input}
use Rattle.maxjc_core.proofs.Exclusion.{told, same_bytes, not_past, AreOne, are-one, none-over}
use Rattle.maxjc_core.proofs.InputReading.{have-no-fault}
use Rattle.maxjc_core.proofs.OneHosts.{one-inputs, one-outputs}
use Rattle.maxjc_core.proofs.OneProject.{links_along}
use Rattle.maxjc_core.proofs.OneShape.{ticks_along, scalars_along, inputs_along, outputs_along}
use Rattle.maxjc_core.proofs.RunExclusion.{run_once, plan_once, run_fits}

-- ---- two readings of the same bytes

-- the same kernels with the same streams, and the same times
pub record SameShown {source table bytes other others another : List ℕ}
    (a : IsShowing source table bytes) (b : IsShowing other others another) : Type 0
  where
    pub one : AreOne a.project b.project a.latencies b.latencies
    pub inputs : a.project.joints.inputs ≡ b.project.joints.inputs
    pub outputs : a.project.joints.outputs ≡ b.project.joints.outputs
    pub reports : a.report ≡ b.report

pub same-shown : {source table bytes other others another : List ℕ} → source ≡ other
    → table ≡ others → bytes ≡ another
    → (a : IsShowing source table bytes) (b : IsShowing other others another) → SameShown a b
same-shown {another = another} e f g a b =
    let one = are-one a.project b.project a.latencies b.latencies e f a.is b.is in
    record {
      one = one;
      inputs = one-inputs a.project b.project one.same a.is.built.from_cpu b.is.built.from_cpu
          b.is.built.rules;
      outputs = one-outputs a.project b.project one.same a.is.built.to_cpu b.is.built.to_cpu
          b.is.built.rules;
      reports = one-report another a.report b.report
          (subst (λ (x : List ℕ). Says x a.report) g a.checked.says) b.checked.says;
    }

-- the ports of the same projects
same-shape : (p q : Project) → p.kernels ≡ q.kernels → p.joints.inputs ≡ q.joints.inputs
    → p.joints.outputs ≡ q.joints.outputs → shape_of p ≡ shape_of q
same-shape p q kernels inputs outputs = λ i. record {
  kernels = map (λ (kernel : Kernel). kernel.name) (kernels i);
  scalars = flat_map scalar_shapes (kernels i);
  inputs = map host_shape (inputs i);
  outputs = map host_shape (outputs i);
}

pub shown-shape : {source table bytes other others another : List ℕ}
    {a : IsShowing source table bytes} {b : IsShowing other others another} → SameShown a b
    → shape_of a.project ≡ shape_of b.project
shown-shape {a = a} {b = b} s =
    same-shape a.project b.project s.one.same.kernels s.inputs s.outputs

-- plans of the same bytes for the same ports are one
pub one-plan : (bytes other : List ℕ) (s t : Shape) (p q : Plan) → bytes ≡ other → s ≡ t
    → IsPlanOfBytes bytes s p → IsPlanOfBytes other t q → p ≡ q
one-plan bytes other s t p q e same is too =
    let runs = run_once other is.run too.run
    (subst (λ (b : List ℕ). Reads b (Ok is.run)) e is.says) too.says in
    plan_once too.run is.planned.ports too.planned.ports
    (is.planned.are ∙ same ∙ sym too.planned.are) p q
    (subst (λ (r : RunFile). IsPlanOf r is.planned.ports p) runs is.planned.planned)
    too.planned.planned

-- ---- the bytes

-- a link that is too deep isn't within the limit
not-deep : {source table bytes other others another : List ℕ} (cause : Cause)
    (a : IsShowing source table bytes) (b : IsLinked other others another) → SameShown a b.shows
    → IsTooDeep a.project (report_times a.report) cause → ⊥
not-deep _ a b same (IsTooDeep.at_link number words deep) =
    let times = report_times b.shows.report in
    let along = links_along a.project b.shows.project times deep.made same.one.same
    (subst (λ (r : Report). AreLinksOf a.project (report_times r) deep.made) same.reports deep.are) in
    let links = one_links b.shows.project times deep.made b.made along b.are in
    none-over b.made.links number words b.shallow
    (subst (λ ls. IsFirstOver ls number words) links deep.first)

-- a run file that fits ports isn't unfit for them
fits-not : (run : RunFile) (s : Shape) (plan : Plan) (cause : Cause) → IsPlanned run s plan
    → IsUnfit run s cause → ⊥
fits-not run s plan cause is unfit = by_key cause unfit.unfit
  where
    same : Ports.shape_of is.ports ≡ Ports.shape_of unfit.ports
    same = is.are ∙ sym unfit.are

    by_key : (cause : Cause) → IsUnfitFor run unfit.ports cause → ⊥
    by_key _ (IsUnfitFor.at_key key (inl x)) = x.1 (ticks_along run is.ports unfit.ports same is.ticks)
    by_key _ (IsUnfitFor.at_key key (inr (inl x))) = x.2 (scalars_along run is.ports unfit.ports same is.scalars)
    by_key _ (IsUnfitFor.at_key key (inr (inr (inl x)))) = x.3 (inputs_along run is.ports unfit.ports same is.inputs)
    by_key _ (IsUnfitFor.at_key key (inr (inr (inr x)))) = x.4 (outputs_along run is.ports unfit.ports same is.outputs)

-- bytes that have a plan have no cause for which they have none
not-unplanned : (bytes other : List ℕ) (s t : Shape) (plan : Plan) (cause : Cause) → bytes ≡ other
    → s ≡ t → HasNoPlan bytes s cause → IsPlanOfBytes other t plan → ⊥
not-unplanned bytes other s t plan cause e same (HasNoPlan.of_form _ fault) is =
    run_fits bytes is.run cause (subst (λ (b : List ℕ). Reads b (Ok is.run)) (sym e) is.says) fault
not-unplanned bytes other s t plan cause e same (HasNoPlan.unfit run _ says unfit) is =
    let runs = run_once other run is.run (subst (λ (b : List ℕ). Reads b (Ok run)) e says) is.says in
    fits-not is.run t plan cause is.planned
    (subst (λ (x : Shape). IsUnfit is.run x cause) same
    (subst (λ (r : RunFile). IsUnfit r s cause) runs unfit))

-- kernels that have few words haven't too many
not-too-many : (kernels others : List Kernel) (ticks counts : List ℕ) (cause : Cause)
    → kernels ≡ others → ticks ≡ counts → HaveTooMany kernels ticks cause
    → word_count others counts ≤ 2 ^ 24 → ⊥
not-too-many kernels others ticks counts _ e f (HaveTooMany.counted words large) few =
    let count : words ≡ word_count others counts =
    large.count ∙ ap (λ ks. word_count ks ticks) e ∙ ap (word_count others) f in
    let many = large.many in
    omega (arith, count, many, few)

-- bytes that begin a run have no cause for which they don't
pub not-of-expect : {source table bytes run other others another file : List ℕ} (cause : Cause)
    → source ≡ other → table ≡ others → bytes ≡ another → run ≡ file
    → IsOfExpect source table bytes run cause → (fit : FitsProject other others another file)
    → words_in fit ≤ 2 ^ 24 → ⊥
not-of-expect cause e f g h (IsOfExpect.no_links _ (HasNoLinks.of_check _ is)) fit few =
    not-of-check cause e f g is fit.linked.shows
not-of-expect cause e f g h (IsOfExpect.no_links _ (HasNoLinks.too_deep shows _ deep)) fit few =
    not-deep cause shows fit.linked (same-shown e f g shows fit.linked.shows) deep
not-of-expect {run = run} {file = file} cause e f g h (IsOfExpect.no_plan linked _ none) fit few =
    not-unplanned run file (shape_of linked.shows.project) (shape_of fit.linked.shows.project) fit.plan
    cause h (shown-shape (same-shown e f g linked.shows fit.linked.shows)) none fit.planned
not-of-expect {run = run} {file = file} cause e f g h (IsOfExpect.too_many_words other _ many) fit few =
    let same = same-shown e f g other.linked.shows fit.linked.shows in
    not-too-many (project_of other).kernels (project_of fit).kernels other.plan.ticks fit.plan.ticks
    cause same.one.same.kernels
    (ap (λ (p : Plan). p.ticks)
    (one-plan run file (shape_of (project_of other)) (shape_of (project_of fit)) other.plan fit.plan h
    (shown-shape same) other.planned fit.planned))
    many few

-- ---- the files

-- the bytes of files are read once
pub record SameFiles {names : ExpectNames} {held : Held} (a b : IsExpectable names held) : Type 0
  where
    pub sources : a.check.project.source ≡ b.check.project.source
    pub tables : a.check.project.table ≡ b.check.project.table
    pub reports : a.check.report ≡ b.check.report
    pub runs : a.run ≡ b.run

pub same-files : {names : ExpectNames} {held : Held} (a b : IsExpectable names held) → SameFiles a b
same-files {names} {held} a b = record {
  sources = same_bytes held names.check.source _ _ a.check.project.source_is.holds
      b.check.project.source_is.holds;
  tables = same_bytes held names.check.table _ _ a.check.project.table_is.holds
      b.check.project.table_is.holds;
  reports = same_bytes held names.check.report _ _ a.check.report_is.holds b.check.report_is.holds;
  runs = same_bytes held names.run _ _ a.run_is.holds b.run_is.holds;
}

-- what is read of input files is one list
pub same-readings : {names : ExpectNames} {held : Held} (a b : CanBegin names held)
    → readings a ≡ readings b
same-readings {names} {held} a b =
    let files = same-files a.files b.files in
    let same = same-shown files.sources files.tables files.reports a.fit.linked.shows b.fit.linked.shows in
    let plans = one-plan a.files.run b.files.run (shape_of (project_of a.fit))
    (shape_of (project_of b.fit)) a.fit.plan b.fit.plan files.runs (shown-shape same) a.fit.planned
    b.fit.planned in
    ap (λ (hosts : List HostPort). readings_of a.fit.plan.ticks hosts a.fit.plan.inputs) same.inputs
    ∙ ap (λ (p : Plan). readings_of p.ticks (project_of b.fit).joints.inputs p.inputs) plans

pub excluded-expect : (names : ExpectNames) (held : Held) (cause : Cause)
    → ExpectStands names held cause → CanExpect names held → ⊥
excluded-expect names held _ (ExpectStands.too_large _ (IsFileTooLarge.input cause large)) can =
    no-large-input names.check held cause large can.begun.files.check
excluded-expect names held _ (ExpectStands.too_large _ (IsFileTooLarge.run after)) can =
    not_past held names.run _ after.then_run can.begun.files.run_is
excluded-expect names held _ (ExpectStands.of_files files cause is) can =
    let same = same-files files can.begun.files in
    not-of-expect cause same.sources same.tables same.reports same.runs is can.begun.fit
    can.begun.few
excluded-expect names held _ (ExpectStands.of_words begun cause fault) can =
    have-no-fault held (readings can.begun) can.words cause can.have
    (subst (λ rs. IsFirstLineFault held rs cause) (same-readings begun can.begun) fault)

-- where a cause stands the source is held
pub told-from-expect : (names : ExpectNames) (held : Held) (cause : Cause)
    → ExpectStands names held cause → IsSome held
told-from-expect names held _ (ExpectStands.too_large _ (IsFileTooLarge.input cause large)) =
    told-from-large-input names.check held cause large
told-from-expect names held _ (ExpectStands.too_large _ (IsFileTooLarge.run after)) =
    told held names.check.source after.check.project.source after.check.project.source_is.holds
told-from-expect names held _ (ExpectStands.of_files files cause is) =
    told held names.check.source files.check.project.source files.check.project.source_is.holds
told-from-expect names held _ (ExpectStands.of_words begun cause fault) =
    told held names.check.source begun.files.check.project.source
    begun.files.check.project.source_is.holds
