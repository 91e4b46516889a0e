-- A report that is shown has no cause of a refusal.
use Rattle.std.proofs.Common.{
  ◌≡◌,
  ◌∙◌,
  ◌<◌,
  ◌+◌,
  ◌⊎◌,
  inl,
  inr,
  ℕ,
  zero,
  suc,
  List,
  [],
  ◌∷◌,
  Some,
  None,
  length,
  arith,
  refl,
  ap,
  sym,
  subst,
}
use Rattle.std.specs.Prelude.{IsSome, pos, ◌≤ℤ◌}
use Rattle.std.specs.List.{AllZip, Contains}
use Rattle.std.proofs.lemmas.Int.{ints}
use Rattle.std.proofs.lemmas.List.Elements.{All-contains}
use Rattle.mx_base.specs.Files.{Held, Lacks}
use Rattle.cycle_find.specs.Constraints.{Solves}
use Rattle.schedule_problem.specs.declared.problem.Problem.{Problem}
use Rattle.schedule_problem.specs.Flow.{flow_of, cost_of, value_of, IsFlow}
use Rattle.latency_table.specs.declared.table.Table.{Table}
use Rattle.stream_graph.specs.declared.kernel.Kernel.{Kernel}
use Rattle.stream_graph.specs.declared.node.Node.{Node}
use Rattle.offset_edges.specs.declared.edge.Edge.{Edge}
use Rattle.offset_edges.specs.declared.error.EdgeError.{EdgeError}
use Rattle.offset_edges.specs.declared.error.EdgeError.TheVariants as edge_errors
use Rattle.offset_edges.specs.Edges.{edges_of}
use Rattle.offset_edges.specs.Latencies.{AllTimed}
use Rattle.offset_edges.specs.Problems.{problem_of}
use Rattle.offset_edges.specs.Refused.{IsRefused}
use Rattle.offset_edges.specs.Walks.{IsClosed, IsCausal, offsets_of}
use Rattle.schedule_report.specs.declared.report.Report.{Report}
use Rattle.schedule_report.specs.declared.report.ReportKernel.{ReportKernel}
use Rattle.schedule_report.specs.Reading.{Says}
use Rattle.schedule_report.proofs.OneReport.{texts_differ}
use Rattle.kernel_report.specs.Judging.{IsMismatch, IsShown, times_in}
use Rattle.project_check.specs.Checked.{HasProblem, IsCheckedReport}
use Rattle.project_check.specs.Refused.{
  lines_of,
  IsFirstOther,
  IsPartFault,
  IsFirstFault,
  IsNotChecked,
}
use Rattle.project_check.specs.declared.error.CheckError.{CheckError}
use Rattle.maxjc_core.specs.Command.{CheckNames}
use Rattle.maxjc_core.specs.CompileCauses.{IsMissing, IsTooLarge}
use Rattle.maxjc_core.specs.CheckCauses.{IsOfCheck, IsCheckable, IsInputTooLarge, CheckStands, LacksChecked}
use Rattle.maxjc_core.specs.Checking.{IsShowing, IsChecked, IsGood}
use Rattle.maxjc_core.specs.CauseLines.{Cause}
use Rattle.maxjc_core.specs.CompileStops.{IfRefused, AreBytes}
use Rattle.maxjc_core.specs.declared.stop.Stop.{Stop}
use Rattle.maxjc_core.specs.declared.stop.Stop.TheVariants as stops
use Rattle.maxjc_core.proofs.Answering.{readable}
use Rattle.maxjc_core.proofs.Latencies.{SameLatencies, same_at, same_problem, timed_has}
use Rattle.maxjc_core.proofs.Lists.{zip_weaker, in_back}
use Rattle.maxjc_core.proofs.Exclusion.{
  told,
  same_bytes,
  not_past,
  not_large,
  told_from_large,
  are-one,
  no-cause,
  missing_reads,
}

-- ---- kernels that have problems of schedules

-- a walk of a causal kernel looks back
not-ahead : (edges : List Edge) (round : List ℕ) → IsCausal edges → 0 < length round
    → IsClosed edges round → pos 0 ≤ℤ offsets_of edges round → ⊥
not-ahead edges [] causal some closed ahead = absurd (omega arith)
not-ahead edges (j ∷ js) causal some closed ahead =
    let back = causal closed.0 j js closed.1 in
    omega (arith, ints, back, ahead)

-- a kernel with a latency for each node, which is causal, has no cause for which it has no problem
not-lacking : (a b : Table) (nodes : List Node) (error : EdgeError) → SameLatencies a b
    → (error ≡ edge_errors.NoMemory → ⊥) → AllTimed b nodes → IsCausal (edges_of nodes)
    → IsRefused a nodes error → ⊥
not-lacking a b nodes (edge_errors.NoLatency op width) same fault timed causal refused =
    let n = refused.0 in
    timed_has a nodes n op width
    (subst (λ o. IsSome o) (sym (same_at a b same nodes n)) (timed n refused.1.node))
    refused.1.lacks
not-lacking a b nodes (edge_errors.Cycle walk) same fault timed causal refused =
    let shown = refused.1.shown in
    not-ahead (edges_of nodes) shown.round causal shown.some shown.closed
    (subst (λ z. pos 0 ≤ℤ z) shown.summed.offset refused.1.ahead)
not-lacking a b nodes edge_errors.NoMemory same fault timed causal refused = fault refl

-- ---- parts that are shown

-- a part that is shown by a table is shown by one of the same latencies
shown-along : (a b : Table) → SameLatencies a b → (kernel : Kernel) (part : ReportKernel)
    → IsShown b kernel part → IsShown a kernel part
shown-along a b same kernel part s =
    let problem : problem_of a kernel.nodes ≡ problem_of b kernel.nodes =
    same_problem a b same kernel.nodes in
    let costs : cost_of (problem_of a kernel.nodes) (times_in kernel part)
    ≡ cost_of (problem_of b kernel.nodes) (times_in kernel part) =
    ap (λ (p : Problem). cost_of p (times_in kernel part)) problem in
    record {
      of = record {
        head = record {
          named = s.of.head.named;
          nodes = s.of.head.nodes;
          edges = s.of.head.edges;
          bits = s.of.head.bits ∙ sym costs;
        };
        timely = s.of.timely;
      };
      legal = subst (λ (p : Problem). Solves (times_in kernel part) p.arcs.list) (sym problem) s.legal;
      flow = subst (λ (p : Problem). IsFlow p (flow_of part.flow)) (sym problem) s.flow;
      equal =
          costs ∙ s.equal ∙ ap (λ (p : Problem). value_of p (flow_of part.flow)) (sym problem);
    }

-- each line of it is the kernel's
not-mismatch : (table : Table) (kernel : Kernel) (part : ReportKernel) (line : ℕ)
    → IsShown table kernel part → IsMismatch table kernel part line → ⊥
not-mismatch table kernel part zero s m = m s.of.head
not-mismatch table kernel part (suc v) s m = m.2 (s.of.timely v m.1)

-- nor has it a fault
not-faulty : (table : Table) (kernel : Kernel) (part : ReportKernel) (error : CheckError)
    → IsShown table kernel part → IsPartFault table kernel part error → ⊥
not-faulty table kernel part _ s (IsPartFault.times arc breaks) =
    breaks.first.broken (s.legal arc breaks.first.arc)
not-faulty table kernel part _ s (IsPartFault.flow node breaks) =
    let flow = s.flow node in
    breaks.first.other (omega (arith, ints, flow))
not-faulty table kernel part _ s (IsPartFault.costs cost value other) =
    other.apart (other.costs ∙ s.equal ∙ sym other.worth)

-- parts that are all shown have no line that is none of the kernels
no-other : (table : Table) (begin : ℕ) (kernels : List Kernel) (parts : List ReportKernel)
    (line : ℕ) → AllZip (IsShown table) kernels parts
    → IsFirstOther table begin kernels parts line → ⊥
no-other table begin [] [] line shown other = other
no-other table begin [] (part ∷ parts) line shown other = shown
no-other table begin (kernel ∷ kernels) [] line shown other = shown
no-other table begin (kernel ∷ kernels) (part ∷ parts) line shown (inl m) =
    not-mismatch table kernel part m.0 shown.0 m.1
no-other table begin (kernel ∷ kernels) (part ∷ parts) line shown (inr rest) =
    no-other table (begin + lines_of part) kernels parts line shown.1 rest.1

-- nor a fault
no-fault : (table : Table) (kernels : List Kernel) (parts : List ReportKernel) (error : CheckError)
    → AllZip (IsShown table) kernels parts → IsFirstFault table kernels parts error → ⊥
no-fault table [] [] error shown fault = fault
no-fault table [] (part ∷ parts) error shown fault = fault
no-fault table (kernel ∷ kernels) [] error shown fault = fault
no-fault table (kernel ∷ kernels) (part ∷ parts) error shown (inl f) =
    not-faulty table kernel part error shown.0 f
no-fault table (kernel ∷ kernels) (part ∷ parts) error shown (inr rest) =
    no-fault table kernels parts error shown.1 rest.1

-- ---- reports that are shown

-- bytes say one report
pub one-report : (bytes : List ℕ) (a b : Report) → Says bytes a → Says bytes b → a ≡ b
one-report bytes a b p q = texts_differ a b p.is q.is (sym p.text ∙ q.text)

-- by tables of the same latencies, a report that is shown has no cause for which it is refused
not-refused : (a b : Table) (kernels : List Kernel) (bytes : List ℕ) (report : Report)
    (error : CheckError) → SameLatencies a b → IsCheckedReport b kernels bytes report
    → IsNotChecked a kernels bytes error → ⊥
not-refused a b kernels bytes report _ same is (IsNotChecked.problem name error lacks) =
    let has = All-contains (HasProblem b) kernels lacks.kernel is.problems
    (subst (λ ks. Contains ks lacks.kernel) (sym lacks.split) (in_back lacks.before lacks.after lacks.kernel)) in
    not-lacking a b lacks.kernel.nodes error same lacks.fault has.timed has.causal lacks.refused
not-refused a b kernels bytes report _ same is (IsNotChecked.form line problems wrong) =
    wrong.none report is.says
not-refused a b kernels bytes report _ same is (IsNotChecked.other told line problems says other) =
    let one = one-report bytes report told is.says says in
    no-other a 2 kernels told.kernels line
    (subst (λ (r : Report). AllZip (IsShown a) kernels r.kernels) one
    (zip_weaker (IsShown b) (IsShown a) kernels report.kernels (shown-along a b same) is.shown))
    other
not-refused a b kernels bytes report error same is (IsNotChecked.fault told _ problems says of fault) =
    let one = one-report bytes report told is.says says in
    no-fault a kernels told.kernels error
    (subst (λ (r : Report). AllZip (IsShown a) kernels r.kernels) one
    (zip_weaker (IsShown b) (IsShown a) kernels report.kernels (shown-along a b same) is.shown))
    fault

-- so its bytes have none
pub not-of-check : {source table report other others another : List ℕ} (cause : Cause) → source ≡ other
    → table ≡ others → report ≡ another → IsOfCheck source table report cause
    → IsShowing other others another → ⊥
not-of-check cause bytes latencies told (IsOfCheck.makes_none _ none) shows =
    no-cause cause shows.project shows.latencies bytes latencies none shows.is
not-of-check {report = report} {another = another} _ bytes latencies told
    (IsOfCheck.not_checked project table error is refused) shows =
    let one = are-one project shows.project table shows.latencies bytes latencies is shows.is in
    not-refused table shows.latencies shows.project.kernels another shows.report error one.latencies
    shows.checked
    (subst (λ ks. IsNotChecked table ks another error) one.same.kernels
    (subst (λ (b : List ℕ). IsNotChecked table project.kernels b error) told refused))

-- ---- the files

-- where the files of a check are within the limit none is past it
pub no-large-input : (names : CheckNames) (held : Held) (cause : Cause)
    → IsInputTooLarge names held cause → IsCheckable names held → ⊥
no-large-input names held _ (IsInputTooLarge.project cause large) files =
    not_large names.source names.table held cause large files.project
no-large-input names held _ (IsInputTooLarge.report after) files =
    not_past held names.report _ after.then_report files.report_is

pub excluded_check : (names : CheckNames) (held : Held) (cause : Cause)
    → CheckStands names held cause → IsGood names held → ⊥
excluded_check names held _ (CheckStands.too_large cause large) good =
    no-large-input names held cause large good.files
excluded_check names held _ (CheckStands.of_files files cause is) good =
    not-of-check cause
    (same_bytes held names.source files.project.source good.files.project.source
    files.project.source_is.holds good.files.project.source_is.holds)
    (same_bytes held names.table files.project.table good.files.project.table
    files.project.table_is.holds good.files.project.table_is.holds)
    (same_bytes held names.report files.report good.files.report files.report_is.holds
    good.files.report_is.holds)
    is good.shows

-- where a file is past the limit the source is held
pub told-from-large-input : (names : CheckNames) (held : Held) (cause : Cause)
    → IsInputTooLarge names held cause → IsSome held
told-from-large-input names held _ (IsInputTooLarge.project cause large) =
    told_from_large names.source names.table held cause large
told-from-large-input names held _ (IsInputTooLarge.report after) =
    told held names.source after.project.source after.project.source_is.holds

-- where a cause stands the source is held
pub told_from_check : (names : CheckNames) (held : Held) (cause : Cause)
    → CheckStands names held cause → IsSome held
told_from_check names held _ (CheckStands.too_large cause large) =
    told-from-large-input names held cause large
told_from_check names held _ (CheckStands.of_files files cause is) =
    told held names.source files.project.source files.project.source_is.holds

-- a report that was checked isn't refused
pub good_from_checked : (names : CheckNames) (held : Held) (line : List ℕ)
    → IsChecked names held line → IsGood names held
good_from_checked names held line c = record {
  files = c.files;
  shows = c.checks.shows;
}

-- where a file of a check is missing, reading the project stops with a read fault or want of memory
pub missing_inputs : (names : CheckNames) (held : Held) (stop : Stop)
    → (IsMissing names.source names.table held
    → (stop ≡ stops.ReadFault) ⊎ (stop ≡ stops.NoMemory))
    → IfRefused stop (λ cause. IsSome held → IsTooLarge names.source names.table held cause)
    → LacksChecked names held → (stop ≡ stops.ReadFault) ⊎ (stop ≡ stops.NoMemory)
missing_inputs names held stop missing refused (inl m) = missing m
missing_inputs names held stop missing refused (inr after) =
    missing_reads names.source names.table held stop after.project refused

-- a file that is told not to be held is told
pub told_lacks : (held : Held) (name : List ℕ) → Lacks held name → IsSome held
told_lacks None name l = absurd (cc)
told_lacks (Some m) name l = refl

-- where reading the report stops with a fault, the fault is counted or the report isn't held
pub report_fault : {Rises : Type 0} {source table : List ℕ} (names : CheckNames) (held : Held)
    → (IsSome held → AreBytes names.source names.table held source table)
    → Rises ⊎ Lacks held names.report → Rises ⊎ LacksChecked names held
report_fault names held read (inl rises) = inl rises
report_fault {Rises} {source} {table} names held read (inr l) =
    inr (inr (record {
      project = readable names.source names.table held source table
          (read (told_lacks held names.report l));
      then_report = l;
    }))
