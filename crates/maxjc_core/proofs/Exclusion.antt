-- A project that is built has no cause of a refusal.
use Rattle.std.proofs.Common.{
  ◌≡◌,
  ◌∙◌,
  ◌<◌,
  ◌⊎◌,
  inl,
  inr,
  ℕ,
  List,
  Some,
  None,
  Ok,
  Err,
  length,
  arith,
  refl,
  ap,
  sym,
  subst,
}
use Rattle.std.specs.Prelude.{IsSome, All, slice_get}
use Rattle.std.proofs.lemmas.Int.{ints, clamps}
use Rattle.std.proofs.lemmas.List.Elements.{All-contains}
use Rattle.mx_base.specs.Files.{Held, Name, Holds}
use Rattle.maxj_syntax.specs.Source.{IsSourceOf, HasFirst}
use Rattle.maxj_syntax.proofs.Sources.{one_source, no_fault}
use Rattle.latency_table.specs.declared.table.Table.{Table}
use Rattle.latency_table.specs.Tables.{Reads}
use Rattle.stream_graph.specs.declared.node.Node.{Node}
use Rattle.offset_edges.specs.declared.error.EdgeError.TheVariants as edge_errors
use Rattle.offset_edges.specs.Edges.{edges_of}
use Rattle.offset_edges.specs.Latencies.{ticks_of}
use Rattle.offset_edges.specs.Schedules.{fifo_bits}
use Rattle.offset_edges.specs.Walks.{IsShown}
use Rattle.offset_edges.proofs.CoveredLemmas.{shown_back, shown_covered}
use Rattle.kernel_schedule.specs.declared.error.ScheduleError.{ScheduleError}
use Rattle.kernel_schedule.specs.declared.error.ScheduleError.TheVariants as schedule_errors
use Rattle.kernel_schedule.specs.Refused.{IsRefused}
use Rattle.kernel_schedule.specs.Schedules.{IsSchedulable}
use Rattle.kernel_netlist.specs.Bits.{NeedsFewBits}
use Rattle.kernel_netlist.specs.Refused.{NeedsTooMany}
use Rattle.manager_links.specs.declared.links.Link.{Link}
use Rattle.manager_links.specs.declared.project.Project.{Project}
use Rattle.manager_links.specs.Links.{AreLinksOf, IsWithinLimit, IsFirstOver}
use Rattle.manager_links.proofs.Pieces.{stands_in}
use Rattle.manager_links.proofs.PortLemmas.{mapped}
use Rattle.project_build.specs.Building as builds
use Rattle.project_build.specs.Causes.{LacksProject}
use Rattle.project_netlists.specs.declared.error.NetlistsError.{NetlistsError}
use Rattle.project_netlists.specs.declared.error.NetlistsError.TheVariants as netlists_errors
use Rattle.project_netlists.specs.Laws.{HasCause}
use Rattle.project_netlists.specs.Refused.{FitsBits}
use Rattle.project_netlists.specs.Scheduled.{HasSchedule, IsBestOf, AreBestSchedules, all_times}
use Rattle.project_netlists.proofs.Excluding.{made_has}
use Rattle.project_netlists.proofs.Unique.{one_links, one_list as one_times}
use Rattle.project_verilog.specs.declared.writing.ProjectText.{ProjectText}
use Rattle.project_verilog.specs.Texts.{IsTextOf}
use Rattle.maxjc_core.proofs.Latencies.{
  SameLatencies,
  same_latencies,
  same_at,
  same_ticks,
  timed_has,
  no_fault_read,
  least_along,
  best_along,
}
use Rattle.maxjc_core.proofs.Lists.{zip_weaker}
use Rattle.maxjc_core.proofs.OneProject.{AreSame, one_project, links_along}
use Rattle.maxjc_core.proofs.Rules.{not-lacking}
use Rattle.maxjc_core.specs.Command.{Names}
use Rattle.maxjc_core.specs.CauseLines.{Cause}
use Rattle.maxjc_core.specs.Projects.{IsProjectOf, MakesNoProject}
use Rattle.maxjc_core.specs.CompileCauses.{
  file_limit,
  IsWithin,
  IsPast,
  HasText,
  IsOfFiles,
  CanBeBuilt,
  IsReadable,
  IsTooLarge,
  Stands,
  IsBuilt,
}
use Rattle.maxjc_core.specs.ErrorCauses.{cause_told}
use Rattle.maxjc_core.specs.CompileStops.{IfRefused, IsCompiled}
use Rattle.maxjc_core.specs.declared.stop.Stop.{Stop}
use Rattle.maxjc_core.specs.declared.stop.Stop.TheVariants as stops
use Rattle.maxjc_core.proofs.Refusing.{cause_of}

-- a file that is held is told
pub told : (held : Held) (name : Name) (bytes : List ℕ) → Holds held name bytes → IsSome held
told None name bytes h = absurd (cc)
told (Some m) name bytes h = refl

pub same_bytes : (held : Held) (name : Name) (a b : List ℕ) → Holds held name a
    → Holds held name b → a ≡ b
same_bytes held name a b h k = cc

pub not_past : (held : Held) (name : Name) (bytes : List ℕ) → IsPast file_limit held name
    → IsWithin file_limit held name bytes → ⊥
not_past held name bytes past within =
    let same = same_bytes held name past.bytes bytes past.holds within.holds in
    let large : file_limit < length bytes = subst (λ (b : List ℕ). file_limit < length b) same
    past.past in
    let small = within.within in
    omega arith

-- ---- no cause stands of a project that is compiled

-- a project that is made has no cause for which none is made
pub no-cause : {source table other others : List ℕ} (cause : Cause) (project : Project)
    (latencies : Table) → source ≡ other → table ≡ others → MakesNoProject source table cause
    → IsProjectOf other others project latencies → ⊥
no-cause {other = other} _ project latencies bytes told (MakesNoProject.fault fault first) is =
    no_fault other is.classes fault is.is (subst (λ (b : List ℕ). HasFirst b fault) bytes first)
no-cause {others = others} _ project latencies bytes told (MakesNoProject.table_fault error lacks) is =
    no_fault_read others latencies error lacks.fault is.reads
    (subst (λ (b : List ℕ). Reads b (Err error)) told lacks.reads)
no-cause {other = other} _ project latencies bytes told (MakesNoProject.builds_none error none) is =
    let classes : none.classes ≡ is.classes =
    one_source other none.classes is.classes
    (subst (λ (b : List ℕ). IsSourceOf b none.classes) bytes none.is) is.is in
    not-lacking is.classes project error is.built
    (subst (λ cs. LacksProject cs error) classes none.lacks)

-- the projects of the same bytes are one, and their tables have the same latencies
pub record AreOne (p q : Project) (a b : Table) : Type 0 where
  pub same : AreSame p q
  pub latencies : SameLatencies a b

pub are-one : {source table other others : List ℕ} (p q : Project) (a b : Table) → source ≡ other
    → table ≡ others → IsProjectOf source table p a → IsProjectOf other others q b → AreOne p q a b
are-one {other = other} {others = others} p q a b bytes told is too =
    let classes : is.classes ≡ too.classes =
    one_source other is.classes too.classes
    (subst (λ (s : List ℕ). IsSourceOf s is.classes) bytes is.is) too.is in
    record {
      same = one_project too.classes p q (subst (λ cs. builds.IsProjectOf cs p) classes is.built) too.built;
      latencies = same_latencies others a b (subst (λ (t : List ℕ). Reads t (Ok a)) told is.reads) too.reads;
    }

-- a kernel that has a schedule has no cause for which it has none
has-none : (a b : Table) (nodes : List Node) (error : ScheduleError) → SameLatencies a b
    → (error ≡ schedule_errors.Edges edge_errors.NoMemory → ⊥) → IsSchedulable b nodes
    → IsRefused a nodes error → ⊥
has-none a b nodes (schedule_errors.Edges (edge_errors.NoLatency op width)) same fault has refused =
    let n = refused.0 in
    timed_has a nodes n op width
    (subst (λ o. IsSome o) (sym (same_at a b same nodes n)) (has.timed n refused.1.node))
    refused.1.lacks
has-none a b nodes (schedule_errors.Edges (edge_errors.Cycle walk)) same fault has refused =
    let ticks = same_ticks a b same nodes in
    let back = shown_back (ticks_of b nodes) (edges_of nodes) walk has.covered
    (subst (λ t. IsShown t (edges_of nodes) walk) ticks refused.1.shown) in
    let ahead = refused.1.ahead in
    omega (arith, ints, back, ahead)
has-none a b nodes (schedule_errors.Edges edge_errors.NoMemory) same fault has refused = fault refl
has-none a b nodes (schedule_errors.Uncovered walk) same fault has refused =
    let ticks = same_ticks a b same nodes in
    let shown = subst (λ t. IsShown t (edges_of nodes) walk) ticks refused.uncovered.shown in
    let back = shown_back (ticks_of b nodes) (edges_of nodes) walk has.covered shown in
    let waits = shown_covered (ticks_of b nodes) (edges_of nodes) walk has.covered shown in
    let uncovered = refused.uncovered.uncovered in
    omega (arith, ints, clamps, back, waits, uncovered)

-- a kernel whose FIFOs need few bits needs not too many
few-bits : (a b : Table) (nodes : List Node) (bits : ℕ) → SameLatencies a b
    → NeedsFewBits b nodes → NeedsTooMany a nodes bits → ⊥
few-bits a b nodes bits same few many =
    let along = least_along a b same nodes many.needs.times many.needs.least in
    let least = along.least few.times few.least.legal in
    let most = few.few in
    let holds =
    ap (λ t. fifo_bits t nodes (edges_of nodes) many.needs.times) (sym (same_ticks a b same nodes))
    ∙ many.needs.holds in
    let over = many.many in
    omega (arith, ints, least, most, holds, over)

-- links that are all within the limit have none that is over it
pub none-over : (links : List Link) (number words : ℕ) → All IsWithinLimit links
    → IsFirstOver links number words → ⊥
none-over links number words within first =
    let at = mapped (λ (link : Link). link.depth) (slice_get links number) words first.here in
    let few = All-contains IsWithinLimit links at.0 within (stands_in links number at.0 at.1) in
    let over = first.over in
    let same = at.2 in
    omega (arith, few, over, same)

-- a project that has a text has no cause for which it has none
not-lacking-text : (p q : Project) (a b : Table) (error : NetlistsError) → AreOne p q a b
    → HasText b q → HasCause a p error → ⊥
not-lacking-text p q a b (netlists_errors.Schedule number error) one has cause =
    let lacks = cause.refused in
    has-none a b lacks.kernel.nodes error one.latencies lacks.lacks.fault
    (All-contains (HasSchedule b) p.kernels lacks.kernel
    (subst (All (HasSchedule b)) (sym one.same.kernels) has.scheduled)
    (stands_in p.kernels number lacks.kernel lacks.here))
    lacks.lacks.refused
not-lacking-text p q a b (netlists_errors.TooManyBits number bits) one has cause =
    let first = cause.refused.first in
    few-bits a b first.kernel.nodes bits one.latencies
    (All-contains (FitsBits b) p.kernels first.kernel
    (subst (All (FitsBits b)) (sym one.same.kernels) has.fit)
    (stands_in p.kernels number first.kernel first.here))
    first.needs
not-lacking-text p q a b (netlists_errors.LinkTooDeep number words) one has cause =
    let deep = cause.refused in
    let best = zip_weaker (IsBestOf a) (IsBestOf b) p.kernels deep.schedules
    (λ kernel schedule is. best_along a b one.latencies kernel.nodes schedule is) deep.best in
    let within = has.shallow deep.schedules deep.deep.made
    (subst (λ ks. AreBestSchedules b ks deep.schedules) one.same.kernels best)
    (links_along p q (all_times deep.schedules) deep.deep.made one.same deep.deep.are) in
    none-over deep.deep.made.links number words within deep.deep.first
not-lacking-text p q a b netlists_errors.NoMemory one has cause = cause.fault refl

-- so the bytes of one that can be built have no cause for which they aren't compiled
not-of-files : {source table other others : List ℕ} (cause : Cause) → source ≡ other
    → table ≡ others → IsOfFiles source table cause → CanBeBuilt other others → ⊥
not-of-files cause bytes told (IsOfFiles.makes_none _ none) can =
    no-cause cause can.project can.latencies bytes told none can.is
not-of-files _ bytes told (IsOfFiles.lacks_text project latencies cause is lacks) can =
    not-lacking-text project can.project latencies can.latencies lacks.error
    (are-one project can.project latencies can.latencies bytes told is can.is) can.has lacks.has

-- ---- the files

-- where both files are within the limit none is past it
pub not_large : (source_name table_name : Name) (held : Held) (cause : Cause)
    → IsTooLarge source_name table_name held cause → IsReadable source_name table_name held → ⊥
not_large source_name table_name held _ (IsTooLarge.source past) files =
    not_past held source_name _ past files.source_is
not_large source_name table_name held _ (IsTooLarge.table after) files =
    not_past held table_name _ after.then_table files.table_is

pub excluded : (names : Names) (held : Held) (cause : Cause) → Stands names held cause
    → IsBuilt names held → ⊥
excluded names held cause (Stands.too_large _ large) built =
    not_large names.source names.table held cause large built.files
excluded names held cause (Stands.of_files files _ is) built =
    not-of-files cause
    (same_bytes held names.source files.source built.files.source files.source_is.holds
    built.files.source_is.holds)
    (same_bytes held names.table files.table built.files.table files.table_is.holds
    built.files.table_is.holds)
    is built.can

-- where a file is past the limit the source is held
pub told_from_large : (source_name table_name : Name) (held : Held) (cause : Cause)
    → IsTooLarge source_name table_name held cause → IsSome held
told_from_large source_name table_name held _ (IsTooLarge.source past) =
    told held source_name past.bytes past.holds
told_from_large source_name table_name held _ (IsTooLarge.table after) =
    told held source_name after.source after.source_is.holds

-- where both files are within the limit, a read that stops is a read fault or want of memory
pub missing_reads : (source_name table_name : Name) (held : Held) (stop : Stop)
    → IsReadable source_name table_name held
    → IfRefused stop (λ cause. IsSome held → IsTooLarge source_name table_name held cause)
    → (stop ≡ stops.ReadFault) ⊎ (stop ≡ stops.NoMemory)
missing_reads source_name table_name held (stops.Refused r) files refused =
    let some = cause_of (cause_told r) (λ cause. IsSome held
    → IsTooLarge source_name table_name held cause) refused in
    absurd (not_large source_name table_name held some.0
    (some.1 (told held source_name files.source files.source_is.holds)) files)
missing_reads source_name table_name held stops.ReadFault files refused = inl refl
missing_reads source_name table_name held stops.NoMemory files refused = inr refl

-- where a cause stands the source is held
pub told_from_cause : (names : Names) (held : Held) (cause : Cause) → Stands names held cause
    → IsSome held
told_from_cause names held _ (Stands.too_large cause large) =
    told_from_large names.source names.table held cause large
told_from_cause names held _ (Stands.of_files files cause is) = told held names.source files.source
    files.source_is.holds

-- what was made of a project shows that it has a text
made-has : (table : Table) (project : Project) (made : ProjectText) → IsTextOf table project made
    → HasText table project
made-has table project made t =
    let has = made_has table project t.own t.netlists in
    record {
      scheduled = has.scheduled;
      fit = has.fit;
      shallow = λ schedules links best are.
          subst (All IsWithinLimit)
          (one_links project (all_times schedules) has.links links
          (subst (λ times. AreLinksOf project times has.links)
          (one_times table project.kernels has.schedules schedules has.best best) has.are) are)
          has.within;
    }

pub built_from_compiled : (names : Names) (held : Held) (text report line : List ℕ)
    → IsCompiled names held text report line → IsBuilt names held
built_from_compiled names held text report line c =
    let m = c.compiles in
    record {
      files = c.files;
      can = record {
        project = m.project;
        latencies = m.latencies;
        is = m.is;
        has = made-has m.latencies m.project m.made m.text_of;
      };
    }
