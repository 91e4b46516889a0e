-- A project that is refused has no modules and links, and is refused for one cause.
use Rattle.std.proofs.Common.{◌≡◌, ◌∙◌, ℕ, zero, suc, ◌<◌, ◌^◌, List, [], ◌∷◌, take, refl, sym, ap, subst, inl, inr, ◌⊎◌, arith}
use Rattle.std.specs.Prelude.{Option, Some, None, All, IsSome, slice_get}
use Rattle.std.specs.Option.{option_map}
use Rattle.std.proofs.lemmas.Int.{ints, clamps}
use Rattle.std.proofs.lemmas.List.Elements.{All-contains}
use Rattle.std.proofs.lemmas.Bool.{cases_order}
use Rattle.std.proofs.lemmas.Option.{same_Some}
use Rattle.mx_bits.specs.declared.op.Op.{Op}
use Rattle.stream_graph.specs.declared.kernel.Kernel.{Kernel}
use Rattle.stream_graph.specs.declared.node.Kind.TheVariants as K
use Rattle.stream_graph.specs.declared.node.Node.{Node}
use Rattle.latency_table.specs.declared.table.Table.{Table}
use Rattle.latency_table.specs.Tables.{latency_of}
use Rattle.offset_edges.specs.declared.error.EdgeError.TheVariants as edge_errors
use Rattle.offset_edges.specs.Edges.{edges_of}
use Rattle.offset_edges.specs.Latencies.{latency_as, latency_at, ticks_of, HasNone}
use Rattle.offset_edges.proofs.CoveredLemmas.{shown_back, shown_covered}
use Rattle.kernel_schedule.specs.declared.error.ScheduleError.{ScheduleError}
use Rattle.kernel_schedule.specs.declared.error.ScheduleError.TheVariants as schedule_errors
use Rattle.kernel_netlist.specs.Bits.{NeedsBits}
use Rattle.manager_links.specs.declared.links.Link.{Link}
use Rattle.manager_links.specs.declared.links.Links.{Links}
use Rattle.manager_links.specs.declared.project.Project.{Project}
use Rattle.manager_links.specs.Links.{AreLinksOf, IsWithinLimit, IsFirstOver}
use Rattle.manager_links.proofs.Pieces.{stands_in}
use Rattle.project_netlists.specs.declared.error.NetlistsError.{NetlistsError}
use Rattle.project_netlists.specs.declared.error.NetlistsError.TheVariants as E
use Rattle.project_netlists.specs.declared.making.ProjectNetlists.{ProjectNetlists}
use Rattle.project_netlists.specs.Laws.{HasNetlists, HasCause, TellTheSame}
use Rattle.project_netlists.specs.Netlists.{AreNetlistsOf}
use Rattle.project_netlists.specs.Refused.{FitsBits, IsUnscheduled, LacksSchedule, HasTooManyBits, NeedsDeepLink}
use Rattle.project_netlists.specs.Scheduled.{HasSchedule, AreBestSchedules, all_times}
use Rattle.project_netlists.proofs.Made.{all_fit}
use Rattle.project_netlists.proofs.Scheduled.{all_scheduled}
use Rattle.project_netlists.proofs.Unique.{one_list, one_links}

-- ---- one kernel

-- where each node has a latency, none has none
none_lacks : (table : Table) (nodes : List Node) (n : ℕ) (op : Op) (width : ℕ)
    → IsSome (latency_at table nodes n) → HasNone table nodes n op width → ⊥
none_lacks table nodes n op width some h =
    let kind = h.operation.2 in
    let none : latency_as table nodes n (K.Operation op h.operation.0 h.operation.1) ≡ None =
    subst (λ w. latency_of table op w ≡ None) h.of_width h.none in
    let e : latency_at table nodes n ≡ None = ap (latency_as table nodes n) kind ∙ none in
    let both = rw e at some in
    absurd (cc)

-- a kernel that has a schedule has no cause for which it has none
not_unscheduled : (table : Table) (kernel : Kernel) (error : ScheduleError)
    → IsUnscheduled table kernel error → HasSchedule table kernel → ⊥
not_unscheduled table kernel (schedule_errors.Edges (edge_errors.NoLatency op width)) lacks has =
    let first = lacks.refused in
    none_lacks table kernel.nodes first.0 op width (has.timed first.0 first.1.node) first.1.lacks
not_unscheduled table kernel (schedule_errors.Edges (edge_errors.Cycle walk)) lacks has =
    let back = shown_back (ticks_of table kernel.nodes) (edges_of kernel.nodes) walk has.covered
    lacks.refused.1.shown in
    let ahead = lacks.refused.1.ahead in
    omega (arith, ints, back, ahead)
not_unscheduled table kernel (schedule_errors.Edges edge_errors.NoMemory) lacks has = lacks.fault refl
not_unscheduled table kernel (schedule_errors.Uncovered walk) lacks has =
    let shown = lacks.refused.uncovered.shown in
    let back = shown_back (ticks_of table kernel.nodes) (edges_of kernel.nodes) walk has.covered shown in
    let waits = shown_covered (ticks_of table kernel.nodes) (edges_of kernel.nodes) walk has.covered shown in
    let uncovered = lacks.refused.uncovered.uncovered in
    omega (arith, ints, clamps, back, waits, uncovered)

-- a kernel whose FIFOs need few bits doesn't need too many
not_many : (table : Table) (kernel : Kernel) (bits : ℕ) → NeedsBits table kernel.nodes bits
    → 2 ^ 28 < bits → FitsBits table kernel → ⊥
not_many table kernel bits needs many fits =
    let least = needs.least.least fits.times fits.least.legal in
    let holds = needs.holds in
    let few = fits.few in
    omega (arith, ints, least, holds, few, many)

-- the fewest bits are so many alone
one_need : (table : Table) (nodes : List Node) (one other : ℕ) → NeedsBits table nodes one
    → NeedsBits table nodes other → one ≡ other
one_need table nodes one other p q =
    let below = p.least.least q.times q.least.legal in
    let above = q.least.least p.times p.least.legal in
    let has = p.holds in
    let needs = q.holds in
    omega (arith, ints, below, above, has, needs)

-- ---- kernels at places

-- what holds of all items holds of one that stands at a place
at_place : {A : Type 0} (P : A → Type 0) (xs : List A) (i : ℕ) (x : A) → All P xs
    → slice_get xs i ≡ Some x → P x
at_place P xs i x all here = All-contains P xs x all (stands_in xs i x here)

-- an item before a place is among those before it
before_it : {A : Type 0} (xs : List A) (i j : ℕ) (x : A) → i < j → slice_get xs i ≡ Some x
    → slice_get (take j xs) i ≡ Some x
before_it xs i zero x lt here = absurd (omega arith)
before_it [] i (suc j) x lt here = here
before_it (y ∷ xs) zero (suc j) x lt here = here
before_it (y ∷ xs) (suc i) (suc j) x lt here = before_it xs i j x (omega arith) here

-- the first place at which something doesn't hold is one
one_first : {A : Type 0} (P Q : A → Type 0) (xs : List A) (i j : ℕ) (x y : A)
    → ((z : A) → Q z → P z → ⊥) → slice_get xs i ≡ Some x → slice_get xs j ≡ Some y
    → All P (take i xs) → All P (take j xs) → Q x → Q y → i ≡ j
one_first P Q xs i j x y none here there before earlier lacks other =
    by_order (cases_order i j)
  where
    by_order : (i ≡ j) ⊎ ((i < j) ⊎ (j < i)) → i ≡ j
    by_order (inl e) = e
    by_order (inr (inl lt)) =
        absurd (none x lacks (at_place P (take j xs) i x earlier (before_it xs i j x lt here)))
    by_order (inr (inr lt)) =
        absurd (none y other (at_place P (take i xs) j y before (before_it xs j i y lt there)))

-- ---- links

over_at : (links : List Link) (number words : ℕ) → IsFirstOver links number words
    → (link : Link) × (slice_get links number ≡ Some link) × (link.depth ≡ words)
over_at links number words is = by_get (slice_get links number) refl is.here
  where
    by_get : (o : Option Link) → slice_get links number ≡ o
        → option_map (λ (link : Link). link.depth) o ≡ Some words
        → (link : Link) × (slice_get links number ≡ Some link) × (link.depth ≡ words)
    by_get None at e = absurd (cc)
    by_get (Some link) at e = (link, at, same_Some link.depth words e)

too_deep : (link : Link) (words : ℕ) → link.depth ≡ words → 65536 < words → IsWithinLimit link → ⊥
too_deep link words e over within = omega (arith, e, over, within)

-- of the same links one is the first that is too deep
one_over : (links : List Link) (n m words others : ℕ) → IsFirstOver links n words
    → IsFirstOver links m others → (n ≡ m) × (words ≡ others)
one_over links n m words others p q =
    let one = over_at links n words p in
    let other = over_at links m others q in
    let same = one_first IsWithinLimit (λ (link : Link). IsWithinLimit link → ⊥) links n m one.0 other.0
    (λ link none within. none within) one.1 other.1 p.before q.before
    (too_deep one.0 words one.2 p.over) (too_deep other.0 others other.2 q.over) in
    let link = same_Some one.0 other.0 (sym one.1 ∙ ap (slice_get links) same ∙ other.1) in
    (same, sym one.2 ∙ ap (λ (l : Link). l.depth) link ∙ other.2)

-- the same links, of two least schedules
same_links : (table : Table) (project : Project) (one other : _) (p q : Links)
    → AreBestSchedules table project.kernels one → AreBestSchedules table project.kernels other
    → AreLinksOf project (all_times one) p → AreLinksOf project (all_times other) q
    → p.links ≡ q.links
same_links table project one other p q best best_too are are_too =
    one_links project (all_times other) p q
    (subst (λ times. AreLinksOf project times p) (one_list table project.kernels one other best best_too) are)
    are_too

-- ---- the laws

pub made_has : (table : Table) (project : Project) (made : ProjectNetlists)
    → AreNetlistsOf table project made → HasNetlists table project
made_has table project made are = record {
  scheduled = all_scheduled table project.kernels are.schedules are.best;
  fit = all_fit table project.kernels (all_times are.schedules) made.parts made.inners.items are.kernels;
  schedules = are.schedules;
  best = are.best;
  links = made.links;
  are = are.links;
  within = are.within;
}

-- kernels that all have schedules lack none
none_unscheduled : (table : Table) (kernels : List Kernel) (number : ℕ) (error : ScheduleError)
    → LacksSchedule table kernels number error → All (HasSchedule table) kernels → ⊥
none_unscheduled table kernels number error lacks all =
    not_unscheduled table lacks.kernel error lacks.lacks
    (at_place (HasSchedule table) kernels number lacks.kernel all lacks.here)

-- kernels whose FIFOs all need few bits need not too many
none_many : (table : Table) (kernels : List Kernel) (number bits : ℕ)
    → HasTooManyBits table kernels number bits → All (FitsBits table) kernels → ⊥
none_many table kernels number bits has all =
    not_many table has.kernel bits has.needs.needs has.needs.many
    (at_place (FitsBits table) kernels number has.kernel all has.here)

pub refused_none : (table : Table) (project : Project) (error : NetlistsError)
    → HasCause table project error → HasNetlists table project → ⊥
refused_none table project (E.Schedule number error) cause has =
    none_unscheduled table project.kernels number error cause.refused has.scheduled
refused_none table project (E.TooManyBits number bits) cause has =
    none_many table project.kernels number bits cause.refused.first has.fit
refused_none table project (E.LinkTooDeep number words) cause has =
    let deep = cause.refused.deep in
    let over = over_at deep.made.links number words deep.first in
    let same = same_links table project cause.refused.schedules has.schedules deep.made has.links
    cause.refused.best has.best deep.are has.are in
    too_deep over.0 words over.2 deep.first.over
    (at_place IsWithinLimit has.links.links number over.0 has.within
    (subst (λ links. slice_get links number ≡ Some over.0) same over.1))
refused_none table project E.NoMemory cause has = cause.fault refl

-- the first kernel without a schedule is one
one_unscheduled : (table : Table) (kernels : List Kernel) (n m : ℕ) (one other : ScheduleError)
    → LacksSchedule table kernels n one → LacksSchedule table kernels m other → n ≡ m
one_unscheduled table kernels n m one other p q =
    one_first (HasSchedule table) (λ kernel. (error : ScheduleError) × IsUnscheduled table kernel error)
    kernels n m p.kernel q.kernel
    (λ kernel lacks has. not_unscheduled table kernel lacks.0 lacks.1 has)
    p.here q.here p.before q.before (one, p.lacks) (other, q.lacks)

-- and so is the first whose FIFOs need too many bits
one_many : (table : Table) (kernels : List Kernel) (n m bits others : ℕ)
    → HasTooManyBits table kernels n bits → HasTooManyBits table kernels m others
    → (n ≡ m) × (bits ≡ others)
one_many table kernels n m bits others p q =
    let same = one_first (FitsBits table) (λ kernel. FitsBits table kernel → ⊥) kernels n m p.kernel
    q.kernel (λ kernel none fits. none fits) p.here q.here p.before q.before
    (not_many table p.kernel bits p.needs.needs p.needs.many)
    (not_many table q.kernel others q.needs.needs q.needs.many) in
    let kernel = same_Some p.kernel q.kernel (sym p.here ∙ ap (slice_get kernels) same ∙ q.here) in (
      same,
      one_need table q.kernel.nodes bits others
          (subst (λ (k : Kernel). NeedsBits table k.nodes bits) kernel p.needs.needs) q.needs.needs,
    )

one_deep : (table : Table) (project : Project) (n m words others : ℕ)
    → NeedsDeepLink table project n words → NeedsDeepLink table project m others
    → (n ≡ m) × (words ≡ others)
one_deep table project n m words others p q =
    one_over q.deep.made.links n m words others
    (subst (λ links. IsFirstOver links n words)
    (same_links table project p.schedules q.schedules p.deep.made q.deep.made p.best q.best p.deep.are q.deep.are)
    p.deep.first)
    q.deep.first

pub refused_once : (table : Table) (project : Project) (one other : NetlistsError)
    → HasCause table project one → HasCause table project other → TellTheSame one other
refused_once table project E.NoMemory other p q = absurd (p.fault refl)
refused_once table project (E.Schedule n one) E.NoMemory p q = absurd (q.fault refl)
refused_once table project (E.TooManyBits n bits) E.NoMemory p q = absurd (q.fault refl)
refused_once table project (E.LinkTooDeep n words) E.NoMemory p q = absurd (q.fault refl)
refused_once table project (E.Schedule n one) (E.Schedule m other) p q =
    one_unscheduled table project.kernels n m one other p.refused q.refused
refused_once table project (E.Schedule n one) (E.TooManyBits m others) p q =
    none_unscheduled table project.kernels n one p.refused q.refused.scheduled
refused_once table project (E.Schedule n one) (E.LinkTooDeep m others) p q =
    none_unscheduled table project.kernels n one p.refused q.refused.scheduled
refused_once table project (E.TooManyBits n bits) (E.Schedule m other) p q =
    none_unscheduled table project.kernels m other q.refused p.refused.scheduled
refused_once table project (E.TooManyBits n bits) (E.TooManyBits m others) p q =
    one_many table project.kernels n m bits others p.refused.first q.refused.first
refused_once table project (E.TooManyBits n bits) (E.LinkTooDeep m others) p q =
    none_many table project.kernels n bits p.refused.first q.refused.fit
refused_once table project (E.LinkTooDeep n words) (E.Schedule m other) p q =
    none_unscheduled table project.kernels m other q.refused p.refused.scheduled
refused_once table project (E.LinkTooDeep n words) (E.TooManyBits m others) p q =
    none_many table project.kernels m others q.refused.first p.refused.fit
refused_once table project (E.LinkTooDeep n words) (E.LinkTooDeep m others) p q =
    one_deep table project n m words others p.refused q.refused
