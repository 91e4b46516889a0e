-- Tables that are read from one text have the same latencies.
use Rattle.std.proofs.Common.{◌≡◌, ◌∙◌, ℕ, List, Bool, true, false, Ok, Err, refl, sym, ap, subst}
use Rattle.std.specs.Prelude.{Some, None, IsSome, option_map, if◌then◌else◌, ◌≤ℤ◌}
use Rattle.std.specs.Option.{unwrap_or}
use mathlib.Core.Path.{fun_ext}
use Rattle.mx_bits.specs.declared.op.Op.{Op}
use Rattle.stream_graph.specs.declared.node.Kind.{Kind}
use Rattle.stream_graph.specs.declared.node.Kind.TheVariants as K
use Rattle.stream_graph.specs.declared.node.Node.{Node}
use Rattle.serde_json.specs.Data.{Data}
use Rattle.latency_table.specs.declared.error.TableError.{TableError}
use Rattle.latency_table.specs.declared.error.TableError.TheVariants as faults
use Rattle.latency_table.specs.declared.rows.Row.{Row}
use Rattle.latency_table.specs.declared.table.Table.{Table}
use Rattle.latency_table.specs.Rows.{row_at}
use Rattle.latency_table.specs.Tables.{rows_at, is_free, latency_of, Reads, IsTable, shape_fault, range_fault}
use Rattle.cycle_find.specs.Constraints.{Numbers, numbers_of}
use Rattle.schedule_problem.specs.Flow.{cost_of}
use Rattle.kernel_schedule.specs.declared.schedule.Schedule.{Schedule}
use Rattle.kernel_schedule.specs.Schedules.{IsSchedulable, IsLeastLegal}
use Rattle.kernel_netlist.specs.Scheduled.{IsBestSchedule}
use Rattle.stream_graph.specs.LookUps.{kind_at}
use Rattle.offset_edges.specs.Edges.{edges_of}
use Rattle.offset_edges.specs.Problems.{problem_of, problem_over}
use Rattle.offset_edges.specs.Schedules.{IsLegal, fifo_bits}
use Rattle.offset_edges.specs.Walks.{AreCovered}
use Rattle.offset_edges.specs.Latencies.{
  AllTimed,
  latency_as,
  latency_at,
  ticks_of,
  HasNone,
  width_for,
}

some_same : {A : Type 0} {a b : A} → Some a ≡ Some b → a ≡ b
some_same e = cc

-- the latencies of one text
pub SameLatencies : Table → Table → Type 0
SameLatencies a b = (op : Op) (width : ℕ) → latency_of a op width ≡ latency_of b op width

same_data : (bytes : List ℕ) (a b : Table) (p : Reads bytes (Ok a)) (q : Reads bytes (Ok b))
    → p.0 ≡ q.0
same_data bytes a b p q = some_same (sym p.1.1 ∙ q.1.1)

same_rows : (d : Data) (a b : Table) → IsTable d a → IsTable d b → (op : Op) → is_free op ≡ false
    → rows_at a op ≡ rows_at b op
same_rows d a b p q op paid = some_same (sym (p.rows op paid) ∙ q.rows op paid)

latency_by : (a b : Table) (op : Op) (width : ℕ) (free : Bool)
    → (free ≡ false → rows_at a op ≡ rows_at b op)
    → (if free then Some 0 else option_map (λ (r : Row). r.latency) (row_at (rows_at a op) width))
    ≡ (if free then Some 0 else option_map (λ (r : Row). r.latency) (row_at (rows_at b op) width))
latency_by a b op width true rows = refl
latency_by a b op width false rows =
    ap (λ rs. option_map (λ (r : Row). r.latency) (row_at rs width)) (rows refl)

pub same_latencies : (bytes : List ℕ) (a b : Table) → Reads bytes (Ok a) → Reads bytes (Ok b)
    → SameLatencies a b
unfolding SameLatencies
same_latencies bytes a b p q op width =
    let d = same_data bytes a b p q in
    latency_by a b op width (is_free op)
    (same_rows q.0 a b (subst (λ d. IsTable d a) d p.2) q.2 op)

-- a text that is read as a table has no fault
pub no_fault_read : (bytes : List ℕ) (table : Table) (error : TableError)
    → (error ≡ faults.NoMemory → ⊥)
    → Reads bytes (Ok table) → Reads bytes (Err error) → ⊥
no_fault_read bytes table faults.NotJson fault p none =
    let both = sym (none p.1.0) ∙ p.1.1 in
    absurd (cc)
no_fault_read bytes table (faults.Shape key) fault p q =
    let d : p.0 ≡ q.0 = some_same (sym p.1.1 ∙ q.1.1) in
    let both : None ≡ Some key = sym p.2.shaped ∙ ap shape_fault d ∙ q.2 in
    absurd (cc)
no_fault_read bytes table (faults.Range op) fault p q =
    let d : p.0 ≡ q.0 = some_same (sym p.1.1 ∙ q.1.1) in
    let both : None ≡ Some op = sym p.2.in_range ∙ ap range_fault d ∙ q.2.1 in
    absurd (cc)
no_fault_read bytes table faults.NoMemory fault p q = fault refl

-- ---- nodes

pub same_at : (a b : Table) → SameLatencies a b → (nodes : List Node) (n : ℕ)
    → latency_at a nodes n ≡ latency_at b nodes n
unfolding SameLatencies
same_at a b same nodes n = by_kind (kind_at nodes n)
  where
    by_kind : (kind : Kind) → latency_as a nodes n kind ≡ latency_as b nodes n kind
    by_kind (K.Operation op mode amount) = same op (width_for nodes n op)
    by_kind K.Input = refl
    by_kind K.Output = refl
    by_kind K.Scalar = refl
    by_kind (K.Constant word) = refl
    by_kind (K.Offset ticks) = refl
    by_kind K.Feed = refl
    by_kind K.Hold = refl
    by_kind K.Counter = refl
    by_kind K.Chain = refl
    by_kind (K.Part place) = refl

pub same_ticks : (a b : Table) → SameLatencies a b → (nodes : List Node)
    → ticks_of a nodes ≡ ticks_of b nodes
same_ticks a b same nodes = fun_ext (λ n. ap (λ o. unwrap_or o 0) (same_at a b same nodes n))

-- where each node has a latency, none has none
pub timed_has : (table : Table) (nodes : List Node) (n : ℕ) (op : Op) (width : ℕ)
    → IsSome (latency_at table nodes n) → HasNone table nodes n op width → ⊥
timed_has table nodes n op width some h =
    let kind = h.operation.2 in
    let none : latency_as table nodes n (K.Operation op h.operation.0 h.operation.1) ≡ None =
    subst (λ w. latency_of table op w ≡ None) h.of_width h.none in
    let e : latency_at table nodes n ≡ None = ap (latency_as table nodes n) kind ∙ none in
    let both = rw e at some in
    absurd (cc)

-- ---- schedules

module _ (a b : Table) (same : SameLatencies a b) (nodes : List Node) where
  ticks : ticks_of a nodes ≡ ticks_of b nodes
  ticks = same_ticks a b same nodes

  pub timed_along : AllTimed a nodes → AllTimed b nodes
  timed_along timed n lt = subst (λ o. IsSome o) (same_at a b same nodes n) (timed n lt)

  pub same_problem : problem_of a nodes ≡ problem_of b nodes
  same_problem = ap (λ t. problem_over t nodes (edges_of nodes)) ticks

  pub schedulable_along : IsSchedulable a nodes → IsSchedulable b nodes
  schedulable_along is = record {
    timed = timed_along is.timed;
    covered = subst (λ t. AreCovered t (edges_of nodes)) ticks is.covered;
  }

  -- what no legal schedule needs fewer bits than
  pub least_along : (s : Numbers) → IsLeastLegal a nodes s → IsLeastLegal b nodes s
  least_along s is = record {
    legal = subst (λ t. IsLegal t (edges_of nodes) s) ticks is.legal;
    least = λ other legal.
        subst (λ t. fifo_bits t nodes (edges_of nodes) s
        ≤ℤ fifo_bits t nodes (edges_of nodes) other) ticks
        (is.least other (subst (λ t. IsLegal t (edges_of nodes) other) (sym ticks) legal));
  }

  pub best_along : (s : Schedule) → IsBestSchedule a nodes s → IsBestSchedule b nodes s
  best_along s is = record {
    schedulable = schedulable_along is.schedulable;
    least = record {
      latencies = record {
        counted = is.least.latencies.counted;
        each = λ n lt. sym (same_at a b same nodes n) ∙ is.least.latencies.each n lt;
        at_most = is.least.latencies.at_most;
      };
      problem = is.least.problem ∙ same_problem;
      best = is.least.best;
      small = is.least.small;
      earliest = is.least.earliest;
      times = least_along (numbers_of s.answer.times) is.least.times;
      bits =
          subst (λ t. fifo_bits t nodes (edges_of nodes) (numbers_of s.answer.times)
          ≡ cost_of s.problem (numbers_of s.answer.times)) ticks is.least.bits;
    };
    arcs = is.arcs;
    most = is.most;
    begins = is.begins;
  }
