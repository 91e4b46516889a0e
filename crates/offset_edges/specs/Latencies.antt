-- The latencies of a kernel's nodes.
use Rattle.std.specs.Prelude.{
  ◌≡◌,
  ℕ,
  ◌≤◌,
  ◌<◌,
  List,
  length,
  slice_index,
  Option,
  Some,
  None,
  unwrap_or,
  IsSome,
}
use Rattle.mx_bits.specs.declared.op.Op.{Op}
use Rattle.mx_bits.specs.declared.op.Op.TheVariants.{Mux}
use Rattle.fix_arith.specs.declared.types.RoundMode.{RoundMode}
use Rattle.stream_graph.specs.declared.node.Kind.{Kind}
use Rattle.stream_graph.specs.declared.node.Kind.TheVariants as K
use Rattle.stream_graph.specs.declared.node.Node.{Node}
use Rattle.latency_table.specs.declared.table.Table.{Table}
use Rattle.latency_table.specs.Tables.{latency_of}
use Rattle.offset_edges.specs.declared.error.EdgeError.{EdgeError}
use Rattle.offset_edges.specs.declared.error.EdgeError.TheVariants as E
use Rattle.stream_graph.specs.LookUps.{kind_at, operand_at, width_at}

-- the place of the operand whose width says which row of the table counts: the first, of a
-- multiplexer the second
abbrev pub deciding : Op → ℕ
deciding Mux = 1
deciding _ = 0

-- that width
abbrev pub width_for : List Node → ℕ → Op → ℕ
width_for nodes n op = width_at nodes (operand_at nodes n (deciding op))

-- the latency of a node of this kind: of an operation that of the table, of every other node 0
abbrev pub latency_as : Table → List Node → ℕ → Kind → Option ℕ
latency_as table nodes n (K.Operation op mode amount) = latency_of table op (width_for nodes n op)
latency_as table nodes n _ = Some 0

abbrev pub latency_at : Table → List Node → ℕ → Option ℕ
latency_at table nodes n = latency_as table nodes n (kind_at nodes n)

-- the ticks of a latency that the table has
abbrev pub ticks_of : Table → List Node → ℕ → ℕ
ticks_of table nodes n = unwrap_or (latency_at table nodes n) 0

-- the table has a latency for each node
abbrev pub AllTimed : Table → List Node → Type 0
AllTimed table nodes = (n : ℕ) → n < length nodes → IsSome (latency_at table nodes n)

-- these are the latencies of so many nodes, in node order
pub record AreLatencies (table : Table) (nodes : List Node) (count : ℕ) (ticks : List ℕ) : Type 0
  where
    pub counted : length ticks ≡ count
    pub each : (n : ℕ) → n < count → latency_at table nodes n ≡ Some (slice_index ticks n)
    pub at_most : (n : ℕ) → slice_index ticks n ≤ 64

-- the node is an operation for which the table has no row
pub record HasNone (table : Table) (nodes : List Node) (n : ℕ) (op : Op) (width : ℕ) : Type 0 where
  pub operation : (mode : RoundMode) × (amount : ℕ) × (kind_at nodes n ≡ K.Operation op mode amount)
  pub of_width : width ≡ width_for nodes n op
  pub none : latency_of table op width ≡ None

-- the error says the operation and the width of a node that has no latency
abbrev pub Lacks : Table → List Node → ℕ → EdgeError → Type 0
Lacks table nodes n (E.NoLatency op width) = HasNone table nodes n op width
Lacks table nodes n (E.Cycle walk) = ⊥
Lacks table nodes n E.NoMemory = Unit {0}

-- no node before this one is such an operation
pub record IsFirstLacking (table : Table) (nodes : List Node) (n : ℕ) (op : Op) (width : ℕ) : Type 0
  where
    pub node : n < length nodes
    pub lacks : HasNone table nodes n op width
    pub earlier : (k : ℕ) → k < n → IsSome (latency_at table nodes k)

-- the error says those of the first such node
abbrev pub IsMissing : Table → List Node → EdgeError → Type 0
IsMissing table nodes (E.NoLatency op width) = (n : ℕ) × IsFirstLacking table nodes n op width
IsMissing table nodes (E.Cycle walk) = ⊥
IsMissing table nodes E.NoMemory = Unit {0}
