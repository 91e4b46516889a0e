-- The edges of a kernel: from which node the words of an operand come, and how many ticks ahead.
use Rattle.std.specs.Prelude.{
  ◌≡◌,
  ℕ,
  zero,
  suc,
  ◌≤◌,
  ◌<◌,
  ◌^◌,
  Bool,
  true,
  false,
  if◌then◌else◌,
  ℤ,
  pos,
  ◌+ℤ◌,
  unsigned_abs,
  List,
  [],
  ◌∷◌,
  ◌++◌,
  length,
  slice_index,
  slice_index_or,
}
use Rattle.std.specs.List.{flat_map}
use Rattle.stream_graph.specs.declared.node.Kind.{Kind}
use Rattle.stream_graph.specs.declared.node.Kind.TheVariants as K
use Rattle.stream_graph.specs.declared.node.Node.{Node}
use Rattle.stream_graph.specs.LookUps.{kind_at, operands_at, operand_at}
use Rattle.stream_graph.specs.Kinds.{is_steady, is_offset}
use Rattle.offset_edges.specs.declared.edge.Edge.{Edge}
use Rattle.offset_edges.specs.declared.source.Source.{Source}

-- ---- past offsets

abbrev pub new_source : ℕ → ℤ → Source
new_source node offset = record { node = node; offset = offset }

-- a node of this kind is read as itself; an offset as what its operand is read as, so many ticks
-- further ahead
abbrev pub past : Kind → ℕ → Source → Source
past (K.Offset ticks) n behind = new_source behind.node (ticks +ℤ behind.offset)
past _ n behind = new_source n (pos 0)

-- what a node is read as once at most so many offset nodes are followed
abbrev pub source_within : ℕ → List Node → ℕ → Source
source_within zero nodes n = new_source n (pos 0)
source_within (suc more) nodes n =
    past (kind_at nodes n) n (source_within more nodes (operand_at nodes n 0))

-- what a node is read as. An offset's operand is an earlier node, so that no more are met than the
-- number says
abbrev pub source_of : List Node → ℕ → Source
source_of nodes n = source_within n nodes n

-- these are the sources of so many nodes, in node order
pub record AreSources (nodes : List Node) (count : ℕ) (sources : List Source) : Type 0 where
  pub counted : length sources ≡ count
  pub each : (n : ℕ) (d : Source) → n < count → slice_index_or sources n d ≡ source_of nodes n

-- ---- edges

-- the edge over which a node reads an operand; none from one word in all ticks
abbrev pub edge_of : List Node → ℕ → ℕ → List Edge
edge_of nodes reader operand =
    let source = source_of nodes operand in
    if is_steady (kind_at nodes source.node)
    then []
    else record { from = source.node; to = reader; offset = source.offset } ∷ []

-- the edges over which a node reads its operands; an offset reads nothing itself
abbrev pub edges_into : List Node → ℕ → List Edge
edges_into nodes reader =
    if is_offset (kind_at nodes reader) then [] else flat_map (edge_of nodes reader) (operands_at
    nodes reader)

-- those into the nodes below a number, in node order
abbrev pub edges_below : List Node → ℕ → List Edge
edges_below nodes zero = []
edges_below nodes (suc n) = edges_below nodes n ++ edges_into nodes n

-- all edges of a kernel of these nodes
abbrev pub edges_of : List Node → List Edge
edges_of nodes = edges_below nodes (length nodes)

-- edge number j
abbrev pub edge_at : List Edge → ℕ → Edge
edge_at edges j = slice_index_or edges j (record { from = 0; to = 0; offset = pos 0 })

-- the ends are two of so many nodes, and the offset is at most 2^32 either way
pub record IsSmall (nodes : ℕ) (edge : Edge) : Type 0 where
  pub from : edge.from < nodes
  pub to : edge.to < nodes
  pub offset : unsigned_abs edge.offset ≤ 2 ^ 32

-- the edge leads from a node that isn't an offset, nor one word in all ticks, to one that isn't an
-- offset
pub record IsEdge (nodes : List Node) (edge : Edge) : Type 0 where
  pub small : IsSmall (length nodes) edge
  pub stream : is_steady (kind_at nodes edge.from) ≡ false
  pub source : is_offset (kind_at nodes edge.from) ≡ false
  pub reader : is_offset (kind_at nodes edge.to) ≡ false
