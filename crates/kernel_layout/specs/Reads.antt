-- Where the operands of a kernel's nodes are read, at the times of a schedule.
use Rattle.std.specs.Prelude.{
  ◌≡◌,
  ℕ,
  ◌<◌,
  ◌^◌,
  true,
  false,
  ℤ,
  pos,
  ◌-ℤ◌,
  ◌≤ℤ◌,
  List,
  [],
  ◌∷◌,
  length,
  if◌then◌else◌,
  ◌==◌,
  slice_index_or,
}
use Rattle.cycle_find.specs.Constraints.{Numbers}
use Rattle.stream_graph.specs.declared.node.Node.{Node}
use Rattle.offset_edges.specs.declared.edge.Edge.{Edge}
use Rattle.stream_graph.specs.LookUps.{kind_at, operands_at, operand_at}
use Rattle.offset_edges.specs.Edges.{source_of, edges_of, edge_at}
use Rattle.stream_graph.specs.Kinds.{is_offset, is_steady}
use Rattle.kernel_layout.specs.declared.reads.Read.{Read}

-- how many advances after the word of its source was computed an edge's reader reads it
abbrev pub behind_of : Numbers → Edge → ℤ
behind_of s edge = (s edge.to -ℤ s edge.from) -ℤ edge.offset

-- node v has the time s v, from 0 to 2^46, and no word is read before it was computed
pub record AreTimes (nodes : List Node) (s : Numbers) : Type 0 where
  pub begin : (v : ℕ) → v < length nodes → pos 0 ≤ℤ s v
  pub most : (v : ℕ) → v < length nodes → s v ≤ℤ pos (2 ^ 46)
  pub behind :
      (j : ℕ) → j < length (edges_of nodes) → pos 0 ≤ℤ behind_of s (edge_at (edges_of nodes) j)

-- no operand is read before it was computed
abbrev pub IsLater : List Node → Numbers → ℕ → ℕ → Type 0
IsLater nodes s reader operand =
    is_steady (kind_at nodes (source_of nodes operand).node) ≡ false
    → pos 0 ≤ℤ ((s reader -ℤ s (source_of nodes operand).node) -ℤ (source_of nodes operand).offset)

-- A node reads an operand from the node that the operand is past its offsets. A word that is one
-- word in all ticks is read as it stands; another one so many advances after it was computed as the
-- times of the two nodes differ by, less the offset.
pub record IsRead (nodes : List Node) (s : Numbers) (reader operand : ℕ) (read : Read) : Type 0
  where
    pub source : read.source ≡ (source_of nodes operand).node
    pub inside : read.source < length nodes
    pub steady : is_steady (kind_at nodes read.source) ≡ true → read.behind ≡ 0
    pub moving :
        is_steady (kind_at nodes read.source) ≡ false
        → pos read.behind ≡ (s reader -ℤ s read.source) -ℤ (source_of nodes operand).offset

abbrev pub no_read : Read
no_read = record { source = 0; behind = 0 }

abbrev pub read_at : List Read → ℕ → Read
read_at reads i = slice_index_or reads i no_read

-- these are the first so many operands of a node, as it reads them
pub record AreReadsBelow (nodes : List Node) (s : Numbers) (reader count : ℕ) (reads : List Read) :
    Type 0
  where
    pub counted : length reads ≡ count
    pub each :
        (i : ℕ) → i < count → IsRead nodes s reader (operand_at nodes reader i) (read_at reads i)

-- how many operands a node reads; an offset reads nothing itself
abbrev pub reads_count : List Node → ℕ → ℕ
reads_count nodes n = if is_offset (kind_at nodes n) then 0 else length (operands_at nodes n)

-- all operands of a node, as it reads them
abbrev pub AreReadsOf : List Node → Numbers → ℕ → List Read → Type 0
AreReadsOf nodes s reader reads = AreReadsBelow nodes s reader (reads_count nodes reader) reads

-- the nodes whose words are read as they are computed
abbrev pub direct_of : List Read → List ℕ
direct_of [] = []
direct_of (read ∷ reads) =
    if read.behind == 0 then read.source ∷ direct_of reads else direct_of reads
