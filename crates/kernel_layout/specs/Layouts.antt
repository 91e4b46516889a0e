-- The layout of a kernel's module.
use Rattle.std.specs.Prelude.{◌≡◌, ℕ, ◌<◌, List, [], map, length, slice_index, slice_index_or}
use Rattle.cycle_find.specs.Constraints.{Numbers}
use Rattle.digraph.specs.Graph.{IsGraph, IsRanked, IsPlaced, IsClosedWalk}
use Rattle.stream_graph.specs.declared.node.Node.{Node}
use Rattle.kernel_layout.specs.declared.layout.Layout.{Layout}
use Rattle.kernel_layout.specs.declared.reads.Read.{Read}
use Rattle.kernel_layout.specs.Reads.{AreReadsOf, direct_of}
use Rattle.kernel_layout.specs.Waits.{AreWaits, stages_by}

-- these are the reads of so many nodes, in node order
pub record AreReads (nodes : List Node) (s : Numbers) (count : ℕ)
    (reads : List (List Read)) : Type 0
  where
    pub counted : length reads ≡ count
    pub each : (n : ℕ) → n < count → AreReadsOf nodes s n (slice_index_or reads n [])

-- these are the latencies of so many nodes, in node order
pub record AreLatencies (ticks : ℕ → ℕ) (count : ℕ) (latencies : List ℕ) : Type 0 where
  pub counted : length latencies ≡ count
  pub each : (n : ℕ) → n < count → slice_index latencies n ≡ ticks n

-- these are the waits of so many nodes, in node order
pub record AreAllWaits (nodes : List Node) (ticks : ℕ → ℕ) (s : Numbers) (count : ℕ)
    (waits : List (List ℕ)) : Type 0
  where
    pub counted : length waits ≡ count
    pub each : (n : ℕ) → n < count → AreWaits nodes ticks s n (slice_index_or waits n [])

-- the numbers of advances after which the word of node n is shown
abbrev pub stages_at : Layout → ℕ → List ℕ
stages_at layout n =
    stages_by (slice_index layout.pipeline n) (slice_index_or layout.waits n [])

-- The nodes in an order in which each comes after those whose words it reads as they are computed,
-- with the places in it, from 1.
pub record IsOrder (reads : List (List Read)) (order : List ℕ) : Type 0 where
  pub rank : List ℕ
  pub rising : IsRanked (map direct_of reads) rank
  pub placed : IsPlaced (map direct_of reads) order rank

-- the layout of a kernel of these nodes, with these latencies and times
pub record IsLayout (nodes : List Node) (ticks : ℕ → ℕ) (s : Numbers) (layout : Layout) : Type 0
  where
    pub reads : AreReads nodes s (length nodes) layout.reads
    pub pipeline : AreLatencies ticks (length nodes) layout.pipeline
    pub waits : AreAllWaits nodes ticks s (length nodes) layout.waits
    pub order : IsOrder layout.reads layout.order

-- no walk over nodes that read each other's words as they are computed is closed, and they are
-- nodes
pub record HaveNoLoop (reads : List (List Read)) : Type 0 where
  pub graph : IsGraph (map direct_of reads)
  pub none : (walk : List ℕ) → IsClosedWalk (map direct_of reads) walk → ⊥
