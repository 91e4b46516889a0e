-- How many bits the FIFOs of a kernel's schedules need.
use Rattle.std.specs.Prelude.{◌≡◌, ℕ, ◌^◌, pos, ◌≤ℤ◌, List}
use Rattle.cycle_find.specs.Constraints.{Numbers}
use Rattle.stream_graph.specs.declared.node.Node.{Node}
use Rattle.latency_table.specs.declared.table.Table.{Table}
use Rattle.offset_edges.specs.Edges.{edges_of}
use Rattle.offset_edges.specs.Latencies.{ticks_of}
use Rattle.offset_edges.specs.Schedules.{fifo_bits}
use Rattle.kernel_schedule.specs.Schedules.{IsLeastLegal}

-- The FIFOs of some legal schedule of a kernel of these nodes hold so many bits, and those of no
-- other one fewer.
pub record NeedsBits (table : Table) (nodes : List Node) (bits : ℕ) : Type 0 where
  pub times : Numbers
  pub least : IsLeastLegal table nodes times
  pub holds : fifo_bits (ticks_of table nodes) nodes (edges_of nodes) times ≡ pos bits

-- the FIFOs of some legal schedule hold at most 2^28 bits, and those of no other one fewer than these
pub record NeedsFewBits (table : Table) (nodes : List Node) : Type 0 where
  pub times : Numbers
  pub least : IsLeastLegal table nodes times
  pub few : fifo_bits (ticks_of table nodes) nodes (edges_of nodes) times ≤ℤ pos (2 ^ 28)
