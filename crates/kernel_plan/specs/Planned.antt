-- The schedules by which kernels are laid out.
use Rattle.std.specs.Prelude.{List}
use Rattle.stream_graph.specs.declared.node.Node.{Node}
use Rattle.latency_table.specs.declared.table.Table.{Table}
use Rattle.kernel_schedule.specs.declared.schedule.Schedule.{Schedule}
use Rattle.kernel_schedule.specs.Schedules.{IsSchedulable, IsLeast}

-- some table of latencies has a schedule of a kernel of these nodes, and this is the least one
pub record IsScheduled (nodes : List Node) (schedule : Schedule) : Type 0 where
  pub table : Table
  pub schedulable : IsSchedulable table nodes
  pub least : IsLeast table nodes schedule
