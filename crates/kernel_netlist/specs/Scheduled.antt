-- The schedule by which a kernel gets its module.
use Rattle.std.specs.Prelude.{ℕ, ◌^◌, pos, ◌≤ℤ◌, List, length}
use Rattle.cycle_find.specs.Constraints.{numbers_of, IsSolvable}
use Rattle.stream_graph.specs.declared.node.Node.{Node}
use Rattle.latency_table.specs.declared.table.Table.{Table}
use Rattle.offset_edges.specs.Edges.{edges_of}
use Rattle.kernel_schedule.specs.declared.schedule.Schedule.{Schedule}
use Rattle.kernel_schedule.specs.Beginning.{BeginsAtZero}
use Rattle.kernel_schedule.specs.Schedules.{IsSchedulable, IsLeast}

-- all that is known of the schedule that is the best one of a kernel of these nodes: the kernel has
-- a legal schedule, this is the least one, and its times are from 0 to 2^46
pub record IsBestSchedule (table : Table) (nodes : List Node) (schedule : Schedule) : Type 0 where
  pub schedulable : IsSchedulable table nodes
  pub least : IsLeast table nodes schedule
  pub arcs : IsSolvable schedule.problem.arcs
  pub most : (v : ℕ) → numbers_of schedule.answer.times v ≤ℤ pos (2 ^ 46)
  pub begins : BeginsAtZero (edges_of nodes) (length nodes) (numbers_of schedule.answer.times)
