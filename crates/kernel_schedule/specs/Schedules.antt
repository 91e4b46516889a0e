-- Which kernels have schedules, and which schedule of a kernel is answered.
use Rattle.std.specs.Prelude.{◌≡◌, ◌<◌, ◌^◌, ℕ, ◌≤ℤ◌, List, length}
use Rattle.cycle_find.specs.Constraints.{Numbers, numbers_of}
use Rattle.schedule_problem.specs.Flow.{flow_of, cost_of}
use Rattle.schedule_problem.specs.Optimum.{IsBest, IsEarliest}
use Rattle.stream_graph.specs.declared.node.Node.{Node}
use Rattle.latency_table.specs.declared.table.Table.{Table}
use Rattle.offset_edges.specs.Edges.{edges_of}
use Rattle.offset_edges.specs.Latencies.{ticks_of, AllTimed, AreLatencies}
use Rattle.offset_edges.specs.Problems.{problem_of}
use Rattle.offset_edges.specs.Schedules.{IsLegal, fifo_bits}
use Rattle.offset_edges.specs.Walks.{AreCovered}
use Rattle.kernel_schedule.specs.declared.schedule.Schedule.{Schedule}

-- a kernel of these nodes has a legal schedule: the table has a latency for each of them, and every
-- closed walk of edges is covered
pub record IsSchedulable (table : Table) (nodes : List Node) : Type 0 where
  pub timed : AllTimed table nodes
  pub covered : AreCovered (ticks_of table nodes) (edges_of nodes)

-- node v has the time s v: no legal schedule has FIFOs of fewer bits
pub record IsLeastLegal (table : Table) (nodes : List Node) (s : Numbers) : Type 0 where
  pub legal : IsLegal (ticks_of table nodes) (edges_of nodes) s
  pub least :
      (other : Numbers)
      → IsLegal (ticks_of table nodes) (edges_of nodes) other
      → fifo_bits (ticks_of table nodes) nodes (edges_of nodes) s
      ≤ℤ fifo_bits (ticks_of table nodes) nodes (edges_of nodes) other

-- The latencies of the kernel's nodes, and its problem, with times and a flow that is worth what they cost; the times are a
-- legal schedule, whose FIFOs hold as many bits as the times cost, and no legal schedule fewer; and
-- of the times that cost this they are the earliest.
pub record IsLeast (table : Table) (nodes : List Node) (schedule : Schedule) : Type 0 where
  pub latencies : AreLatencies table nodes (length nodes) schedule.latencies
  pub problem : schedule.problem ≡ problem_of table nodes
  pub best : IsBest schedule.problem schedule.answer
  pub small : (j : ℕ) → flow_of schedule.answer.flow j < 2 ^ 63
  pub earliest : IsEarliest schedule.problem (numbers_of schedule.answer.times)
  pub times : IsLeastLegal table nodes (numbers_of schedule.answer.times)
  pub bits :
      fifo_bits (ticks_of table nodes) nodes (edges_of nodes) (numbers_of schedule.answer.times)
      ≡ cost_of schedule.problem (numbers_of schedule.answer.times)
