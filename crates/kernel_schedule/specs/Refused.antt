-- Why a kernel has no schedule, and the line that says it.
use Rattle.std.specs.Prelude.{ℕ, List, Option, Some, codes}
use Rattle.cycle_find.specs.Constraints.{Numbers}
use Rattle.stream_graph.specs.declared.node.Node.{Node}
use Rattle.latency_table.specs.declared.table.Table.{Table}
use Rattle.offset_edges.specs.declared.walk.ClosedWalk.{ClosedWalk}
use Rattle.offset_edges.specs.Edges.{edges_of}
use Rattle.offset_edges.specs.Latencies.{ticks_of, AllTimed}
use Rattle.offset_edges.specs.Refused.{IsUncovered, line_of_walk}
use Rattle.offset_edges.specs.Refused as Edges
use Rattle.offset_edges.specs.Schedules.{IsLegal}
use Rattle.offset_edges.specs.Walks.{IsCausal}
use Rattle.kernel_schedule.specs.declared.error.ScheduleError.{ScheduleError}
use Rattle.kernel_schedule.specs.declared.error.ScheduleError.TheVariants as E

-- every node has a latency and the kernel is causal, no schedule of it is legal, and the walk is
-- uncovered
pub record HasNoSchedule (table : Table) (nodes : List Node) (walk : ClosedWalk) : Type 0 where
  pub timed : AllTimed table nodes
  pub causal : IsCausal (edges_of nodes)
  pub uncovered : IsUncovered table nodes walk
  pub none : (s : Numbers) → IsLegal (ticks_of table nodes) (edges_of nodes) s → ⊥

-- why the kernel has no problem, or, where it has one, no legal schedule
abbrev pub IsRefused : Table → List Node → ScheduleError → Type 0
IsRefused table nodes (E.Edges error) = Edges.IsRefused table nodes error
IsRefused table nodes (E.Uncovered walk) = HasNoSchedule table nodes walk

-- the line of the refusal of a kernel of this name. Want of memory is none
abbrev pub said : List ℕ → ScheduleError → Option (List ℕ)
said kernel (E.Edges error) = Edges.said kernel error
said kernel (E.Uncovered walk) = Some (line_of_walk (codes "C2") kernel walk)
