-- Why a kernel's module has no layout.
use Rattle.std.specs.Prelude.{◌≡◌, ◌<◌, ◌^◌, ℤ, pos, ◌≤ℤ◌, List, slice_index}
use Rattle.cycle_find.specs.Constraints.{numbers_of}
use Rattle.stream_graph.specs.declared.node.Node.{Node}
use Rattle.offset_edges.specs.Edges.{edges_of}
use Rattle.offset_edges.specs.Schedules.{fifo_bits}
use Rattle.kernel_schedule.specs.declared.schedule.Schedule.{Schedule}
use Rattle.kernel_plan.specs.declared.error.PlanError.{PlanError}
use Rattle.kernel_plan.specs.declared.error.PlanError.TheVariants as E

-- the bits that the FIFOs of a kernel of these nodes hold at a schedule
abbrev pub bits_in : List Node → Schedule → ℤ
bits_in nodes schedule =
    fifo_bits (slice_index schedule.latencies) nodes (edges_of nodes)
    (numbers_of schedule.answer.times)

-- so many bits are more than 2^28, and the error says them; where memory is wanting they are not
abbrev pub IsRefused : ℤ → PlanError → Type 0
IsRefused bits (E.TooManyBits said) = (pos said ≡ bits) × (2 ^ 28 < said)
IsRefused bits E.NoMemory = bits ≤ℤ pos (2 ^ 28)
