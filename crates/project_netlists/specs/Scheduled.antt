-- Which kernels of a project have schedules, and which are their least ones.
use Rattle.std.specs.Prelude.{ℤ, List, map}
use Rattle.std.specs.List.{AllZip}
use Rattle.stream_graph.specs.declared.kernel.Kernel.{Kernel}
use Rattle.latency_table.specs.declared.table.Table.{Table}
use Rattle.kernel_schedule.specs.declared.schedule.Schedule.{Schedule}
use Rattle.kernel_schedule.specs.Schedules.{IsSchedulable}
use Rattle.kernel_netlist.specs.Scheduled.{IsBestSchedule}

-- the kernel has a legal schedule by the table
abbrev pub HasSchedule : Table → Kernel → Type 0
HasSchedule table kernel = IsSchedulable table kernel.nodes

-- the schedule of a kernel whose FIFOs hold the fewest bits, and of those the earliest
abbrev pub IsBestOf : Table → Kernel → Schedule → Type 0
IsBestOf table kernel schedule = IsBestSchedule table kernel.nodes schedule

-- that of each of these kernels, in their order
abbrev pub AreBestSchedules : Table → List Kernel → List Schedule → Type 0
AreBestSchedules table kernels schedules = AllZip (IsBestOf table) kernels schedules

-- the times of schedules, a list for each
abbrev pub all_times : List Schedule → List (List ℤ)
all_times schedules = map (λ (schedule : Schedule). schedule.answer.times) schedules
