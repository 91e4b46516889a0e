-- The modules of a project's kernels, what a report says of the kernels, and the project's links.
use Rattle.std.specs.Prelude.{◌≡◌, ℕ, ℤ, true, List, length, Some, All, slice_get}
use Rattle.rtl_ir.specs.declared.design.Module.{Module}
use Rattle.kernel_calls.specs.Laws.{is_port_name}
use Rattle.stream_graph.specs.declared.kernel.Kernel.{Kernel}
use Rattle.latency_table.specs.declared.table.Table.{Table}
use Rattle.schedule_report.specs.declared.report.ReportKernel.{ReportKernel}
use Rattle.kernel_schedule.specs.declared.schedule.Schedule.{Schedule}
use Rattle.kernel_netlist.specs.Netlists.{IsNetlistOf}
use Rattle.manager_links.specs.declared.project.Project.{Project}
use Rattle.manager_links.specs.Links.{AreLinksOf, IsWithinLimit}
use Rattle.manager_links.specs.Starts.{AreTimes, own_times}
use Rattle.project_netlists.specs.declared.making.ProjectNetlists.{ProjectNetlists}
use Rattle.project_netlists.specs.Scheduled.{AreBestSchedules, all_times}

-- the kernel's name is one that a port can have: a letter and then letters, digits and `_`
abbrev pub HasPortName : Kernel → Type 0
HasPortName kernel = is_port_name kernel.name ≡ true

-- Each kernel has a part of a report and a module, which are those of its least schedule, whose
-- times are the kernel's list of these.
pub record AreKernelNetlists (table : Table) (kernels : List Kernel) (times : List (List ℤ))
    (parts : List ReportKernel) (inners : List Module) : Type 0
  where
    pub one_part : length parts ≡ length kernels
    pub one_module : length inners ≡ length kernels
    pub each :
        (k : ℕ) (kernel : Kernel) (part : ReportKernel) (inner : Module)
        → slice_get kernels k ≡ Some kernel
        → slice_get parts k ≡ Some part
        → slice_get inners k ≡ Some inner
        → IsNetlistOf table kernel (own_times times k) (record { part = part; inner = inner })

-- What the design of a project needs: its kernels have schedules, by a table of latencies; each has
-- its part of a report and its module at the times of its schedule whose FIFOs hold the fewest bits,
-- of those the earliest one; and the links and the starts are those of the project at these times,
-- none of which is too deep.
pub record AreNetlistsOf (table : Table) (project : Project) (made : ProjectNetlists) : Type 0
  where
    pub schedules : List Schedule
    pub best : AreBestSchedules table project.kernels schedules
    pub timed : AreTimes project.kernels (all_times schedules)
    pub kernels :
        AreKernelNetlists table project.kernels (all_times schedules) made.parts
        made.inners.items
    pub links : AreLinksOf project (all_times schedules) made.links
    pub within : All IsWithinLimit made.links.links
