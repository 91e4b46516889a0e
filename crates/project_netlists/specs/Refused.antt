-- Why there are no modules of a project's kernels, or its links are too deep.
use Rattle.std.specs.Prelude.{◌≡◌, ℕ, ℤ, List, take, Some, All, slice_get}
use Rattle.stream_graph.specs.declared.kernel.Kernel.{Kernel}
use Rattle.latency_table.specs.declared.table.Table.{Table}
use Rattle.offset_edges.specs.declared.error.EdgeError.TheVariants as edge_errors
use Rattle.kernel_schedule.specs.declared.error.ScheduleError.{ScheduleError}
use Rattle.kernel_schedule.specs.declared.error.ScheduleError.TheVariants as schedule_errors
use Rattle.kernel_schedule.specs.declared.schedule.Schedule.{Schedule}
use Rattle.kernel_schedule.specs.Refused as Schedules
use Rattle.kernel_netlist.specs.Bits.{NeedsFewBits}
use Rattle.kernel_netlist.specs.Refused.{NeedsTooMany}
use Rattle.manager_links.specs.declared.project.Project.{Project}
use Rattle.manager_links.specs.Links.{IsFirstTooDeep}
use Rattle.project_netlists.specs.declared.error.NetlistsError.{NetlistsError}
use Rattle.project_netlists.specs.declared.error.NetlistsError.TheVariants as E
use Rattle.project_netlists.specs.Scheduled.{HasSchedule, AreBestSchedules, all_times}

-- the FIFOs of some legal schedule of the kernel hold at most 2^28 bits
abbrev pub FitsBits : Table → Kernel → Type 0
FitsBits table kernel = NeedsFewBits table kernel.nodes

-- ---- the causes

-- the kernel has no schedule, for another reason than want of memory
pub record IsUnscheduled (table : Table) (kernel : Kernel) (error : ScheduleError) : Type 0 where
  pub fault : error ≡ schedule_errors.Edges edge_errors.NoMemory → ⊥
  pub refused : Schedules.IsRefused table kernel.nodes error

-- the kernel of this number is the first that has no schedule
pub record LacksSchedule (table : Table) (kernels : List Kernel) (number : ℕ)
    (error : ScheduleError) : Type 0
  where
    pub kernel : Kernel
    pub here : slice_get kernels number ≡ Some kernel
    pub before : All (HasSchedule table) (take number kernels)
    pub lacks : IsUnscheduled table kernel error

-- The kernel of this number is the first whose FIFOs need too many bits: they hold at least so many
-- in each of its legal schedules.
pub record HasTooManyBits (table : Table) (kernels : List Kernel) (number bits : ℕ) : Type 0 where
  pub kernel : Kernel
  pub here : slice_get kernels number ≡ Some kernel
  pub before : All (FitsBits table) (take number kernels)
  pub needs : NeedsTooMany table kernel.nodes bits

-- all kernels have schedules, and this is the first whose FIFOs need too many bits
pub record NeedsTooManyBits (table : Table) (kernels : List Kernel) (number bits : ℕ) : Type 0
  where
    pub scheduled : All (HasSchedule table) kernels
    pub first : HasTooManyBits table kernels number bits

-- all kernels have modules, and at the times of their least schedules this link is the first that is
-- too deep
pub record NeedsDeepLink (table : Table) (project : Project) (number words : ℕ) : Type 0 where
  pub scheduled : All (HasSchedule table) project.kernels
  pub fit : All (FitsBits table) project.kernels
  pub schedules : List Schedule
  pub best : AreBestSchedules table project.kernels schedules
  pub deep : IsFirstTooDeep project (all_times schedules) number words

-- the cause of each error, the first that stands. Want of memory has none
abbrev pub IsRefused : Table → Project → NetlistsError → Type 0
IsRefused table project (E.Schedule number error) =
    LacksSchedule table project.kernels number error
IsRefused table project (E.TooManyBits number bits) =
    NeedsTooManyBits table project.kernels number bits
IsRefused table project (E.LinkTooDeep number words) = NeedsDeepLink table project number words
IsRefused table project E.NoMemory = Unit {0}

-- ---- step by step

-- memory was short, or the kernel of this number has no schedule
abbrev pub MayBeUnscheduled : Table → Kernel → ℕ → NetlistsError → Type 0
MayBeUnscheduled table kernel number (E.Schedule at error) =
    (at ≡ number) × IsUnscheduled table kernel error
MayBeUnscheduled table kernel number error = error ≡ E.NoMemory

-- memory was short, or one of these kernels has no schedule
abbrev pub MayLackSchedule : Table → List Kernel → NetlistsError → Type 0
MayLackSchedule table kernels (E.Schedule number error) = LacksSchedule table kernels number error
MayLackSchedule table kernels error = error ≡ E.NoMemory

-- memory was short, or the FIFOs of the kernel of this number need too many bits
abbrev pub MayNeedTooMany : Table → Kernel → ℕ → NetlistsError → Type 0
MayNeedTooMany table kernel number (E.TooManyBits at bits) =
    (at ≡ number) × NeedsTooMany table kernel.nodes bits
MayNeedTooMany table kernel number error = error ≡ E.NoMemory

-- memory was short, or those of one of these kernels do
abbrev pub MayHaveTooMany : Table → List Kernel → NetlistsError → Type 0
MayHaveTooMany table kernels (E.TooManyBits number bits) =
    HasTooManyBits table kernels number bits
MayHaveTooMany table kernels error = error ≡ E.NoMemory

-- memory was short, or a link is too deep
abbrev pub MayHaveDeepLink : Project → List (List ℤ) → NetlistsError → Type 0
MayHaveDeepLink project times (E.LinkTooDeep number words) =
    IsFirstTooDeep project times number words
MayHaveDeepLink project times error = error ≡ E.NoMemory
