-- What the least schedules of kernels give.
use Rattle.std.proofs.Common.{◌≡◌, ◌∙◌, ℕ, ◌*◌, ◌<◌, List, [], length, map, get_or, ap, arith}
use Rattle.std.specs.Prelude.{All}
use Rattle.std.specs.Option.{option_map}
use Rattle.std.proofs.lemmas.Option.{slice_get-map, get_or_from_slice_get}
use Rattle.stream_graph.specs.declared.kernel.Kernel.{Kernel}
use Rattle.latency_table.specs.declared.table.Table.{Table}
use Rattle.kernel_schedule.specs.declared.schedule.Schedule.{Schedule}
use Rattle.schedule_problem.specs.declared.problem.Problem.{Problem}
use Rattle.manager_links.specs.Starts.{IsTimed, AreTimes, own_times}
use Rattle.manager_links.proofs.Pieces.{get_read}
use Rattle.project_netlists.specs.Scheduled.{HasSchedule, IsBestOf, AreBestSchedules, all_times}
use Rattle.project_netlists.proofs.Lists.{zip_left, zip_map}

-- each kernel has a schedule
pub all_scheduled : (table : Table) (kernels : List Kernel) (schedules : List Schedule)
    → AreBestSchedules table kernels schedules → All (HasSchedule table) kernels
all_scheduled table kernels schedules best =
    zip_left (IsBestOf table) (HasSchedule table) kernels schedules (λ kernel schedule is. is.schedulable)
    best

timed : (table : Table) (kernel : Kernel) (schedule : Schedule) → IsBestOf table kernel schedule
    → IsTimed kernel schedule.answer.times
timed table kernel schedule is =
    let long : length schedule.answer.times ≡ 2 * length kernel.nodes =
    is.least.best.nodes ∙ ap (λ (p : Problem). p.arcs.nodes) is.least.problem in
    record {
      each = omega (arith, long);
      begin = λ v lt. is.least.earliest.non_negative v;
      most = λ v lt. is.most v;
    }

-- their times are times of the kernels
pub all_timed : (table : Table) (kernels : List Kernel) (schedules : List Schedule)
    → AreBestSchedules table kernels schedules → AreTimes kernels (all_times schedules)
all_timed table kernels schedules best =
    zip_map (IsBestOf table) IsTimed (λ (schedule : Schedule). schedule.answer.times) kernels schedules
    (timed table) best

-- the list of a kernel is that of its schedule
pub own_is : (schedules : List Schedule) (i : ℕ) (schedule : Schedule) → i < length schedules
    → schedule ≡ get_or schedules i schedule → own_times (all_times schedules) i ≡ schedule.answer.times
own_is schedules i schedule lt is =
    let times = λ (s : Schedule). s.answer.times in
    get_or_from_slice_get (map times schedules) i schedule.answer.times []
    (slice_get-map times schedules i ∙ ap (option_map times) (get_read schedules i schedule lt is))
