-- Why there are no modules of a project's kernels, by what its steps say.
use Rattle.std.proofs.Common.{◌≡◌, ℕ, ◌<◌, List, length, take, get_or, sym, subst}
use Rattle.std.specs.Prelude.{ℤ, Some, All, slice_get}
use Rattle.std.proofs.lemmas.Option.{slice_get_within}
use Rattle.stream_graph.specs.declared.kernel.Kernel.{Kernel}
use Rattle.latency_table.specs.declared.table.Table.{Table}
use Rattle.kernel_schedule.specs.declared.schedule.Schedule.{Schedule}
use Rattle.manager_links.specs.declared.project.Project.{Project}
use Rattle.manager_links.proofs.Pieces.{get_read}
use Rattle.project_netlists.specs.declared.error.NetlistsError.{NetlistsError}
use Rattle.project_netlists.specs.declared.error.NetlistsError.TheVariants as E
use Rattle.project_netlists.specs.Scheduled.{HasSchedule, AreBestSchedules, all_times}
use Rattle.project_netlists.specs.Lines.{IsOfThese}
use Rattle.project_netlists.specs.Refused.{
  FitsBits,
  IsRefused,
  MayBeUnscheduled,
  MayLackSchedule,
  MayNeedTooMany,
  MayHaveTooMany,
  MayHaveDeepLink,
}

-- ---- one kernel

-- a kernel that has no schedule, behind kernels that have one
pub of_schedule : (table : Table) (kernels : List Kernel) (i : ℕ) (kernel : Kernel)
    (error : NetlistsError) → i < length kernels → kernel ≡ get_or kernels i kernel
    → All (HasSchedule table) (take i kernels) → MayBeUnscheduled table kernel i error
    → MayLackSchedule table kernels error
of_schedule table kernels i kernel (E.Schedule number error) lt is before h = record {
  kernel = kernel;
  here = subst (λ n. slice_get kernels n ≡ Some kernel) (sym h.0) (get_read kernels i kernel lt is);
  before = subst (λ n. All (HasSchedule table) (take n kernels)) (sym h.0) before;
  lacks = h.1;
}
of_schedule table kernels i kernel error lt is before h = h

-- a kernel whose FIFOs need too many bits, behind kernels whose need few
pub of_bits : (table : Table) (kernels : List Kernel) (i : ℕ) (kernel : Kernel)
    (error : NetlistsError) → i < length kernels → kernel ≡ get_or kernels i kernel
    → All (FitsBits table) (take i kernels) → MayNeedTooMany table kernel i error
    → MayHaveTooMany table kernels error
of_bits table kernels i kernel (E.TooManyBits number bits) lt is before h = record {
  kernel = kernel;
  here = subst (λ n. slice_get kernels n ≡ Some kernel) (sym h.0) (get_read kernels i kernel lt is);
  before = subst (λ n. All (FitsBits table) (take n kernels)) (sym h.0) before;
  needs = h.1;
}
of_bits table kernels i kernel error lt is before h = h

-- ---- the whole project

pub refused_schedule : (table : Table) (project : Project) (error : NetlistsError)
    → MayLackSchedule table project.kernels error → IsRefused table project error
refused_schedule table project (E.Schedule number error) h = h
refused_schedule table project (E.TooManyBits number bits) h = absurd (cc)
refused_schedule table project (E.LinkTooDeep number words) h = absurd (cc)
refused_schedule table project E.NoMemory h = tt

pub refused_bits : (table : Table) (project : Project) (error : NetlistsError)
    → All (HasSchedule table) project.kernels → MayHaveTooMany table project.kernels error
    → IsRefused table project error
refused_bits table project (E.Schedule number error) scheduled h = absurd (cc)
refused_bits table project (E.TooManyBits number bits) scheduled h =
    record { scheduled = scheduled; first = h }
refused_bits table project (E.LinkTooDeep number words) scheduled h = absurd (cc)
refused_bits table project E.NoMemory scheduled h = tt

pub refused_link : (table : Table) (project : Project) (schedules : List Schedule)
    (error : NetlistsError) → AreBestSchedules table project.kernels schedules
    → All (HasSchedule table) project.kernels → All (FitsBits table) project.kernels
    → MayHaveDeepLink project (all_times schedules) error → IsRefused table project error
refused_link table project schedules (E.Schedule number error) best scheduled fit h = absurd (cc)
refused_link table project schedules (E.TooManyBits number bits) best scheduled fit h = absurd (cc)
refused_link table project schedules (E.LinkTooDeep number words) best scheduled fit h =
    record { scheduled = scheduled; fit = fit; schedules = schedules; best = best; deep = h }
refused_link table project schedules E.NoMemory best scheduled fit h = tt

-- ---- kernels that are told of

-- the kernel of a cause is one of the project's
pub of_these : (table : Table) (project : Project) (error : NetlistsError)
    → IsRefused table project error → IsOfThese project.kernels error
of_these table project (E.Schedule number error) h =
    slice_get_within project.kernels number h.kernel h.here
of_these table project (E.TooManyBits number bits) h =
    slice_get_within project.kernels number h.first.kernel h.first.here
of_these table project (E.LinkTooDeep number words) h = tt
of_these table project E.NoMemory h = tt

-- no kernel is told of where a link is too deep
pub deep_of_these : (project : Project) (times : List (List ℤ)) (error : NetlistsError)
    → MayHaveDeepLink project times error → IsOfThese project.kernels error
deep_of_these project times (E.Schedule number error) h = absurd (cc)
deep_of_these project times (E.TooManyBits number bits) h = absurd (cc)
deep_of_these project times (E.LinkTooDeep number words) h = tt
deep_of_these project times E.NoMemory h = tt
