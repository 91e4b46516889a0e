-- The laws of refusals: which projects have modules and links, and that no other answer stands.
use Rattle.std.specs.Prelude.{◌≡◌, List, All}
use Rattle.latency_table.specs.declared.table.Table.{Table}
use Rattle.kernel_schedule.specs.declared.schedule.Schedule.{Schedule}
use Rattle.manager_links.specs.declared.links.Links.{Links}
use Rattle.manager_links.specs.declared.project.Project.{Project}
use Rattle.manager_links.specs.Links.{AreLinksOf, IsWithinLimit}
use Rattle.project_netlists.specs.declared.error.NetlistsError.{NetlistsError}
use Rattle.project_netlists.specs.declared.error.NetlistsError.TheVariants as E
use Rattle.project_netlists.specs.declared.making.ProjectNetlists.{ProjectNetlists}
use Rattle.project_netlists.specs.Netlists.{AreNetlistsOf}
use Rattle.project_netlists.specs.Refused.{FitsBits, IsRefused}
use Rattle.project_netlists.specs.Scheduled.{HasSchedule, AreBestSchedules, all_times}

-- Each kernel of the project has a schedule by the table and FIFOs that need at most 2^28 bits, and
-- at the times of the least schedules no link is too deep.
pub record HasNetlists (table : Table) (project : Project) : Type 0 where
  pub scheduled : All (HasSchedule table) project.kernels
  pub fit : All (FitsBits table) project.kernels
  pub schedules : List Schedule
  pub best : AreBestSchedules table project.kernels schedules
  pub links : Links
  pub are : AreLinksOf project (all_times schedules) links
  pub within : All IsWithinLimit links.links

-- the project is refused for another reason than want of memory
pub record HasCause (table : Table) (project : Project) (error : NetlistsError) : Type 0 where
  pub fault : error ≡ E.NoMemory → ⊥
  pub refused : IsRefused table project error

-- two errors tell of the same: of one kernel that has no schedule, of the bits of one kernel, or of
-- the words of one link
abbrev pub TellTheSame : NetlistsError → NetlistsError → Type 0
TellTheSame (E.Schedule number one) (E.Schedule same other) = number ≡ same
TellTheSame (E.TooManyBits number bits) (E.TooManyBits same others) =
    (number ≡ same) × (bits ≡ others)
TellTheSame (E.LinkTooDeep number words) (E.LinkTooDeep same others) =
    (number ≡ same) × (words ≡ others)
TellTheSame one other = ⊥

-- ---- the laws

-- what was made of a project shows that it has modules and links
abbrev pub MadeHasNetlists : Type 0
MadeHasNetlists =
    (table : Table) (project : Project) (made : ProjectNetlists)
    → AreNetlistsOf table project made
    → HasNetlists table project

-- a project that has them is refused for no cause
abbrev pub RefusedHasNone : Type 0
RefusedHasNone =
    (table : Table) (project : Project) (error : NetlistsError)
    → HasCause table project error
    → HasNetlists table project
    → ⊥

-- a project is refused for one cause alone
abbrev pub RefusedForOne : Type 0
RefusedForOne =
    (table : Table) (project : Project) (one other : NetlistsError)
    → HasCause table project one
    → HasCause table project other
    → TellTheSame one other
