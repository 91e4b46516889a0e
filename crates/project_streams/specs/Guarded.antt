-- Which runs of a project are guarded, and where one first isn't.
use Rattle.std.specs.Prelude.{◌≡◌, ◌⊎◌, ℕ, ◌<◌, pos, length, Option, Some, None}
use Rattle.stream_graph.specs.LookUps.{control_of}
use Rattle.manager_links.specs.declared.project.Project.{Project}
use Rattle.project_streams.specs.Streams.{GivenProject, ProjectValues, nodes_at}

-- a tick of a node of a kernel
pub record Place : Type 0 where
  pub kernel : ℕ
  pub node : ℕ
  pub tick : ℕ

-- by kernel, then tick, then node
abbrev pub IsBefore : Place → Place → Type 0
IsBefore one other =
    (one.kernel < other.kernel)
    ⊎ ((one.kernel ≡ other.kernel)
    × ((one.tick < other.tick) ⊎ ((one.tick ≡ other.tick) × (one.node < other.node))))

-- the node has a control or a store there, and it is undefined in that tick of the run
pub record IsUnguarded (project : Project) (given : GivenProject) (values : ProjectValues)
    (place : Place) : Type 0
  where
    pub kernel : place.kernel < length project.kernels
    pub node : place.node < length (nodes_at project.kernels place.kernel)
    pub tick : place.tick < given.ticks place.kernel
    pub control : ℕ
    pub is : control_of (nodes_at project.kernels place.kernel) place.node ≡ Some control
    pub undefined : values place.kernel control (pos place.tick) ≡ None

-- no control and no store is undefined in any tick of a kernel
abbrev pub IsGuarded : Project → GivenProject → ProjectValues → Type 0
IsGuarded project given values = (place : Place) → IsUnguarded project given values place → ⊥

-- the first place at which one is
pub record IsFirstUnguarded (project : Project) (given : GivenProject) (values : ProjectValues)
    (place : Place) : Type 0
  where
    pub here : IsUnguarded project given values place
    pub before : (other : Place) → IsBefore other place → IsUnguarded project given values other → ⊥

-- the run is guarded exactly where there is no such place, and else this is the first one
abbrev pub IsGuardedBut : Project → GivenProject → ProjectValues → Option Place → Type 0
IsGuardedBut project given values None = IsGuarded project given values
IsGuardedBut project given values (Some place) = IsFirstUnguarded project given values place
