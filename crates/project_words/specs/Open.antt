-- The words of some kernels of a project, while those of others are not known yet.
use Rattle.std.specs.Prelude.{ℕ, ◌≡◌, ◌<◌, ◌≤◌, Bool, true, nat_lt, List, All, length, Option, Some, None, IsSome, slice_index, slice_index_or}
use Rattle.std.specs.Option.{option_map_or}
use Rattle.kernel_words.specs.Streams.{values_of, AreWords}
use Rattle.kernel_words.specs.declared.streams.Streams.{Streams}
use Rattle.manager_links.specs.declared.links.LinkEnds.{LinkEnds}
use Rattle.manager_links.specs.declared.project.Project.{Project}
use Rattle.project_streams.specs.Streams.{GivenProject, ProjectValues, nodes_at, run_of}
use Rattle.stream_equations.specs.Equations.{StreamEquations}

-- the words of a kernel are known
abbrev pub IsDone : List (Option Streams) → ℕ → Type 0
IsDone settled k = IsSome (slice_index_or settled k None)

-- the words that are known
abbrev pub settled_values : List (Option Streams) → ProjectValues
settled_values settled k = option_map_or values_of (slice_index_or settled k None) (λ n t. None)

-- the ticks of a kernel whose words are known
abbrev pub known_ticks : List (Option Streams) → ℕ → ℕ
known_ticks settled k =
    option_map_or (λ (streams : Streams). streams.ticks) (slice_index_or settled k None) 0

-- the words of the kernels that are linked to this one are known
abbrev pub AreFed : List LinkEnds → List (Option Streams) → ℕ → Type 0
AreFed links settled k =
    All (λ (link : LinkEnds). link.to.kernel ≡ k → IsDone settled link.from.kernel) links

-- the words of a kernel are known by its equations
pub record IsKnown (project : Project) (given : GivenProject) (settled : List (Option Streams))
    (k : ℕ) : Type 0
  where
    pub fed : AreFed project.joints.links settled k
    pub equations :
        StreamEquations (nodes_at project.kernels k)
        (run_of project given (settled_values settled) k) (settled_values settled k)
    pub ticks : known_ticks settled k ≡ given.ticks k
    pub words : AreWords (nodes_at project.kernels k) (settled_values settled k)

-- so are those of all kernels that are done
abbrev pub AreKnown : Project → GivenProject → List (Option Streams) → Type 0
AreKnown project given settled =
    (k : ℕ) → k < length project.kernels → IsDone settled k → IsKnown project given settled k

-- the kernel has a lower rank than another one, or there is no other one
abbrev pub is_lower : List ℕ → ℕ → Option ℕ → Bool
is_lower ranks k None = true
is_lower ranks k (Some other) = nat_lt (slice_index ranks k) (slice_index ranks other)

-- of the first so many kernels, the words of this one aren't known, and no other such kernel has a
-- lower rank
pub record IsLeastOpen (ranks : List ℕ) (settled : List (Option Streams)) (count next : ℕ) : Type 0
  where
    pub within : next < count
    pub unknown : slice_index_or settled next None ≡ None
    pub least :
        (k : ℕ)
        → k < count
        → slice_index_or settled k None ≡ None
        → slice_index ranks next ≤ slice_index ranks k

-- the words of the first so many kernels are known, or this one of them is next
abbrev pub IsNextOf : List ℕ → List (Option Streams) → ℕ → Option ℕ → Type 0
IsNextOf ranks settled count None = (k : ℕ) → k < count → IsDone settled k
IsNextOf ranks settled count (Some next) = IsLeastOpen ranks settled count next

-- of all kernels
abbrev pub IsNext : List ℕ → List (Option Streams) → Option ℕ → Type 0
IsNext ranks settled next = IsNextOf ranks settled (length settled) next
