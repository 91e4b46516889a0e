-- The graph of kernels that links make.
use Rattle.std.specs.Prelude.{◌≡◌, ◌==◌, ℕ, ◌<◌, List, map, filter, All}
use Rattle.stream_graph.specs.declared.kernel.Kernel.{Kernel}
use Rattle.manager_links.specs.declared.error.LinkError.{LinkError}
use Rattle.manager_links.specs.declared.error.LinkError.TheVariants as L
use Rattle.manager_links.specs.declared.links.LinkEnds.{LinkEnds}
use Rattle.manager_links.specs.Loops.{IsLoopBy}
use Rattle.manager_links.specs.Terminals.{kernel_name}
use Rattle.std.specs.List.{Any}

-- links go between so many kernels
abbrev pub GoWithin : ℕ → List LinkEnds → Type 0
GoWithin count links =
    All
    (λ (link : LinkEnds). (link.from.kernel < count) × (link.to.kernel < count))
    links

-- the kernels from which links go to this one, in the order of the links
abbrev pub sources_of : ℕ → List LinkEnds → List ℕ
sources_of kernel links =
    map (λ (link : LinkEnds). link.from.kernel)
    (filter (λ (link : LinkEnds). link.to.kernel == kernel) links)

-- a link goes from one kernel to another
abbrev pub GoesFrom : List LinkEnds → ℕ → ℕ → Type 0
GoesFrom links from to =
    Any (λ (link : LinkEnds). (link.from.kernel ≡ from) × (link.to.kernel ≡ to)) links

-- the kernels of a loop of these links
pub record IsLoopSaid (kernels : List Kernel) (links : List LinkEnds) (names : List (List ℕ))
    : Type 0
  where
    pub walk : List ℕ
    pub loop : IsLoopBy (GoesFrom links) walk
    pub said : names ≡ map (kernel_name kernels) walk

abbrev pub SaysLoop : List Kernel → List LinkEnds → LinkError → Type 0
SaysLoop kernels links (L.KernelLoop names) = IsLoopSaid kernels links names
SaysLoop kernels links error = error ≡ L.NoMemory
