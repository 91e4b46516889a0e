-- Projects all of whose runs are balanced.
use Rattle.std.specs.Prelude.{◌≡◌, ℕ, ◌<◌, false, ℤ, List, length, All}
use Rattle.manager_links.specs.declared.links.Link.{Link}
use Rattle.manager_links.specs.declared.links.Links.{Links}
use Rattle.manager_links.specs.declared.project.Project.{Project}
use Rattle.manager_links.specs.Links.{AreLinksOf}
use Rattle.manager_links.specs.Ports.{is_controlled}
use Rattle.project_streams.specs.Balanced.{IsBalanced}
use Rattle.project_streams.specs.Streams.{GivenProject, ProjectValues}

-- a link has no control at its output and none at its input
pub record HasNoControl (project : Project) (link : Link) : Type 0 where
  pub from : is_controlled project.kernels link.from ≡ false
  pub to : is_controlled project.kernels link.to ≡ false

-- all kernels have equally many ticks
abbrev pub HaveEqualTicks : Project → GivenProject → Type 0
HaveEqualTicks project given =
    (j k : ℕ)
    → j < length project.kernels
    → k < length project.kernels
    → given.ticks j ≡ given.ticks k

-- a project of one kernel has no link, so each run of it is balanced
abbrev pub OneKernelIsBalanced : Type 0
OneKernelIsBalanced =
    (project : Project) (times : List (List ℤ)) (made : Links) (given : GivenProject)
    (values : ProjectValues)
    → AreLinksOf project times made
    → length project.kernels ≡ 1
    → IsBalanced project times made given values

-- where no link has a control, each run of a project in which the kernels have equally many ticks is
-- balanced, over the links, their depths and the starts that the project has at any times
abbrev pub EqualTicksAreBalanced : Type 0
EqualTicksAreBalanced =
    (project : Project) (times : List (List ℤ)) (made : Links) (given : GivenProject)
    (values : ProjectValues)
    → AreLinksOf project times made
    → All (HasNoControl project) made.links
    → HaveEqualTicks project given
    → IsBalanced project times made given values
