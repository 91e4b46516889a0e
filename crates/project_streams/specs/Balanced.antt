-- Which runs of a project are balanced, and where one first isn't.
use Rattle.std.specs.Prelude.{◌≡◌, ℕ, ℤ, List, All, Option, Some, None, slice_get, slice_index, take}
use Rattle.manager_links.specs.declared.links.Link.{Link}
use Rattle.manager_links.specs.declared.links.Links.{Links}
use Rattle.manager_links.specs.declared.project.Project.{Project}
use Rattle.project_streams.specs.declared.side.Side.{Side}
use Rattle.project_streams.specs.Ideal.{IsEven, IsFirstFault, port_in}
use Rattle.project_streams.specs.Streams.{GivenProject, ProjectValues}

-- a link between kernels is dry at no tick of its consumer and full at none of its producer, in the
-- ideal run at these times and with these links and starts
abbrev pub IsEvenLink :
    Project → List (List ℤ) → Links → GivenProject → ProjectValues → Link → Type 0
IsEvenLink project times made given values link =
    IsEven (port_in project times (slice_index made.starts) given values link.from)
    (port_in project times (slice_index made.starts) given values link.to) link.depth

-- no link is dry or full
abbrev pub IsBalanced : Project → List (List ℤ) → Links → GivenProject → ProjectValues → Type 0
IsBalanced project times made given values =
    All (IsEvenLink project times made given values) made.links

-- a link that is dry at a tick of its consumer, or full at one of its producer
pub record Fault : Type 0 where
  pub link : ℕ
  pub side : Side
  pub tick : ℕ

-- the first one, by link, then edge, then dry before full
pub record IsFirstUnbalanced (project : Project) (times : List (List ℤ)) (made : Links)
    (given : GivenProject) (values : ProjectValues) (fault : Fault) : Type 0
  where
    pub link : Link
    pub numbered : slice_get made.links fault.link ≡ Some link
    pub even : All (IsEvenLink project times made given values) (take fault.link made.links)
    pub first :
        IsFirstFault (port_in project times (slice_index made.starts) given values link.from)
        (port_in project times (slice_index made.starts) given values link.to) link.depth fault.side
        fault.tick

-- the run is balanced exactly where there is none, and else this is the first one
abbrev pub IsBalancedBut :
    Project → List (List ℤ) → Links → GivenProject → ProjectValues → Option Fault → Type 0
IsBalancedBut project times made given values None = IsBalanced project times made given values
IsBalancedBut project times made given values (Some fault) =
    IsFirstUnbalanced project times made given values fault
