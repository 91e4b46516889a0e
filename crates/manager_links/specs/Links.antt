-- The links of a project, and when its kernels start.
use Rattle.std.specs.Prelude.{◌≡◌, ℕ, ◌<◌, ◌≤◌, ℤ, List, length, map, take, Some, All, slice_get, slice_index}
use Rattle.std.specs.Option.{option_map}
use Rattle.kernel_meaning.specs.declared.plan.Join.{Join}
use Rattle.stream_graph.specs.declared.kernel.Kernel.{Kernel}
use Rattle.manager_links.specs.declared.error.LinkError.{LinkError}
use Rattle.manager_links.specs.declared.error.LinkError.TheVariants as L
use Rattle.manager_links.specs.declared.links.Link.{Link}
use Rattle.manager_links.specs.declared.links.LinkEnds.{LinkEnds}
use Rattle.manager_links.specs.declared.links.Links.{Links}
use Rattle.manager_links.specs.declared.project.Project.{Project}
use Rattle.manager_links.specs.Joined.{AreJoined, ends_of_link}
use Rattle.manager_links.specs.Starts.{AreStarts, depth_of, most_words}

-- The links of kernels with these joins, at the times of their nodes: where each goes from and to,
-- which joins they are, the starts of the kernels, and how deep each link is.
pub record AreLinks (kernels : List Kernel) (joins : List Join) (links : List LinkEnds)
    (times : List (List ℤ)) (made : Links) : Type 0
  where
    pub ends : map ends_of_link made.links ≡ links
    pub joined : AreJoined kernels joins (map ends_of_link made.links)
    pub starts : AreStarts times (length kernels) (map ends_of_link made.links) made.starts
    pub deep :
        All
        (λ link. link.depth
        ≡ depth_of kernels times (slice_index made.starts) (ends_of_link link))
        made.links

-- those of a project, in its order
abbrev pub AreLinksOf : Project → List (List ℤ) → Links → Type 0
AreLinksOf project times made =
    AreLinks project.kernels project.plan.joins project.joints.links times made

-- a link within the limit
abbrev pub IsWithinLimit : Link → Type 0
IsWithinLimit link = link.depth ≤ most_words

-- the link of this number is the first that is too deep, and it has this depth
pub record IsFirstOver (links : List Link) (number words : ℕ) : Type 0 where
  pub here : option_map (λ (link : Link). link.depth) (slice_get links number) ≡ Some words
  pub over : most_words < words
  pub before : All IsWithinLimit (take number links)

-- of the links that a project has at these times the one of this number is the first too deep one
pub record IsFirstTooDeep (project : Project) (times : List (List ℤ)) (number words : ℕ) : Type 0
  where
    pub made : Links
    pub are : AreLinksOf project times made
    pub first : IsFirstOver made.links number words

-- memory was short, or a link is too deep
abbrev pub SaysTooDeep : List Link → LinkError → Type 0
SaysTooDeep links (L.LinkTooDeep number words) = IsFirstOver links number words
SaysTooDeep links error = error ≡ L.NoMemory

abbrev pub MayBeTooDeep : Project → List (List ℤ) → LinkError → Type 0
MayBeTooDeep project times (L.LinkTooDeep number words) = IsFirstTooDeep project times number words
MayBeTooDeep project times error = error ≡ L.NoMemory
