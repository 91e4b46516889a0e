-- Links without controls between kernels of equally many ticks.
use Rattle.std.proofs.Common.{◌≡◌, ℕ, ◌+◌, ◌-◌, ◌≤◌, Bool, true, false, ◌||◌, List, [], ◌∷◌, map, refl, ◌∙◌}
use Rattle.std.specs.Prelude.{All, filter, slice_index, ℤ, if◌then◌else◌}
use Rattle.std.specs.List.{AllZip}
use Rattle.std.proofs.lemmas.List.Elements.{All-nil, All-cons, All-head, All-tail}
use Rattle.std.proofs.lemmas.Option.{slice_get_within}
use Rattle.kernel_meaning.specs.declared.plan.Join.{Join}
use Rattle.manager_links.specs.declared.links.Link.{Link}
use Rattle.manager_links.specs.declared.links.LinkEnds.{LinkEnds}
use Rattle.manager_links.specs.declared.links.Links.{Links}
use Rattle.manager_links.specs.declared.project.Project.{Project}
use Rattle.manager_links.specs.Joined.{IsLinkOf, is_link, ends_of_link}
use Rattle.manager_links.specs.Links.{AreLinksOf}
use Rattle.stream_graph.specs.Kinds.{is_input, is_output}
use Rattle.manager_links.specs.Ports.{is_controlled}
use Rattle.manager_links.specs.Starts.{first_edge, depth_of, controlled_depth}
use Rattle.project_streams.specs.Balanced.{IsEvenLink}
use Rattle.project_streams.specs.Ideal.{port_in}
use Rattle.project_streams.specs.Laws.{HasNoControl, HaveEqualTicks}
use Rattle.project_streams.specs.Streams.{GivenProject, ProjectValues}
use Rattle.project_streams.proofs.Even.{even}
use Rattle.project_streams.proofs.Ports.{node_is, always, or_left, or_right}

-- the depth of a link without controls
plain_depth : (a b : Bool) (depth : ℕ) → a ≡ false → b ≡ false
    → (if a || b then controlled_depth else depth) ≡ depth
plain_depth true b depth p q = absurd (cc)
plain_depth false true depth p q = absurd (cc)
plain_depth false false depth p q = refl

module _ (project : Project) (times : List (List ℤ)) (made : Links) (given : GivenProject)
    (values : ProjectValues) (equal : HaveEqualTicks project given) where
  one : (join : Join) (link : Link) → IsLinkOf project.kernels join (ends_of_link link)
      → HasNoControl project link
      → first_edge times (slice_index made.starts) link.from + 1
      ≤ first_edge times (slice_index made.starts) link.to
      → link.depth ≡ depth_of project.kernels times (slice_index made.starts) (ends_of_link link)
      → IsEvenLink project times made given values link
  one join link joined free behind deep =
      let from = node_is project.kernels is_output join.right link.from joined.from in
      let to = node_is project.kernels is_input join.left link.to joined.to in
      even
      (port_in project times (slice_index made.starts) given values link.from)
      (port_in project times (slice_index made.starts) given values link.to) link.depth
      (always project.kernels is_output link.from or_right from free.from (values link.from.kernel))
      (always project.kernels is_input link.to or_left to free.to (values link.to.kernel))
      (equal link.from.kernel link.to.kernel
      (slice_get_within project.kernels link.from.kernel from.kernel from.at)
      (slice_get_within project.kernels link.to.kernel to.kernel to.at))
      behind
      (deep ∙ plain_depth (is_controlled project.kernels link.from)
      (is_controlled project.kernels link.to)
      (first_edge times (slice_index made.starts) link.to
      - first_edge times (slice_index made.starts) link.from + 1) free.from free.to)

  each : (joins : List Join) (links : List Link)
      → AllZip (IsLinkOf project.kernels) joins (map ends_of_link links)
      → All (HasNoControl project) links
      → All (λ (link : LinkEnds). first_edge times (slice_index made.starts) link.from + 1
      ≤ first_edge times (slice_index made.starts) link.to) (map ends_of_link links)
      → All (λ (link : Link). link.depth
      ≡ depth_of project.kernels times (slice_index made.starts) (ends_of_link link)) links
      → All (IsEvenLink project times made given values) links
  each joins [] joined free behind deep = All-nil (IsEvenLink project times made given values)
  each [] (link ∷ links) joined free behind deep = absurd joined
  each (join ∷ joins) (link ∷ links) joined free behind deep =
      All-cons (IsEvenLink project times made given values) link links
      (one join link joined.0 (All-head (HasNoControl project) link links free)
      (All-head (λ (link : LinkEnds). first_edge times (slice_index made.starts) link.from + 1
      ≤ first_edge times (slice_index made.starts) link.to) (ends_of_link link) (map ends_of_link links) behind)
      (All-head (λ (link : Link). link.depth
      ≡ depth_of project.kernels times (slice_index made.starts) (ends_of_link link)) link links deep))
      (each joins links joined.1 (All-tail (HasNoControl project) link links free)
      (All-tail (λ (link : LinkEnds). first_edge times (slice_index made.starts) link.from + 1
      ≤ first_edge times (slice_index made.starts) link.to) (ends_of_link link) (map ends_of_link links) behind)
      (All-tail (λ (link : Link). link.depth
      ≡ depth_of project.kernels times (slice_index made.starts) (ends_of_link link)) link links deep))

pub balanced : (project : Project) (times : List (List ℤ)) (made : Links) (given : GivenProject)
    (values : ProjectValues) → AreLinksOf project times made
    → All (HasNoControl project) made.links → HaveEqualTicks project given
    → All (IsEvenLink project times made given values) made.links
balanced project times made given values are free equal =
    each project times made given values equal (filter is_link project.plan.joins) made.links
    are.joined free are.starts.legal.behind are.deep
