-- The ports of streams to the CPU and of links.
use Rattle.std.proofs.Common.{◌≡◌, ℕ, zero, suc, ◌*◌, ◌<◌, ◌≤◌, List, [], ◌++◌, length, map, get_or, Option, Some, None, refl, sym, subst, arith}
use Rattle.std.specs.Prelude.{All, ℤ, IsSome, slice_get}
use Rattle.std.specs.Option.{option_and_then, option_map_or}
use Rattle.std.proofs.lemmas.List.{get_or-map, length-map, drop_at}
use Rattle.std.proofs.lemmas.List.Elements.{All-drop}
use Rattle.stream_graph.specs.declared.kernel.Kernel.{Kernel}
use Rattle.stream_graph.specs.declared.node.Node.{Node}
use Rattle.stream_graph.specs.Kinds.{is_output}
use Rattle.manager_links.specs.declared.hosts.HostPort.{HostPort}
use Rattle.manager_links.specs.declared.links.Link.{Link}
use Rattle.manager_links.specs.declared.links.LinkEnds.{LinkEnds}
use Rattle.manager_links.specs.declared.links.Links.{Links}
use Rattle.manager_links.specs.declared.links.PortAt.{PortAt}
use Rattle.manager_links.specs.declared.project.Project.{Project}
use Rattle.manager_links.specs.Joined.{ends_of_link}
use Rattle.manager_links.specs.Links.{AreLinksOf}
use Rattle.manager_links.specs.Ports.{IsPort, node_of}
use Rattle.manager_links.proofs.Pieces.{some_within}
use Rattle.project_streams.specs.Streams.{nodes_at}
use Rattle.project_words.proofs.Ports.{IsLink, IsThere, there, all_links}

-- the node of a port, where there is one of its number
pub node_some : (kernels : List Kernel) (port : PortAt)
    → port.node < length (nodes_at kernels port.kernel) → IsSome (node_of kernels port)
node_some kernels port lt = by_kernel (slice_get kernels port.kernel) lt
  where
    by_node : (nodes : List Node) (o : Option Node) → slice_get nodes port.node ≡ o
        → port.node < length nodes → IsSome o
    by_node nodes None at lt = absurd (some_within nodes port.node lt at)
    by_node nodes (Some node) at lt = refl

    by_kernel : (o : Option Kernel)
        → port.node < length (option_map_or (λ (kernel : Kernel). kernel.nodes) o [])
        → IsSome (option_and_then (λ (kernel : Kernel). slice_get kernel.nodes port.node) o)
    by_kernel None lt = absurd (omega (arith, lt))
    by_kernel (Some kernel) lt = by_node kernel.nodes (slice_get kernel.nodes port.node) refl lt

-- a kernel with a node has no more ticks than words
pub few_ticks : (nodes ticks node most : ℕ) → node < nodes → nodes * ticks ≤ most → ticks ≤ most
few_ticks zero ticks node most lt few = absurd (omega (arith, lt))
few_ticks (suc nodes) ticks node most lt few = omega (arith, few)

-- ---- the ports of a project

of_map : {A B : Type 0} (P : B → Type 0) (f : A → B) (xs : List A) → All P (map f xs)
    → All (λ x. P (f x)) xs
of_map P f xs all i d lt =
    let size = length-map xs f in
    subst P (get_or-map f xs i d (f d) lt) (all i (f d) (omega (arith, lt, size)))

module _ (project : Project) where
  -- the outputs whose words go to links
  abbrev linked : List PortAt
  linked = map (λ (link : LinkEnds). link.from) project.joints.links

  -- and those whose words go to the CPU
  abbrev hosted : List PortAt
  hosted = map (λ (host : HostPort). host.port) project.joints.outputs

  -- the port of a stream to the CPU
  pub output_there : All (λ (host : HostPort). IsThere project.kernels host.port) project.joints.outputs
  output_there i d lt =
      there project.kernels is_output (get_or project.joints.outputs i d).port
      (of_map (IsPort project.kernels is_output) (λ (host : HostPort). host.port) project.joints.outputs
      (subst (All (IsPort project.kernels is_output)) (drop_at linked hosted (length linked) refl)
      (All-drop (IsPort project.kernels is_output) (length linked) (linked ++ hosted) project.whole.gives.each))
      i d lt)

-- the ends of the links that a project has
pub link_there : (project : Project) (times : List (List ℤ)) (made : Links)
    → AreLinksOf project times made → All (λ (link : Link). IsLink project (ends_of_link link)) made.links
link_there project times made are =
    of_map (IsLink project) ends_of_link made.links
    (subst (All (IsLink project)) (sym are.ends) (all_links project))
