-- The streams of the host and the links of a project, for their FIFOs.
use Rattle.std.proofs.Common.{◌≡◌, ℕ, ◌+◌, ◌-◌, ◌<◌, ◌≤◌, Bool, true, false, ◌||◌, cond, List, [], ◌∷◌, ◌++◌, map, length, get_or, refl, sym, ap, ◌∙◌, subst, arith, lit≤}
use Rattle.std.specs.Prelude.{ℤ, Option, Some, None, All, IsSome, slice_get, slice_index}
use Rattle.std.specs.Option.{option_map, option_map_or, option_and_then}
use Rattle.std.proofs.lemmas.List.{length-map, get_or-map}
use Rattle.std.proofs.lemmas.Option.{get_or_from_slice_get, same_Some}
use Rattle.fix_arith.specs.Types.{width_of}
use Rattle.stream_graph.specs.declared.kernel.Kernel.{Kernel}
use Rattle.stream_graph.specs.declared.node.Node.{Node}
use Rattle.stream_graph.specs.Kinds.{is_input, is_output}
use Rattle.stream_graph.specs.LookUps.{width_at, no_node}
use Rattle.manager_links.specs.declared.hosts.HostPort.{HostPort}
use Rattle.manager_links.specs.declared.links.Link.{Link}
use Rattle.manager_links.specs.declared.links.LinkEnds.{LinkEnds}
use Rattle.manager_links.specs.declared.links.Links.{Links}
use Rattle.manager_links.specs.declared.links.PortAt.{PortAt}
use Rattle.manager_links.specs.declared.project.Project.{Project}
use Rattle.manager_links.specs.Hosts.{HasType}
use Rattle.manager_links.specs.Joined.{ends_of_link}
use Rattle.manager_links.specs.Links.{AreLinksOf}
use Rattle.manager_links.specs.Ports.{IsPort, is_controlled, node_of, type_of}
use Rattle.manager_links.specs.Starts.{Starts, first_edge, depth_of, controlled_depth}
use Rattle.manager_links.proofs.Pieces.{All-front}
use Rattle.manager_links.proofs.Started.{port_some}
use Rattle.project_streams.specs.Streams.{nodes_at}
use Rattle.project_rtl.specs.Projects.{port_width}
use Rattle.project_design.specs.Building.{IsLinkedFrom, IsKnown}
use Rattle.project_design.proofs.Few.{IsPlaced, placed, is_known}

-- ---- streams of the host

-- the node of a stream's port is there
pub type_some : (kernels : List Kernel) (host : HostPort) → HasType kernels host → IsSome (node_of kernels host.port)
type_some kernels host is = by (node_of kernels host.port) is
  where
    by : (o : Option Node) → option_map (λ (node : Node). node.view.t) o ≡ Some host.t → IsSome o
    by None e = absurd (cc)
    by (Some node) e = refl

-- its words are as wide as those of the stream
pub host_width_is : (kernels : List Kernel) (host : HostPort) → HasType kernels host → port_width kernels host.port ≡ width_of host.t
host_width_is kernels host is =
    let at = placed kernels host.port (type_some kernels host is) in
    let nodes : nodes_at kernels host.port.kernel ≡ at.kernel.nodes = ap (λ o. option_map_or (λ (kernel : Kernel). kernel.nodes) o []) at.of in
    let read = get_or_from_slice_get at.kernel.nodes host.port.node at.node no_node at.at in
    let node : node_of kernels host.port ≡ Some at.node =
    ap (option_and_then (λ (kernel : Kernel). slice_get kernel.nodes host.port.node)) at.of ∙ at.at in
    let typed : at.node.view.t ≡ host.t = same_Some at.node.view.t host.t (sym (ap (option_map (λ (n : Node). n.view.t)) node) ∙ is) in
    ap (λ ns. width_at ns host.port.node) nodes ∙ ap (λ (n : Node). width_of n.view.t) read ∙ ap width_of typed

-- ---- links

abbrev pub no_link : Link
no_link = record { from = record { kernel = 0; node = 0 }; to = record { kernel = 0; node = 0 }; depth = 0 }

abbrev pub no_ends : LinkEnds
no_ends = record { from = record { kernel = 0; node = 0 }; to = record { kernel = 0; node = 0 } }

-- the outputs and inputs of the links of a project are there
pub from_some : (project : Project) → All (λ (link : LinkEnds). IsSome (node_of project.kernels link.from)) project.joints.links
from_some project = λ j d lt. port_some project.kernels is_output (get_or project.joints.links j d).from
    (All-front (IsPort project.kernels is_output) (λ (link : LinkEnds). link.from) project.joints.links _ project.whole.gives.each j d lt)

pub to_some : (project : Project) → All (λ (link : LinkEnds). IsSome (node_of project.kernels link.to)) project.joints.links
to_some project = λ j d lt. port_some project.kernels is_input (get_or project.joints.links j d).to
    (All-front (IsPort project.kernels is_input) (λ (link : LinkEnds). link.to) project.joints.links _ project.whole.feeds.each j d lt)

-- they are of kernels of the project
pub from_known : (project : Project) → All (λ (link : LinkEnds). IsKnown project link.from) project.joints.links
from_known project = λ j d lt. is_known project.kernels (get_or project.joints.links j d).from (from_some project j d lt)

pub to_known : (project : Project) → All (λ (link : LinkEnds). IsKnown project link.to) project.joints.links
to_known project = λ j d lt. is_known project.kernels (get_or project.joints.links j d).to (to_some project j d lt)

pub hosts_known : (project : Project) (hosts : List HostPort) → All (HasType project.kernels) hosts
    → All (λ (host : HostPort). IsKnown project host.port) hosts
hosts_known project hosts all = λ j d lt. is_known project.kernels (get_or hosts j d).port (type_some project.kernels (get_or hosts j d) (all j d lt))

-- of the links with their depths too
pub links_from : (project : Project) (made : Links) → map ends_of_link made.links ≡ project.joints.links
    → All (IsLinkedFrom project.kernels) made.links
links_from project made ends = λ k d lt. (
    let size = length-map made.links ends_of_link in
    let count = ap (λ (l : List LinkEnds). length l) ends in
    let none : LinkEnds = ends_of_link d in
    let here = from_some project k none (omega arith) in
    subst (λ (e : LinkEnds). IsSome (node_of project.kernels e.from))
    (ap (λ ls. get_or ls k none) (sym ends) ∙ get_or-map ends_of_link made.links k d none lt) here)

-- ---- depths

depth_least : (kernels : List Kernel) (times : List (List ℤ)) (start : Starts) (link : LinkEnds)
    → first_edge times start link.from + 1 ≤ first_edge times start link.to → 2 ≤ depth_of kernels times start link
depth_least kernels times start link behind = by (is_controlled kernels link.from || is_controlled kernels link.to)
  where
    by : (b : Bool) → 2 ≤ cond b controlled_depth (first_edge times start link.to - first_edge times start link.from + 1)
    by true = lit≤ tt
    by false = omega arith

pub links_deep : (project : Project) (times : List (List ℤ)) (made : Links) → AreLinksOf project times made
    → All (λ (link : Link). 2 ≤ link.depth) made.links
links_deep project times made are = λ k d lt. (
    let link = get_or made.links k d in
    let start = slice_index made.starts in
    let size = length-map made.links ends_of_link in
    let read = get_or-map ends_of_link made.links k d (ends_of_link d) lt in
    let behind = subst (λ (e : LinkEnds). first_edge times start e.from + 1 ≤ first_edge times start e.to) read
    (are.starts.legal.behind k (ends_of_link d) (omega arith)) in
    subst (λ n. 2 ≤ n) (sym (are.deep k d lt)) (depth_least project.kernels times start (ends_of_link link) behind))
