-- The links of a project, once its kernels have starts.
use Rattle.std.proofs.Common.{◌≡◌, ℕ, ◌^◌, ◌<◌, true, List, [], ◌∷◌, length, map, get_or, refl, sym, ap, subst, arith}
use Rattle.std.specs.Prelude.{ℤ, pos, ◌≤ℤ◌, Option, Some, None, All, slice_get, slice_index, IsSome, IsSomeAnd}
use Rattle.std.specs.Option.{option_and_then}
use Rattle.std.proofs.lemmas.List.Elements.{All-map}
use Rattle.std.proofs.lemmas.Option.{slice_get_within, get_or_from_slice_get}
use Rattle.kernel_meaning.specs.declared.plan.Join.{Join}
use Rattle.kernel_meaning.specs.declared.plan.Plan.{Plan}
use Rattle.stream_graph.specs.declared.kernel.Kernel.{Kernel}
use Rattle.stream_graph.specs.declared.node.Kind.{Kind}
use Rattle.stream_graph.specs.declared.node.Node.{Node}
use Rattle.stream_graph.specs.Kinds.{is_input, is_output}
use Rattle.manager_links.specs.declared.joints.Joints.{Joints}
use Rattle.manager_links.specs.declared.links.Link.{Link}
use Rattle.manager_links.specs.declared.links.LinkEnds.{LinkEnds}
use Rattle.manager_links.specs.declared.links.PortAt.{PortAt}
use Rattle.manager_links.specs.Joined.{AreJoined, ends_of_link}
use Rattle.manager_links.specs.Links.{AreLinks}
use Rattle.manager_links.specs.Ports.{IsPort, node_of}
use Rattle.manager_links.specs.Projects.{IsProject}
use Rattle.manager_links.specs.Starts.{IsTimed, AreTimes, AreStarts, own_times, depth_of}
use Rattle.manager_links.specs.Waiting.{IsTimedPort, AreKnownLinks, AreRising, deep_link}
use Rattle.manager_links.specs.Loops.{AreOrdered}
use Rattle.manager_links.proofs.Pieces.{All-front, zip_get}
use Rattle.cycle_find.specs.Constraints.{numbers_of}

-- ---- ports

-- the node of a port that is there
pub port_some : (kernels : List Kernel) (is_kind : Kind → _) (port : PortAt)
    → IsPort kernels is_kind port → IsSome (node_of kernels port)
port_some kernels is_kind port is = by_node (node_of kernels port) is
  where
    by_node : (o : Option Node) → IsSomeAnd o (λ (node : Node). is_kind node.view.kind ≡ true)
        → IsSome o
    by_node None is = absurd is
    by_node (Some node) is = refl

-- a port of a kernel has a time
pub timed_port : (kernels : List Kernel) (times : List (List ℤ)) (port : PortAt)
    → AreTimes kernels times → IsSome (node_of kernels port) → IsTimedPort times port
timed_port kernels times port all some = by_kernel (slice_get kernels port.kernel) refl some
  where
    by_node : (kernel : Kernel) (own : List ℤ) → slice_get times port.kernel ≡ Some own
        → IsTimed kernel own → (o : Option Node) → slice_get kernel.nodes port.node ≡ o → IsSome o
        → IsTimedPort times port
    by_node kernel own at timed None here is = absurd (cc)
    by_node kernel own at timed (Some node) here is =
        let lt = slice_get_within kernel.nodes port.node node here in
        let same : own ≡ own_times times port.kernel =
        sym (get_or_from_slice_get times port.kernel own [] at) in
        let size = timed.each in
        record {
          kernel = slice_get_within times port.kernel own at;
          node = subst (λ xs. port.node < length xs) same (omega arith);
          begin = subst (λ xs. pos 0 ≤ℤ numbers_of xs port.node) same (timed.begin port.node lt);
          most = subst (λ xs. numbers_of xs port.node ≤ℤ pos (2 ^ 46)) same (timed.most port.node lt);
        }

    by_kernel : (o : Option Kernel) → slice_get kernels port.kernel ≡ o
        → IsSome (option_and_then (λ (kernel : Kernel). slice_get kernel.nodes port.node) o)
        → IsTimedPort times port
    by_kernel None here is = absurd (cc)
    by_kernel (Some kernel) here is =
        let own = zip_get IsTimed kernels times port.kernel kernel all here in
        by_node kernel own.0 own.1 own.2 (slice_get kernel.nodes port.node) refl is

-- the links of a project are known, where there are times
pub known_links : (plan : Plan) (kernels : List Kernel) (joints : Joints) (times : List (List ℤ))
    → IsProject plan kernels joints → AreTimes kernels times
    → AreKnownLinks kernels times joints.links
known_links plan kernels joints times is all = record {
  from = from;
  to = to;
  timed = λ j d lt. record {
    from = timed_port kernels times (get_or joints.links j d).from all (from j d lt);
    to = timed_port kernels times (get_or joints.links j d).to all (to j d lt);
  };
}
  where
    from : All (λ (link : LinkEnds). IsSome (node_of kernels link.from)) joints.links
    from = λ j d lt. port_some kernels is_output (get_or joints.links j d).from
        (All-front (IsPort kernels is_output) (λ (link : LinkEnds). link.from) joints.links _ is.gives.each j d lt)

    to : All (λ (link : LinkEnds). IsSome (node_of kernels link.to)) joints.links
    to = λ j d lt. port_some kernels is_input (get_or joints.links j d).to
        (All-front (IsPort kernels is_input) (λ (link : LinkEnds). link.to) joints.links _ is.feeds.each j d lt)

pub rising_links : (kernels : ℕ) (joints : Joints)
    → AreOrdered kernels joints.links joints.order joints.ranks → AreRising joints.links
rising_links kernels joints ordered = record {
  rank = slice_index joints.ranks;
  rises = ordered.rising;
}

-- ---- links

same_ends : (kernels : List Kernel) (times : List (List ℤ)) (starts : List ℕ) (links : List LinkEnds)
    → map ends_of_link (map (deep_link kernels times starts) links) ≡ links
same_ends kernels times starts [] = refl
same_ends kernels times starts (link ∷ links) =
    ap (λ rest. link ∷ rest) (same_ends kernels times starts links)

pub are_links : (kernels : List Kernel) (joins : List Join) (times : List (List ℤ))
    (links : List LinkEnds) (starts : List ℕ) → AreJoined kernels joins links
    → AreStarts times (length kernels) links starts
    → AreLinks kernels joins links times
    (record { starts = starts; links = map (deep_link kernels times starts) links })
are_links kernels joins times links starts joined started = record {
  ends = same_ends kernels times starts links;
  joined = subst (AreJoined kernels joins) (sym (same_ends kernels times starts links)) joined;
  starts = subst (λ xs. AreStarts times (length kernels) xs starts) (sym (same_ends kernels times starts links)) started;
  deep = All-map (λ (link : Link). link.depth ≡ depth_of kernels times (slice_index starts) (ends_of_link link))
      (deep_link kernels times starts) links (λ j d lt. refl);
}
