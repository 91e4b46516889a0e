-- The ports of the links and streams of a project.
use Rattle.std.proofs.Common.{◌≡◌, ℕ, zero, suc, ◌+◌, ◌<◌, Bool, true, List, [], ◌∷◌, ◌++◌, map, length, get_or, Option, Some, None, refl, sym, ap, ◌∙◌, subst, arith, length-append}
use Rattle.std.specs.Prelude.{All, IsSomeAnd, slice_get, slice_index}
use Rattle.std.specs.Option.{option_and_then, option_map, option_map_or}
use Rattle.std.proofs.lemmas.List.{get_or_append_left, get_or-append-add, get_or-map, length-map}
use Rattle.std.proofs.lemmas.Option.{slice_get_within, slice_get_read, get_or_from_slice_get}
use Rattle.stream_graph.specs.declared.kernel.Kernel.{Kernel}
use Rattle.stream_graph.specs.declared.node.Kind.{Kind}
use Rattle.stream_graph.specs.declared.node.Node.{Node}
use Rattle.stream_graph.specs.Kinds.{is_input, is_output}
use Rattle.stream_graph.specs.LookUps.{node_at, no_node}
use Rattle.manager_links.specs.declared.hosts.HostPort.{HostPort}
use Rattle.manager_links.specs.declared.links.LinkEnds.{LinkEnds}
use Rattle.manager_links.specs.declared.links.PortAt.{PortAt}
use Rattle.manager_links.specs.declared.project.Project.{Project}
use Rattle.manager_links.specs.Ports.{IsPort, type_of}
use Rattle.project_streams.specs.Streams.{nodes_at}

-- what holds of all holds at each place
pub all_at : {A : Type 0} (P : A → Type 0) (xs : List A) (k : ℕ) (x : A) → All P xs → slice_get xs k ≡ Some x → P x
all_at P xs k x all e = subst P (get_or_from_slice_get xs k x x e) (all k x (slice_get_within xs k x e))

-- the node of a port
pub record IsThere (kernels : List Kernel) (port : PortAt) : Type 0 where
  pub kernel : port.kernel < length kernels
  pub node : port.node < length (nodes_at kernels port.kernel)
  pub typed : type_of kernels port ≡ Some (node_at (nodes_at kernels port.kernel) port.node).view.t

pub there : (kernels : List Kernel) (is_kind : Kind → Bool) (port : PortAt) → IsPort kernels is_kind port → IsThere kernels port
there kernels is_kind port h = by_kernel (slice_get kernels port.kernel) refl h
  where
    by_node : (kernel : Kernel) → slice_get kernels port.kernel ≡ Some kernel → (o : Option Node)
        → slice_get kernel.nodes port.node ≡ o → IsSomeAnd o (λ (node : Node). is_kind node.view.kind ≡ true)
        → IsThere kernels port
    by_node kernel at None e h = absurd h
    by_node kernel at (Some node) e h =
        let nodes : nodes_at kernels port.kernel ≡ kernel.nodes =
        ap (λ k. option_map_or (λ (kernel : Kernel). kernel.nodes) k []) at in
        record {
          kernel = slice_get_within kernels port.kernel kernel at;
          node = subst (λ (ns : List Node). port.node < length ns) (sym nodes) (slice_get_within kernel.nodes port.node node e);
          typed =
              ap (λ k. option_map (λ (node : Node). node.view.t) (option_and_then (λ (kernel : Kernel). slice_get kernel.nodes port.node) k)) at
              ∙ ap (λ n. option_map (λ (node : Node). node.view.t) n) e
              ∙ ap (λ (n : Node). Some n.view.t) (sym (get_or_from_slice_get kernel.nodes port.node node no_node e))
              ∙ ap (λ (ns : List Node). Some (node_at ns port.node).view.t) (sym nodes);
        }

    by_kernel : (o : Option Kernel) → slice_get kernels port.kernel ≡ o
        → IsSomeAnd (option_and_then (λ (kernel : Kernel). slice_get kernel.nodes port.node) o) (λ (node : Node). is_kind node.view.kind ≡ true)
        → IsThere kernels port
    by_kernel None at h = absurd h
    by_kernel (Some kernel) at h = by_node kernel at (slice_get kernel.nodes port.node) refl h

-- what holds of the ports of things that stand before or behind other ports
left_ports : {A : Type 0} (P : PortAt → Type 0) (f : A → PortAt) (xs : List A) (ys : List PortAt)
    → All P (map f xs ++ ys) → All (λ x. P (f x)) xs
left_ports P f xs ys all k d l =
    let m = length-map xs f in
    let a = length-append (map f xs) ys in
    subst P (get_or_append_left (map f xs) ys (f d) k (omega (arith, l, m)) ∙ get_or-map f xs k d (f d) l)
    (all k (f d) (omega (arith, l, m, a)))

right_ports : {A : Type 0} (P : PortAt → Type 0) (f : A → PortAt) (xs : List A) (ys : List PortAt)
    → All P (ys ++ map f xs) → All (λ x. P (f x)) xs
right_ports P f xs ys all k d l =
    let m = length-map xs f in
    let a = length-append ys (map f xs) in
    subst P (get_or-append-add ys (map f xs) k (f d) ∙ get_or-map f xs k d (f d) l)
    (all (length ys + k) (f d) (omega (arith, l, m, a)))

-- ---- the links of a project

-- a link goes between ports of one type, and to a kernel of a higher rank
pub record IsLink (project : Project) (link : LinkEnds) : Type 0 where
  pub from : IsThere project.kernels link.from
  pub to : IsThere project.kernels link.to
  pub types : type_of project.kernels link.from ≡ type_of project.kernels link.to
  pub rising :
      slice_index project.joints.ranks link.from.kernel
      < slice_index project.joints.ranks link.to.kernel

module _ (project : Project) where
  abbrev kernels : List Kernel
  kernels = project.kernels

  abbrev links : List LinkEnds
  links = project.joints.links

  outputs : All (λ (link : LinkEnds). IsPort kernels is_output link.from) links
  outputs =
      left_ports (IsPort kernels is_output) (λ (link : LinkEnds). link.from) links
      (map (λ (host : HostPort). host.port) project.joints.outputs) project.whole.gives.each

  inputs : All (λ (link : LinkEnds). IsPort kernels is_input link.to) links
  inputs =
      left_ports (IsPort kernels is_input) (λ (link : LinkEnds). link.to) links
      (map (λ (host : HostPort). host.port) project.joints.inputs) project.whole.feeds.each

  pub all_links : All (IsLink project) links
  all_links i d h = record {
    from = there kernels is_output (get_or links i d).from (outputs i d h);
    to = there kernels is_input (get_or links i d).to (inputs i d h);
    types = project.whole.types i d h;
    rising = project.whole.ordered.rising i d h;
  }

-- those that were read
pub all_read : (project : Project) (read : List LinkEnds) → read ≡ project.joints.links
    → All (IsLink project) read
all_read project read same = subst (All (IsLink project)) (sym same) (all_links project)

-- what stands past the last link
abbrev pub no_ends : LinkEnds
no_ends = record { from = record { kernel = 0; node = 0 }; to = record { kernel = 0; node = 0 } }

-- the port of a stream from the CPU
pub host_there : (project : Project)
    → All (λ (host : HostPort). IsThere project.kernels host.port) project.joints.inputs
host_there project i d h =
    there project.kernels is_input (get_or project.joints.inputs i d).port
    (right_ports (IsPort project.kernels is_input) (λ (host : HostPort). host.port)
    project.joints.inputs (map (λ (link : LinkEnds). link.to) project.joints.links)
    project.whole.feeds.each i d h)

-- ---- the nodes of a kernel

-- those of a kernel that was read at its number
pub nodes_read : (kernels xs : List Kernel) (k : ℕ) (kernel : Kernel) → xs ≡ kernels → k < length kernels
    → kernel ≡ get_or xs k kernel → nodes_at kernels k ≡ kernel.nodes
nodes_read kernels xs k kernel same h is =
    ap (λ o. option_map_or (λ (kernel : Kernel). kernel.nodes) o [])
    (slice_get_read kernels (length kernels) k kernel refl h (is ∙ ap (λ ys. get_or ys k kernel) same))

-- there is none past the last kernel
pub kernel_within : (kernels : List Kernel) (k n : ℕ) → n < length (nodes_at kernels k) → k < length kernels
kernel_within [] k n h = absurd (omega (arith, h))
kernel_within (kernel ∷ kernels) zero n h = omega arith
kernel_within (kernel ∷ kernels) (suc k) n h = let r = kernel_within kernels k n h in omega (arith, r)
