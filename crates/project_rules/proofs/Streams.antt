-- The nets of the ports of kernels, and the widths of their words.
use Rattle.std.proofs.Common.{◌≡◌, ◌∙◌, ℕ, ◌+◌, ◌*◌, Bool, true, List, [], Some, length, refl, sym, ap, arith}
use Rattle.std.specs.Prelude.{slice_get, Option, None, IsSomeAnd}
use Rattle.std.specs.Option.{option_map, option_and_then, option_map_or}
use Rattle.std.proofs.lemmas.Option.{get_or_from_slice_get}
use Rattle.fix_arith.specs.Types.{width_of}
use Rattle.stream_graph.specs.declared.kernel.Kernel.{Kernel}
use Rattle.stream_graph.specs.declared.node.Kind.{Kind}
use Rattle.stream_graph.specs.declared.node.Node.{Node}
use Rattle.stream_graph.specs.Kinds.{is_input, is_output}
use Rattle.stream_graph.specs.LookUps.{width_at, no_node}
use Rattle.kernel_control.specs.Ports.{inputs_of, outputs_of}
use Rattle.manager_links.specs.declared.hosts.HostPort.{HostPort}
use Rattle.manager_links.specs.declared.links.PortAt.{PortAt}
use Rattle.manager_links.specs.declared.project.Project.{Project}
use Rattle.manager_links.specs.Hosts.{HasType}
use Rattle.manager_links.specs.Ports.{IsPort, type_of}
use Rattle.project_streams.specs.Streams.{nodes_at}
use Rattle.project_rtl.specs.Blocks.{streams_of, first_net, stream_net, place_of}
use Rattle.project_rtl.specs.Projects.{port_width}
use Rattle.project_rules.proofs.Places.{IsOfKind, place_in, input_place, output_place}

-- the node of a port of a kind
pub record HasNode (kernels : List Kernel) (is_kind : Kind → Bool) (port : PortAt) : Type 0 where
  pub kernel : Kernel
  pub known : slice_get kernels port.kernel ≡ Some kernel
  pub of : IsOfKind is_kind kernel.nodes port.node

pub has_node : (kernels : List Kernel) (is_kind : Kind → Bool) (port : PortAt) → IsPort kernels is_kind port → HasNode kernels is_kind port
has_node kernels is_kind port h = by_kernel (slice_get kernels port.kernel) refl h
  where
    by_node : (kernel : Kernel) → slice_get kernels port.kernel ≡ Some kernel → (n : Option Node) → slice_get kernel.nodes port.node ≡ n
        → IsSomeAnd n (λ (node : Node). is_kind node.view.kind ≡ true) → HasNode kernels is_kind port
    by_node kernel e None f k = absurd k
    by_node kernel e (Some node) f k = record { kernel = kernel; known = e; of = record { node = node; is = f; kind = k } }

    by_kernel : (o : Option Kernel) → slice_get kernels port.kernel ≡ o
        → IsSomeAnd (option_and_then (λ (kernel : Kernel). slice_get kernel.nodes port.node) o) (λ (node : Node). is_kind node.view.kind ≡ true)
        → HasNode kernels is_kind port
    by_kernel None e k = absurd k
    by_kernel (Some kernel) e k = by_node kernel e (slice_get kernel.nodes port.node) refl k

-- the nodes of a kernel that there is
pub nodes_are : (kernels : List Kernel) (k : ℕ) (kernel : Kernel) → slice_get kernels k ≡ Some kernel → nodes_at kernels k ≡ kernel.nodes
nodes_are kernels k kernel e = ap (λ o. option_map_or (λ (kernel : Kernel). kernel.nodes) o []) e

-- the width of a node by its type
pub width_is : (nodes : List Node) (n : ℕ) (node : Node) → slice_get nodes n ≡ Some node → width_at nodes n ≡ width_of node.view.t
width_is nodes n node e = ap (λ (x : Node). width_of x.view.t) (get_or_from_slice_get nodes n node no_node e)

-- a port's width by its node
pub port_wide : (kernels : List Kernel) (port : PortAt) (kernel : Kernel) → slice_get kernels port.kernel ≡ Some kernel
    → port_width kernels port ≡ width_at kernel.nodes port.node
port_wide kernels port kernel e = ap (λ nodes. width_at nodes port.node) (nodes_are kernels port.kernel kernel e)

-- the type of a port by its node
type_known : (kernels : List Kernel) (port : PortAt) (kernel : Kernel) (node : Node) → slice_get kernels port.kernel ≡ Some kernel
    → slice_get kernel.nodes port.node ≡ Some node → type_of kernels port ≡ Some node.view.t
type_known kernels port kernel node e f =
    ap (λ o. option_map (λ (node : Node). node.view.t) (option_and_then (λ (kernel : Kernel). slice_get kernel.nodes port.node) o)) e
    ∙ ap (λ o. option_map (λ (node : Node). node.view.t) o) f

module _ (project : Project) where
  -- an input of a kernel, by its place among the inputs
  pub record IsInput (port : PortAt) : Type 0 where
    pub kernel : Kernel
    pub known : slice_get project.kernels port.kernel ≡ Some kernel
    pub node : Node
    pub at : slice_get kernel.nodes port.node ≡ Some node
    pub place : ℕ
    pub is : slice_get (inputs_of kernel.nodes) place ≡ Some port.node
    pub net : stream_net project port ≡ first_net project port.kernel + 3 * place

  pub input_is : (port : PortAt) → IsPort project.kernels is_input port → IsInput port
  input_is port h =
      let n = has_node project.kernels is_input port h in
      let nodes = n.kernel.nodes in
      let z : 0 + port.node ≡ port.node = omega arith in
      let p = place_in is_input 0 nodes port.node (record { node = n.of.node; is = n.of.is; kind = n.of.kind }) in
      let is : slice_get (inputs_of nodes) p.place ≡ Some port.node = p.is ∙ ap (λ j. Some j) z in
      record {
        kernel = n.kernel;
        known = n.known;
        node = n.of.node;
        at = n.of.is;
        place = p.place;
        is = is;
        net =
            ap (λ nodes. first_net project port.kernel + 3 * place_of port.node (streams_of nodes)) (nodes_are project.kernels port.kernel n.kernel n.known)
            ∙ ap (λ i. first_net project port.kernel + 3 * i) (input_place nodes p.place port.node is);
      }

  -- and an output
  pub record IsOutput (port : PortAt) : Type 0 where
    pub kernel : Kernel
    pub known : slice_get project.kernels port.kernel ≡ Some kernel
    pub node : Node
    pub at : slice_get kernel.nodes port.node ≡ Some node
    pub place : ℕ
    pub is : slice_get (outputs_of kernel.nodes) place ≡ Some port.node
    pub net : stream_net project port ≡ first_net project port.kernel + 3 * (length (inputs_of kernel.nodes) + place)

  pub output_is : (port : PortAt) → IsPort project.kernels is_output port → IsOutput port
  output_is port h =
      let n = has_node project.kernels is_output port h in
      let nodes = n.kernel.nodes in
      let z : 0 + port.node ≡ port.node = omega arith in
      let p = place_in is_output 0 nodes port.node (record { node = n.of.node; is = n.of.is; kind = n.of.kind }) in
      let is : slice_get (outputs_of nodes) p.place ≡ Some port.node = p.is ∙ ap (λ j. Some j) z in
      record {
        kernel = n.kernel;
        known = n.known;
        node = n.of.node;
        at = n.of.is;
        place = p.place;
        is = is;
        net =
            ap (λ nodes. first_net project port.kernel + 3 * place_of port.node (streams_of nodes)) (nodes_are project.kernels port.kernel n.kernel n.known)
            ∙ ap (λ i. first_net project port.kernel + 3 * i) (output_place nodes p.place port.node is);
      }

  -- the width of a stream of the host is that of its port
  pub host_wide : (host : HostPort) (kernel : Kernel) (node : Node) → HasType project.kernels host → slice_get project.kernels host.port.kernel ≡ Some kernel
      → slice_get kernel.nodes host.port.node ≡ Some node → width_at kernel.nodes host.port.node ≡ width_of host.t
  host_wide host kernel node typed e f =
      let s = sym (type_known project.kernels host.port kernel node e f) ∙ typed in
      let same : node.view.t ≡ host.t = cc in
      width_is kernel.nodes host.port.node node f ∙ ap width_of same

  -- ports of one type have one width
  pub same_wide : (a b : PortAt) (ka kb : Kernel) (na nb : Node) → type_of project.kernels a ≡ type_of project.kernels b
      → slice_get project.kernels a.kernel ≡ Some ka → slice_get ka.nodes a.node ≡ Some na
      → slice_get project.kernels b.kernel ≡ Some kb → slice_get kb.nodes b.node ≡ Some nb
      → width_at ka.nodes a.node ≡ width_at kb.nodes b.node
  same_wide a b ka kb na nb typed ea fa eb fb =
      let s = sym (type_known project.kernels a ka na ea fa) ∙ typed ∙ type_known project.kernels b kb nb eb fb in
      let same : na.view.t ≡ nb.view.t = cc in
      width_is ka.nodes a.node na fa ∙ ap width_of same ∙ sym (width_is kb.nodes b.node nb fb)
