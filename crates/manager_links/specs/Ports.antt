-- The ports of the kernels of a project, each by the numbers of its kernel and of its node.
use Rattle.std.specs.Prelude.{◌≡◌, ℕ, ◌==◌, ◌&&◌, Bool, true, false, List, Option, slice_get, IsSomeAnd}
use Rattle.std.specs.List.{list_any}
use Rattle.std.specs.Option.{option_and_then, option_map, option_map_or}
use Rattle.fix_arith.specs.declared.types.StreamType.{StreamType}
use Rattle.kernel_meaning.specs.declared.plan.End.{End}
use Rattle.kernel_meaning.specs.declared.plan.End.TheVariants as E
use Rattle.stream_graph.specs.declared.kernel.Kernel.{Kernel}
use Rattle.stream_graph.specs.declared.node.Kind.{Kind}
use Rattle.stream_graph.specs.declared.node.Node.{Node}
use Rattle.manager_links.specs.declared.links.PortAt.{PortAt}

-- ---- ports of kernels

-- the node of a port
abbrev pub node_of : List Kernel → PortAt → Option Node
node_of kernels port =
    option_and_then (λ (kernel : Kernel). slice_get kernel.nodes port.node)
    (slice_get kernels port.kernel)

-- this is a port of this kind
abbrev pub IsPort : List Kernel → (Kind → Bool) → PortAt → Type 0
IsPort kernels is_kind port =
    IsSomeAnd (node_of kernels port) (λ (node : Node). is_kind node.view.kind ≡ true)

-- the node has this kind and this name
abbrev pub IsNamed : (Kind → Bool) → List ℕ → Node → Type 0
IsNamed is_kind name node = (is_kind node.view.kind ≡ true) × (node.name ≡ name)

-- the kernel of this number has a port of this kind and this name, which is this one
pub record IsPortOf (kernels : List Kernel) (is_kind : Kind → Bool) (number : ℕ) (name : List ℕ)
    (port : PortAt) : Type 0
  where
    pub kernel : port.kernel ≡ number
    pub node : IsSomeAnd (node_of kernels port) (IsNamed is_kind name)

-- an end of a join is this port of a kernel, of this kind
abbrev pub IsPortAt : List Kernel → (Kind → Bool) → End → PortAt → Type 0
IsPortAt kernels is_kind (E.Kernel number name) port =
    IsPortOf kernels is_kind number name port
IsPortAt kernels is_kind (E.Cpu name) port = ⊥

-- the type of a port's words
abbrev pub type_of : List Kernel → PortAt → Option StreamType
type_of kernels port = option_map (λ (node : Node). node.view.t) (node_of kernels port)

-- the port has a control
abbrev pub is_controlled : List Kernel → PortAt → Bool
is_controlled kernels port =
    option_map_or (λ (node : Node). node.view.controlled) (node_of kernels port) false

-- ---- lists of ports

abbrev pub is_same_port : PortAt → PortAt → Bool
is_same_port one other = (one.kernel == other.kernel) && (one.node == other.node)

abbrev pub is_among : PortAt → List PortAt → Bool
is_among port ports = list_any (is_same_port port) ports
