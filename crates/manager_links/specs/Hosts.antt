-- The streams between the CPU and the ports of a project's kernels.
use Rattle.std.specs.Prelude.{
  ◌≡◌,
  ℕ,
  ◌+◌,
  Bool,
  true,
  false,
  if◌then◌else◌,
  List,
  [],
  ◌∷◌,
  Some,
}
use Rattle.std.specs.List.{AllZip, Any, flat_map}
use Rattle.kernel_meaning.specs.declared.plan.End.TheVariants as E
use Rattle.kernel_meaning.specs.declared.plan.Join.{Join}
use Rattle.kernel_meaning.specs.declared.plan.Plan.{Plan}
use Rattle.stream_graph.specs.declared.kernel.Kernel.{Kernel}
use Rattle.stream_graph.specs.declared.node.Kind.{Kind}
use Rattle.stream_graph.specs.declared.node.Node.{Node}
use Rattle.stream_graph.specs.Kinds.{is_input, is_output}
use Rattle.manager_links.specs.declared.hosts.HostPort.{HostPort}
use Rattle.manager_links.specs.Ports.{IsPortAt, type_of}

-- the words of a stream have the type of its port
abbrev pub HasType : List Kernel → HostPort → Type 0
HasType kernels host = type_of kernels host.port ≡ Some host.t

-- ---- with a manager

-- a join gives the words of the stream from the CPU of this name to this port
pub record IsHostInput (kernels : List Kernel) (joins : List Join) (name : List ℕ)
    (host : HostPort) : Type 0
  where
    pub named : host.name ≡ name
    pub joined :
        Any (λ join. (join.right ≡ E.Cpu name) × IsPortAt kernels is_input join.left host.port) joins

-- a join gives the words of this port to the stream to the CPU of this name
pub record IsHostOutput (kernels : List Kernel) (joins : List Join) (name : List ℕ)
    (host : HostPort) : Type 0
  where
    pub named : host.name ≡ name
    pub joined :
        Any (λ join. (join.left ≡ E.Cpu name) × IsPortAt kernels is_output join.right host.port)
        joins

-- ---- without a manager

-- the stream of the name of a node of this number, of the only kernel, which is joined to it
abbrev pub own_host : ℕ → Node → HostPort
own_host n node =
    record { name = node.name; port = record { kernel = 0; node = n }; t = node.view.t }

-- there is one for each port of a kind, in node order; the first of these nodes has this number
abbrev pub own_hosts : (Kind → Bool) → ℕ → List Node → List HostPort
own_hosts is_kind n [] = []
own_hosts is_kind n (node ∷ nodes) =
    if is_kind node.view.kind then own_host n node ∷ own_hosts is_kind (n + 1) nodes
    else own_hosts is_kind (n + 1) nodes

abbrev pub own_ports : (Kind → Bool) → List Kernel → List HostPort
own_ports is_kind kernels = flat_map (λ (kernel : Kernel). own_hosts is_kind 0 kernel.nodes) kernels

-- ---- the streams of a project, in the order of the manager's calls, or in node order

abbrev pub AreInputsBy : Bool → Plan → List Kernel → List HostPort → Type 0
AreInputsBy true plan kernels hosts =
    AllZip (IsHostInput kernels plan.joins) plan.from_cpu hosts
AreInputsBy false plan kernels hosts = hosts ≡ own_ports is_input kernels

abbrev pub AreOutputsBy : Bool → Plan → List Kernel → List HostPort → Type 0
AreOutputsBy true plan kernels hosts =
    AllZip (IsHostOutput kernels plan.joins) plan.to_cpu hosts
AreOutputsBy false plan kernels hosts = hosts ≡ own_ports is_output kernels

abbrev pub AreInputs : Plan → List Kernel → List HostPort → Type 0
AreInputs plan kernels hosts = AreInputsBy plan.manager plan kernels hosts

abbrev pub AreOutputs : Plan → List Kernel → List HostPort → Type 0
AreOutputs plan kernels hosts = AreOutputsBy plan.manager plan kernels hosts
