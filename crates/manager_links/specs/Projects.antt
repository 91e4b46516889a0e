-- What a project keeps of its kernels, of its plan, and of what the plan joins.
use Rattle.std.specs.Prelude.{◌≡◌, ◌<◌, ◌≤◌, ◌^◌, Bool, true, List, ◌++◌, map, length, All}
use Rattle.kernel_calls.specs.Laws.{is_port_name}
use Rattle.kernel_meaning.specs.declared.plan.Plan.{Plan}
use Rattle.stream_graph.specs.declared.kernel.Kernel.{Kernel}
use Rattle.stream_graph.specs.declared.node.Kind.{Kind}
use Rattle.stream_graph.specs.Kinds.{is_input, is_output}
use Rattle.manager_links.specs.declared.hosts.HostPort.{HostPort}
use Rattle.manager_links.specs.declared.joints.Joints.{Joints}
use Rattle.manager_links.specs.declared.links.LinkEnds.{LinkEnds}
use Rattle.manager_links.specs.declared.links.PortAt.{PortAt}
use Rattle.manager_links.specs.Lists.{AllDiffer}
use Rattle.manager_links.specs.Ports.{IsPort, is_among, type_of}
use Rattle.manager_links.specs.Joined.{AreJoined}
use Rattle.manager_links.specs.Hosts.{AreInputs, AreOutputs, HasType}
use Rattle.manager_links.specs.Loops.{AreOrdered}
use Rattle.manager_links.specs.Plans.{AreKernelsOf}
use Rattle.manager_links.specs.Rules.{AreFew, MeetsRules, kernel_names}

-- the inputs that are fed, by links and by the CPU
abbrev pub fed : Joints → List PortAt
fed joints =
    map (λ (link : LinkEnds). link.to) joints.links
    ++ map (λ (host : HostPort). host.port) joints.inputs

-- the outputs whose words go to links and to the CPU
abbrev pub given : Joints → List PortAt
given joints =
    map (λ (link : LinkEnds). link.from) joints.links
    ++ map (λ (host : HostPort). host.port) joints.outputs

-- these are all ports of a kind, each of them once
pub record AreAll (kernels : List Kernel) (is_kind : Kind → Bool) (ports : List PortAt) : Type 0
  where
    pub each : All (IsPort kernels is_kind) ports
    pub all : (port : PortAt) → IsPort kernels is_kind port → is_among port ports ≡ true
    pub once : AllDiffer ports

-- streams of the CPU have names that ports can have, of at most 64 bytes, and that differ, and the
-- types of their ports
pub record AreStreams (kernels : List Kernel) (hosts : List HostPort) : Type 0 where
  pub plain : All (λ (host : HostPort). is_port_name host.name ≡ true) hosts
  pub short : All (λ (host : HostPort). length host.name ≤ 64) hosts
  pub differ : AllDiffer (map (λ (host : HostPort). host.name) hosts)
  pub typed : All (HasType kernels) hosts

-- A project of these kernels, which were built by this plan and have different names, and what the
-- plan joins. Each input is
-- fed once, by a link or by the CPU, and each output gives its words once. The ends of a link have
-- one type. The links have no loop.
pub record IsProject (plan : Plan) (kernels : List Kernel) (joints : Joints) : Type 0 where
  pub named : AreKernelsOf plan kernels
  pub differ : AllDiffer (kernel_names kernels)
  pub few : AreFew kernels
  pub links : AreJoined kernels plan.joins joints.links
  pub count : length joints.links < 2 ^ 32
  pub types :
      All (λ (link : LinkEnds). type_of kernels link.from ≡ type_of kernels link.to) joints.links
  pub feeds : AreAll kernels is_input (fed joints)
  pub gives : AreAll kernels is_output (given joints)
  pub inputs : AreStreams kernels joints.inputs
  pub outputs : AreStreams kernels joints.outputs
  pub ordered : AreOrdered (length kernels) joints.links joints.order joints.ranks

-- a plan of these kernels was carried out: a project came of it, whose streams are those that the
-- plan joins, and a manager's plan meets all rules
pub record IsCarriedOut (plan : Plan) (kernels : List Kernel) (joints : Joints) : Type 0 where
  pub project : IsProject plan kernels joints
  pub from_cpu : AreInputs plan kernels joints.inputs
  pub to_cpu : AreOutputs plan kernels joints.outputs
  pub rules : plan.manager ≡ true → MeetsRules plan kernels
