-- A module as far as its text was read.
use Rattle.std.specs.Prelude.{◌≡◌, ℕ, ◌+◌, true, false, List, [], ◌∷◌, ◌++◌, length, map, Contains, Some, slice_get}
use Rattle.rtl_ir.specs.declared.design.Port.{Port}
use Rattle.rtl_ir.specs.declared.design.Module.{Module}
use Rattle.rtl_ir.specs.declared.design.Instance.{Instance}
use Rattle.rtl_text.specs.Tree.{Name, PortTree, InputPort, OutputPort, Connection, ModuleTree}
use Rattle.rtl_text.specs.Text.{Pairwise, IsNet, AssignIs, UpdateIs, NamedInstance, memories_in, memories_of, assigns_in, updates_in, instances_in}
use Rattle.rtl_reading.specs.Uses.{Scope, port_name}
use Rattle.rtl_reading.specs.Reads.{port_net, item_nets}

-- a port of an instance is joined to this net by one of the connections
pub record IsJoinedTo (m : Module) (cs : List Connection) (port : Name) (n : ℕ) : Type 0 where
  pub net : Name
  pub listed : Contains cs (record { port = port; net = net })
  pub joined : IsNet m net n

-- an instance is this one of the text, where these are the trees of the modules before its own
pub record IsPartOf (earlier : List ModuleTree) (m : Module) (t : NamedInstance) (i : Instance) : Type 0 where
  pub inner : ModuleTree
  pub of : slice_get earlier i.module ≡ Some inner
  pub module_named : inner.name ≡ t.of
  pub named : i.name ≡ t.name
  pub joined : Pairwise (IsJoinedTo m t.connections) (map port_name inner.ports) i.nets
  pub each_once : length t.connections ≡ length inner.ports

abbrev pub port_of : ℕ → PortTree → Port
port_of k (InputPort w name) = record { net = k; output = false }
port_of k (OutputPort w name) = record { net = k; output = true }

-- the ports, with their nets numbered from this number on
abbrev pub ports_from : ℕ → List PortTree → List Port
ports_from k [] = []
ports_from k (p ∷ ps) = port_of k p ∷ ports_from (k + 1) ps

-- the nets and memories of a module are those that ports and items declare
pub record HasNets (sc : Scope) (m : Module) : Type 0 where
  pub nets : m.nets ≡ map port_net sc.ports ++ item_nets sc.items
  pub mems : memories_of m.mems ≡ memories_in sc.items

-- a module is what its name, its ports and items say
pub record IsSaid (name : Name) (sc : Scope) (m : Module) : Type 0 where
  pub named : m.name ≡ name
  pub ports : m.ports ≡ ports_from 0 sc.ports
  pub declared : HasNets sc m
  pub assigns : Pairwise (AssignIs m) (assigns_in sc.items) m.assigns
  pub updates : Pairwise (UpdateIs m) (updates_in sc.items) m.updates
  pub instances : Pairwise (IsPartOf sc.modules m) (instances_in sc.items) m.instances
