-- A design made flat: the instances of its top module become parts of it, one after another.
use Rattle.std.specs.Prelude.{◌≡◌, ℕ, ◌<◌, List, [], ◌∷◌, ◌++◌, length, map, Some, slice_get}
use Rattle.rtl_ir.specs.declared.design.Design.{Design}
use Rattle.rtl_ir.specs.declared.design.Module.{Module}
use Rattle.rtl_ir.specs.declared.design.Port.{Port}
use Rattle.rtl_ir.specs.declared.design.Assign.{Assign}
use Rattle.rtl_ir.specs.declared.design.Update.{Update}
use Rattle.rtl_ir.specs.Formed.{IsFormedAssign, IsFormedUpdate}
use Rattle.rtl_ir.specs.declared.design.Instance.{Instance}
use Rattle.rtl_ir.specs.Flat.{top_of}
use Rattle.verilog_sim.specs.declared.flatten.Parts.{Parts}
use Rattle.verilog_sim.specs.declared.scope.Scope.{Scope}
use Rattle.verilog_sim.specs.Relocation.{bare_net, bare_mem, relocated_assign, relocated_update, relocated_instance, joins_of}

-- a module with no names, of which n is to be made
pub record IsCopied (m n : Module) : Type 0 where
  pub ports : n.ports ≡ m.ports
  pub nets : n.nets ≡ map bare_net m.nets
  pub mems : n.mems ≡ map bare_mem m.mems
  pub assigns : n.assigns ≡ map (relocated_assign 0 0) m.assigns
  pub updates : n.updates ≡ map (relocated_update 0 0) m.updates
  pub instances : n.instances ≡ map (relocated_instance 0) m.instances

-- where a module stands after it became a part of m in place of the instance with this number
abbrev pub place_of : ℕ → Module → Module → Scope
place_of instance m inner = record {
  instance = instance;
  first_net = length m.nets;
  nets = length inner.nets;
  first_mem = length m.mems;
  mems = length inner.mems;
}

-- the last instance of m, which is of this module, became a part of n
pub record IsJoined (d : Design) (m : Module) (s : Scope) (n : Module) : Type 0 where
  pub rest : List Instance
  pub part : Instance
  pub was : m.instances ≡ rest ++ part ∷ []
  pub inner : Module
  pub is : slice_get d.modules part.«module» ≡ Some inner
  pub ports : n.ports ≡ m.ports
  pub nets : n.nets ≡ m.nets ++ map bare_net inner.nets
  pub mems : n.mems ≡ m.mems ++ map bare_mem inner.mems
  pub assigns :
      n.assigns
      ≡ (m.assigns ++ map (relocated_assign (length m.nets) (length m.mems)) inner.assigns) ++ joins_of (length m.nets) inner.ports part.nets
  pub updates : n.updates ≡ m.updates ++ map (relocated_update (length m.nets) (length m.mems)) inner.updates
  pub instances : n.instances ≡ rest ++ map (relocated_instance (length m.nets)) inner.instances
  pub place : s ≡ place_of (length rest) m inner

-- a module, and what it is after these instances became parts of it
pub data Joins (d : Design) : Module → List Scope → Module → Type 0 where
  start : {m : Module} → Joins d m [] m
  join : {m n o : Module} {ss : List Scope} {s : Scope} → Joins d m ss n → IsJoined d n s o → Joins d m (ss ++ s ∷ []) o

-- the flat module of a design
pub record IsFlat (d : Design) (ss : List Scope) (n : Module) : Type 0 where
  pub top : Module
  pub is_top : top_of d ≡ Some top
  pub copy : Module
  pub copied : IsCopied top copy
  pub joins : Joins d copy ss n
  pub whole : length n.instances ≡ 0

-- numbers of a module are in range
pub record IsRanged (m : Module) : Type 0 where
  pub assigns : (k : ℕ) (a : Assign) → slice_get m.assigns k ≡ Some a → IsFormedAssign m a
  pub updates : (k : ℕ) (u : Update) → slice_get m.updates k ≡ Some u → IsFormedUpdate m u
  pub nets : (k j n : ℕ) (i : Instance) → slice_get m.instances k ≡ Some i → slice_get i.nets j ≡ Some n → n < length m.nets

-- the lists of a module so far, and this module's behind them
pub record IsAdded (old new : Parts) (m : Module) : Type 0 where
  pub nets : new.nets.items ≡ old.nets.items ++ map bare_net m.nets
  pub mems : new.mems.items ≡ old.mems.items ++ map bare_mem m.mems
  pub assigns : new.assigns.items ≡ old.assigns.items ++ map (relocated_assign (length old.nets.items) (length old.mems.items)) m.assigns
  pub updates : new.updates.items ≡ old.updates.items ++ map (relocated_update (length old.nets.items) (length old.mems.items)) m.updates
  pub instances : new.instances.items ≡ old.instances.items ++ map (relocated_instance (length old.nets.items)) m.instances

-- the same with the ports of the module joined to these nets
pub record IsAddedJoined (old new : Parts) (m : Module) (nets : List ℕ) : Type 0 where
  pub more_nets : new.nets.items ≡ old.nets.items ++ map bare_net m.nets
  pub mems : new.mems.items ≡ old.mems.items ++ map bare_mem m.mems
  pub assigns :
      new.assigns.items
      ≡ (old.assigns.items ++ map (relocated_assign (length old.nets.items) (length old.mems.items)) m.assigns)
      ++ joins_of (length old.nets.items) m.ports nets
  pub updates : new.updates.items ≡ old.updates.items ++ map (relocated_update (length old.nets.items) (length old.mems.items)) m.updates
  pub instances : new.instances.items ≡ old.instances.items ++ map (relocated_instance (length old.nets.items)) m.instances

-- the module of these lists
abbrev pub module_of : List Port → Parts → Module
module_of ports p = record {
  name = [];
  ports = ports;
  nets = p.nets.items;
  mems = p.mems.items;
  assigns = p.assigns.items;
  updates = p.updates.items;
  instances = p.instances.items;
}
