-- What the functions that read a module's parts say: the part with its names made numbers, or the first name that isn't declared.
use Rattle.std.specs.Prelude.{◌≡◌, ℕ, Bool, List, [], ◌∷◌, ◌++◌, length, map, Option, Some, None, Result, MatchResult, slice_get, take, if◌then◌else◌}
use Rattle.rtl_ir.specs.declared.design.Net.{Net}
use Rattle.rtl_ir.specs.declared.design.Mem.{Mem}
use Rattle.rtl_ir.specs.declared.design.Module.{Module}
use Rattle.rtl_text.specs.Tree.{Name, PortTree, InputPort, OutputPort, UpdateTree, ItemTree, ModuleTree}
use Rattle.rtl_text.specs.Text.{Pairwise, UpdateIs}
use Rattle.rtl_ir.specs.declared.design.Update.{Update}
use Rattle.verilog_syntax.specs.Trees.{module_view}
use Rattle.rtl_reading.specs.Uses.{Use, Scope, first_undeclared}
use Rattle.verilog_read.specs.Tables.{IsTable}
use Rattle.verilog_read.specs.Built.{IsSaid}
use Rattle.verilog_read.specs.declared.fault.Fault.{Fault}
use Rattle.verilog_read.specs.declared.fault.Fault.TheVariants.{Unknown, NoMemory}
use Rattle.verilog_read.specs.declared.declared.Declared.{Declared}
use Rattle.verilog_read.specs.declared.builder.Builder.{Builder}
use Rattle.verilog_read.specs.declared.instance.Earlier.{Earlier}

-- the fault names the first of these uses that isn't declared
abbrev pub IsFault : List Use → Fault → Type 0
IsFault uses (Unknown name) = first_undeclared uses ≡ Some name.now
IsFault uses NoMemory = Unit {0}

-- all of these uses are declared, and the fact holds
pub record AllDeclared (uses : List Use) (P : Type 0) : Type 0 where
  pub known : first_undeclared uses ≡ None
  pub holds : P

abbrev pub Gives : {T : Type 0} → Result T Fault → List Use → (T → Type 0) → Type 0
Gives r uses P = MatchResult r (λ x. AllDeclared uses (P x)) (IsFault uses)

-- the name of a net, and that of a register
abbrev pub net_name : Net → Option Name
net_name n = Some n.name

abbrev pub register_name : Net → Option Name
register_name n = if n.reg then Some n.name else None

abbrev pub memory_name : Mem → Option Name
memory_name k = Some k.name

abbrev pub module_name : ModuleTree → Option Name
module_name m = Some m.name

-- the tables are those of the module's nets and memories
pub record HasTables (m : Module) (d : Declared) : Type 0 where
  pub nets : IsTable d.nets (map net_name m.nets)
  pub registers : IsTable d.registers (map register_name m.nets)
  pub memories : IsTable d.memories (map memory_name m.mems)

pub record IsBuilt (name : Name) (sc : Scope) (b : Builder) : Type 0 where
  pub said : IsSaid name sc b.module
  pub tables : HasTables b.module b.declared

-- the modules before
pub record AreEarlier (e : Earlier) (modules : List ModuleTree) : Type 0 where
  pub trees : modules ≡ map module_view e.trees.now
  pub numbers : IsTable e.numbers.now (map module_name modules)

-- a scope with one more item
abbrev pub with_item : Scope → ItemTree → Scope
with_item sc i = record { modules = sc.modules; ports = sc.ports; items = sc.items ++ i ∷ [] }

-- these updates are added behind the old ones
pub record IsUpdated (m : Module) (trees : List UpdateTree) (old new : List Update) : Type 0 where
  pub more : List Update
  pub added : new ≡ old ++ more
  pub are : Pairwise (UpdateIs m) trees more

-- a scope with these items
abbrev pub item_scope : Scope → List ItemTree → Scope
item_scope sc is = record { modules = sc.modules; ports = sc.ports; items = is }

-- a scope of ports alone
abbrev pub port_scope : List ModuleTree → List PortTree → Scope
port_scope modules ports = record { modules = modules; ports = ports; items = [] }

abbrev pub port_tree : Name → ℕ → Bool → PortTree
port_tree name width output = if output then OutputPort width name else InputPort width name

-- the scope at the end of a module
abbrev pub module_scope : List ModuleTree → ModuleTree → Scope
module_scope modules m = record { modules = modules; ports = m.ports; items = m.items }

-- the modules are what the trees say
pub record AreSaid (trees : List ModuleTree) (modules : List Module) : Type 0 where
  pub count : length modules ≡ length trees
  pub each : (k : ℕ) (t : ModuleTree) (m : Module) → slice_get trees k ≡ Some t → slice_get modules k ≡ Some m → IsSaid t.name (module_scope (take k trees) t) m
