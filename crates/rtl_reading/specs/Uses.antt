-- The names that a text uses, in the order of the text, each with whether it is declared where it is used.
use Rattle.std.specs.Prelude.{◌==◌, ◌&&◌, not, Bool, false, List, [], ◌∷◌, ◌++◌, map, Option, Some, None, is_some, bytes_eq, codes, if◌then◌else◌}
use Rattle.std.specs.List.{list_any, find}
use Rattle.rtl_text.specs.Tree.{Name, PortTree, InputPort, OutputPort, ExprTree, PlainTree}
use Rattle.rtl_text.specs.Tree.{LiteralTree, NotTree, BinaryTree, ConcatTree, RepeatTree, PartTree}
use Rattle.rtl_text.specs.Tree.{ChooseTree, CellTree, UpdateTree, RegisterUpdate, CellUpdate}
use Rattle.rtl_text.specs.Tree.{Connection, ItemTree, WireItem, RegisterItem, MemoryItem}
use Rattle.rtl_text.specs.Tree.{AssignItem, AlwaysItem, InstanceItem, ModuleTree}
use Rattle.rtl_text.specs.Text.{Declared, DeclaredMemory, wires_in, registers_in, memories_in}

-- a name that is used, and whether it is declared before as what it is used as
pub record Use : Type 0 where
  pub name : Name
  pub declared : Bool

abbrev pub is_in : Name → List Name → Bool
is_in name names = list_any (bytes_eq name) names

abbrev pub port_name : PortTree → Name
port_name (InputPort w name) = name
port_name (OutputPort w name) = name

abbrev pub is_bit_input : Name → PortTree → Bool
is_bit_input wanted (InputPort w name) = w == 1 && bytes_eq name wanted
is_bit_input wanted (OutputPort w name) = false

-- where a name is used: the modules before, and the ports and items before it in its own module
pub record Scope : Type 0 where
  pub modules : List ModuleTree
  pub ports : List PortTree
  pub items : List ItemTree

abbrev pub names_of : List Declared → List Name
names_of ds = map (λ (d : Declared). d.name) ds

-- the names of nets: of ports, of wires, and of registers
abbrev pub is_net : Scope → Name → Bool
is_net sc name = is_in name (map port_name sc.ports ++ names_of (wires_in sc.items) ++ names_of (registers_in sc.items))

abbrev pub is_register : Scope → Name → Bool
is_register sc name = is_in name (names_of (registers_in sc.items))

abbrev pub is_memory : Scope → Name → Bool
is_memory sc name = is_in name (map (λ (d : DeclaredMemory). d.name) (memories_in sc.items))

-- the first earlier module of a name
abbrev pub module_named : List ModuleTree → Name → Option ModuleTree
module_named ms name = find (λ (m : ModuleTree). bytes_eq m.name name) ms

abbrev pub ports_named : Option ModuleTree → List Name
ports_named None = []
ports_named (Some m) = map port_name m.ports

abbrev pub net : Scope → Name → Use
net sc name = record { name = name; declared = is_net sc name }

abbrev pub register : Scope → Name → Use
register sc name = record { name = name; declared = is_register sc name }

abbrev pub memory : Scope → Name → Use
memory sc name = record { name = name; declared = is_memory sc name }

abbrev pub expr_uses : Scope → ExprTree → List Use
expr_uses sc (PlainTree a) = net sc a ∷ []
expr_uses sc (LiteralTree w x) = []
expr_uses sc (NotTree a) = net sc a ∷ []
expr_uses sc (BinaryTree s a b) = net sc a ∷ net sc b ∷ []
expr_uses sc (ConcatTree a b) = net sc a ∷ net sc b ∷ []
expr_uses sc (RepeatTree n a) = net sc a ∷ []
expr_uses sc (PartTree a hi lo) = net sc a ∷ []
expr_uses sc (ChooseTree c a b) = net sc c ∷ net sc a ∷ net sc b ∷ []
expr_uses sc (CellTree m a) = memory sc m ∷ net sc a ∷ []

abbrev pub update_uses : Scope → UpdateTree → List Use
update_uses sc (RegisterUpdate enable name value) = net sc enable ∷ register sc name ∷ net sc value ∷ []
update_uses sc (CellUpdate enable name address value) = net sc enable ∷ memory sc name ∷ net sc address ∷ net sc value ∷ []

abbrev pub updates_uses : Scope → List UpdateTree → List Use
updates_uses sc [] = []
updates_uses sc (u ∷ us) = update_uses sc u ++ updates_uses sc us

-- the connections of an instance of a module with these ports, after these connections: each names a port that was not
-- named before, and a net
abbrev pub connection_uses : Scope → List Name → List Connection → List Connection → List Use
connection_uses sc ports before [] = []
connection_uses sc ports before (c ∷ cs) =
    record { name = c.port; declared = is_in c.port ports && not (is_in c.port (map (λ (b : Connection). b.port) before)) }
    ∷ net sc c.net
    ∷ connection_uses sc ports (before ++ c ∷ []) cs

-- at the end of an instance each port, after these ports, must have been named, and by a connection of its own: of two ports
-- of one name the later one has none
abbrev pub joined_uses : List Name → List Name → List Connection → List Use
joined_uses before [] cs = []
joined_uses before (port ∷ ports) cs =
    record { name = port; declared = is_in port (map (λ (c : Connection). c.port) cs) && not (is_in port before) }
    ∷ joined_uses (before ++ port ∷ []) ports cs

abbrev pub item_uses : Scope → ItemTree → List Use
item_uses sc (WireItem w name) = []
item_uses sc (RegisterItem w name) = []
item_uses sc (MemoryItem w name n) = []
item_uses sc (AssignItem name e) = net sc name ∷ expr_uses sc e
item_uses sc (AlwaysItem us) = updates_uses sc us
item_uses sc (InstanceItem of name cs) =
    record { name = of; declared = is_some (module_named sc.modules of) }
    ∷ (connection_uses sc (ports_named (module_named sc.modules of)) [] cs ++ joined_uses [] (ports_named (module_named sc.modules of)) cs)

-- the items of a module, after these
abbrev pub items_uses : List ModuleTree → List PortTree → List ItemTree → List ItemTree → List Use
items_uses modules ports before [] = []
items_uses modules ports before (i ∷ is) =
    item_uses (record { modules = modules; ports = ports; items = before }) i
    ++ items_uses modules ports (before ++ i ∷ []) is

-- at the end of its ports a module must have the inputs clk and reset of 1 bit
abbrev pub port_uses : List PortTree → List Use
port_uses ports =
    record { name = codes "clk"; declared = list_any (is_bit_input (codes "clk")) ports }
    ∷ record { name = codes "reset"; declared = list_any (is_bit_input (codes "reset")) ports }
    ∷ []

abbrev pub module_uses : List ModuleTree → ModuleTree → List Use
module_uses earlier m = port_uses m.ports ++ items_uses earlier m.ports [] m.items

-- the modules of a text, after these
abbrev pub text_uses : List ModuleTree → List ModuleTree → List Use
text_uses earlier [] = []
text_uses earlier (m ∷ ms) = module_uses earlier m ++ text_uses (earlier ++ m ∷ []) ms

-- the first name that isn't declared
abbrev pub first_undeclared : List Use → Option Name
first_undeclared [] = None
first_undeclared (u ∷ us) = if u.declared then first_undeclared us else Some u.name

-- the first name of a text that is used and isn't declared before
abbrev pub unknown_in : List ModuleTree → Option Name
unknown_in trees = first_undeclared (text_uses [] trees)
