-- Names of small texts that are declared where they are used, and the first one that isn't.
use Rattle.std.proofs.Common.{◌≡◌, true, false, List, [], ◌∷◌, refl}
use Rattle.std.specs.Prelude.{codes, Option, Some, None}
use Rattle.rtl_text.specs.Tree.{Name, PortTree, InputPort, OutputPort, PlainTree, NotTree, CellTree}
use Rattle.rtl_text.specs.Tree.{RegisterUpdate, CellUpdate, Connection, ItemTree, WireItem}
use Rattle.rtl_text.specs.Tree.{RegisterItem, MemoryItem, AssignItem, AlwaysItem, InstanceItem}
use Rattle.rtl_text.specs.Tree.{ModuleTree}
use Rattle.rtl_reading.specs.Uses.{unknown_in}
use Rattle.rtl_reading.specs.Reads.{item_nets, numbers_from}

-- the ports of a module that turns its input
abbrev turn_ports : List PortTree
turn_ports = InputPort 1 (codes "clk") ∷ InputPort 1 (codes "reset") ∷ InputPort 8 (codes "a") ∷ OutputPort 8 (codes "b") ∷ []

abbrev module_of : Name → List ItemTree → ModuleTree
module_of name items = record { name = name; ports = turn_ports; items = items }

-- the first name that isn't declared in the items of a module alone
abbrev unknown_among : List ItemTree → Option Name
unknown_among items = unknown_in (module_of (codes "turn") items ∷ [])

ports_are_known : unknown_among (AssignItem (codes "b") (NotTree (codes "a")) ∷ []) ≡ None
ports_are_known = refl

wire_is_known : unknown_among (WireItem 8 (codes "w") ∷ AssignItem (codes "w") (PlainTree (codes "a")) ∷ AssignItem (codes "b") (PlainTree (codes "w")) ∷ []) ≡ None
wire_is_known = refl

wire_comes_late : unknown_among (AssignItem (codes "b") (PlainTree (codes "w")) ∷ WireItem 8 (codes "w") ∷ []) ≡ Some (codes "w")
wire_comes_late = refl

target_is_first : unknown_among (AssignItem (codes "c") (PlainTree (codes "d")) ∷ []) ≡ Some (codes "c")
target_is_first = refl

memory_is_no_net : unknown_among (MemoryItem 8 (codes "t") 4 ∷ AssignItem (codes "b") (PlainTree (codes "t")) ∷ []) ≡ Some (codes "t")
memory_is_no_net = refl

cell_is_known : unknown_among (MemoryItem 8 (codes "t") 4
    ∷ AssignItem (codes "b") (CellTree (codes "t") (codes "a"))
    ∷ AlwaysItem (CellUpdate (codes "reset") (codes "t") (codes "a") (codes "b") ∷ []) ∷ []) ≡ None
cell_is_known = refl

register_is_known : unknown_among (RegisterItem 8 (codes "r") ∷ AlwaysItem (RegisterUpdate (codes "reset") (codes "r") (codes "a") ∷ []) ∷ []) ≡ None
register_is_known = refl

wire_is_no_register : unknown_among (AlwaysItem (RegisterUpdate (codes "reset") (codes "b") (codes "a") ∷ []) ∷ []) ≡ Some (codes "b")
wire_is_no_register = refl

clock_is_wanted : unknown_in (record { name = codes "m"; ports = InputPort 2 (codes "clk") ∷ OutputPort 1 (codes "reset") ∷ []; items = [] } ∷ []) ≡ Some (codes "clk")
clock_is_wanted = refl

-- instances
abbrev joined : Name → Name → Connection
joined port net = record { port = port; net = net }

-- a module that turns, and one with an instance of it that is joined so
abbrev unknown_joined : List Connection → Option Name
unknown_joined connections =
    unknown_in (module_of (codes "turn") (AssignItem (codes "b") (NotTree (codes "a")) ∷ []) ∷ module_of (codes "outer") (InstanceItem (codes "turn") (codes "part") connections ∷ []) ∷ [])

abbrev clocks : List Connection
clocks = joined (codes "clk") (codes "clk") ∷ joined (codes "reset") (codes "reset") ∷ []

each_port_joined : unknown_joined (joined (codes "b") (codes "b") ∷ joined (codes "clk") (codes "clk") ∷ joined (codes "a") (codes "a") ∷ joined (codes "reset") (codes "reset") ∷ []) ≡ None
each_port_joined = refl

port_not_joined : unknown_joined clocks ≡ Some (codes "a")
port_not_joined = refl

port_joined_twice : unknown_joined (joined (codes "clk") (codes "clk") ∷ joined (codes "clk") (codes "a") ∷ []) ≡ Some (codes "clk")
port_joined_twice = refl

no_such_port : unknown_joined (joined (codes "c") (codes "a") ∷ []) ≡ Some (codes "c")
no_such_port = refl

module_is_not_its_own : unknown_among (InstanceItem (codes "turn") (codes "part") clocks ∷ []) ≡ Some (codes "turn")
module_is_not_its_own = refl

-- nets
nets_in_order :
    item_nets (RegisterItem 8 (codes "r") ∷ MemoryItem 8 (codes "t") 4 ∷ WireItem 1 (codes "w") ∷ [])
    ≡ record { name = codes "r"; width = 8; reg = true } ∷ record { name = codes "w"; width = 1; reg = false } ∷ []
nets_in_order = refl

numbers_of_ports : numbers_from 0 turn_ports ≡ 0 ∷ 1 ∷ 2 ∷ 3 ∷ []
numbers_of_ports = refl
