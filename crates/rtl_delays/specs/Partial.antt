-- What a module keeps while it grows, so that a finished one keeps all rules of designs.
use Rattle.std.specs.Prelude.{
  ◌≡◌,
  ℕ,
  ◌<◌,
  ◌≤◌,
  ◌^◌,
  Bool,
  true,
  false,
  not,
  ◌&&◌,
  ◌||◌,
  nat_eq,
  List,
  [],
  ◌∷◌,
  length,
  map,
  Some,
  slice_get,
  codes,
  bytes_eq,
  IsTrue,
}
use Rattle.std.specs.List.{list_all, list_any}
use Rattle.rtl_ir.specs.declared.design.Net.{Net}
use Rattle.rtl_ir.specs.declared.design.Mem.{Mem}
use Rattle.rtl_ir.specs.declared.design.Port.{Port}
use Rattle.rtl_ir.specs.declared.design.Assign.{Assign}
use Rattle.rtl_ir.specs.declared.design.Update.{Update}
use Rattle.rtl_ir.specs.declared.design.Module.{Module}
use Rattle.rtl_ir.specs.Value.{width_of, is_reg}
use Rattle.rtl_ir.specs.Operands.{bit_numbers}
use Rattle.rtl_ir.specs.Typed.{IsTyped, IsUpdateTyped, is_given}
use Rattle.rtl_ir.specs.Names.{is_digit, is_name}
use Rattle.rtl_ir.specs.Formed.{name_of}
use Rattle.rtl_ir.specs.Ports.{PortView, ports_of}
use Rattle.rtl_ir.specs.Rules.{AllDiffer}
use Rattle.rtl_build.specs.Wires.{is_output, wire_name}
use Rattle.rtl_delays.specs.Steps.{IsSound, IsKept, writes_reg}
use Rattle.rtl_delays.specs.Names.{register_name, memory_name}
use Rattle.rtl_delays.specs.Ordered.{IsOrdered}
use Rattle.rtl_delays.specs.Driven.{is_driven}

-- A name that net number k may have past the ports: `w` or `r` and its number, or `position`.
pub data IsOwnName (k : ℕ) (name : List ℕ) : Type 0 where
  OfWire : name ≡ wire_name k → IsOwnName k name
  OfRegister : name ≡ register_name k → IsOwnName k name
  OfPosition : name ≡ codes "position" → IsOwnName k name

-- a memory has the name of its number, 1 to 128 bits and 1 to 2^28 words
pub record IsPartialMem (k : ℕ) (x : Mem) : Type 0 where
  pub name : x.name ≡ memory_name k
  pub some : 1 ≤ x.width
  pub at_most : x.width ≤ 128
  pub words : 1 ≤ x.depth
  pub words_at_most : x.depth ≤ 2 ^ 28

-- an assignment has the width of its target, which is no register and no input
pub record IsPartialAssign (m : Module) (a : Assign) : Type 0 where
  pub free : is_given m a.target ≡ false
  pub typed : IsTyped m (width_of m a.target) a.expr
  pub numbers : (i x : ℕ) → slice_get (bit_numbers a.expr) i ≡ Some x → x ≤ 128

-- an update has the width of its target, which is a register or a memory of the module
pub record IsPartialUpdate (m : Module) (u : Update) : Type 0 where
  pub enable : u.enable < length m.nets
  pub value : u.value < length m.nets
  pub kept : IsKept m u.target
  pub typed : IsUpdateTyped m u

-- Every rule of designs that a module can keep while it grows. Its ports come first. The nets
-- after them and the memories have names of their own; each wire after them has an assignment;
-- nothing has two assignments or two updates; and assignments read earlier nets alone.
pub record IsPartial (m : Module) : Type 0 where
  pub sound : IsSound m
  pub ordered : IsOrdered m
  pub front : length m.ports ≤ length m.nets
  pub ports : (k : ℕ) (p : Port) → slice_get m.ports k ≡ Some p → p.net ≡ k
  pub port_wires : (k : ℕ) → k < length m.ports → is_reg m k ≡ false
  pub widths : (k : ℕ) (x : Net) → slice_get m.nets k ≡ Some x → (1 ≤ x.width) × (x.width ≤ 128)
  pub names :
      (k : ℕ) (x : Net)
      → length m.ports ≤ k
      → slice_get m.nets k ≡ Some x
      → IsOwnName k x.name
  pub position :
      (j k : ℕ)
      → length m.ports ≤ j
      → length m.ports ≤ k
      → name_of m j ≡ codes "position"
      → name_of m k ≡ codes "position"
      → j ≡ k
  pub wired :
      (k : ℕ) (x : Net)
      → length m.ports ≤ k
      → slice_get m.nets k ≡ Some x
      → x.reg ≡ false
      → is_driven k m.assigns ≡ true
  pub mems : (k : ℕ) (x : Mem) → slice_get m.mems k ≡ Some x → IsPartialMem k x
  pub assigns : (j : ℕ) (a : Assign) → slice_get m.assigns j ≡ Some a → IsPartialAssign m a
  pub single :
      (i j : ℕ) (a b : Assign)
      → slice_get m.assigns i ≡ Some a
      → slice_get m.assigns j ≡ Some b
      → a.target ≡ b.target
      → i ≡ j
  pub updates : (j : ℕ) (u : Update) → slice_get m.updates j ≡ Some u → IsPartialUpdate m u

-- a module that has ports alone, each of its own net
pub record HasPortsAlone (m : Module) : Type 0 where
  pub partial : IsPartial m
  pub nets : length m.nets ≡ length m.ports
  pub mems : m.mems ≡ []
  pub assigns : m.assigns ≡ []
  pub updates : m.updates ≡ []
  pub instances : m.instances ≡ []

-- whether a name is `position`, or `w`, `r` or `m` and digits alone
abbrev pub is_own_name : List ℕ → Bool
is_own_name [] = false
is_own_name (b ∷ bs) =
    ((nat_eq b 119 || nat_eq b 114 || nat_eq b 109) && list_all is_digit bs)
    || bytes_eq (b ∷ bs) (codes "position")

-- whether a port is an input of 1 bit with this name
abbrev pub is_bit_port : List ℕ → PortView → Bool
is_bit_port name v = not v.output && nat_eq v.width 1 && bytes_eq v.name name

-- whether a port has a name, which is none that the module gives to its own nets and memories
abbrev pub is_named_port : PortView → Bool
is_named_port v = is_name v.name && not (is_own_name v.name)

-- Ports that a finished module may have: they have names of their own that differ, and there are a
-- clock and a reset among the inputs.
pub record HasPortNames (ports : List PortView) : Type 0 where
  pub named : IsTrue (list_all is_named_port ports)
  pub differ : AllDiffer (map (λ (v : PortView). v.name) ports)
  pub clock : IsTrue (list_any (is_bit_port (codes "clk")) ports)
  pub reset : IsTrue (list_any (is_bit_port (codes "reset")) ports)

-- A module in which nothing is left to do: it has no instances, its ports have names, every output
-- has its value, and every register is written.
pub record IsFinished (m : Module) : Type 0 where
  pub name : IsTrue (is_name m.name)
  pub alone : m.instances ≡ []
  pub few_nets : length m.nets < 2 ^ 64
  pub few_mems : length m.mems < 2 ^ 64
  pub ports : HasPortNames (ports_of m)
  pub driven : (n : ℕ) → is_output m.ports n ≡ true → is_driven n m.assigns ≡ true
  pub written : (n : ℕ) → is_reg m n ≡ true → writes_reg n m.updates ≡ true
