-- Modules that grow by wires.
use Rattle.std.specs.Prelude.{◌≡◌, ℕ, ◌+◌, ◌≤◌, ◌<◌, List, [], ◌∷◌, ◌++◌, length, Bool, false, ◌&&◌, ◌||◌, nat_eq, codes}
use Rattle.std.specs.Fmt.{decimal}
use Rattle.rtl_ir.specs.declared.design.Net.{Net}
use Rattle.rtl_ir.specs.declared.design.Port.{Port}
use Rattle.rtl_ir.specs.declared.design.Assign.{Assign}
use Rattle.rtl_ir.specs.declared.design.Expr.{Expr}
use Rattle.rtl_ir.specs.declared.design.Module.{Module}
use Rattle.rtl_ir.specs.Operands.{reads, bit_numbers}
use Rattle.rtl_ir.specs.Typed.{IsTyped}
use Rattle.rtl_ir.specs.Grow.{Grows, InRange, IsIn}

-- the name of the wire that is net number n
abbrev pub wire_name : ℕ → List ℕ
wire_name n = codes "w" ++ decimal n

-- the module of this name that has nothing
abbrev pub empty : List ℕ → Module
empty name = record { name = name; ports = []; nets = []; mems = []; assigns = []; updates = []; instances = [] }

-- whether a net is that of an output among these ports
abbrev pub is_output : List Port → ℕ → Bool
is_output [] n = false
is_output (p ∷ ps) n = (nat_eq p.net n && p.output) || is_output ps n

-- none of these nets is that of an output
abbrev pub AreInner : List Port → List ℕ → Type 0
AreInner ps [] = Unit {0}
AreInner ps (n ∷ ns) = (is_output ps n ≡ false) × AreInner ps ns

-- these ports are among so many nets
abbrev pub ArePortsIn : ℕ → List Port → Type 0
ArePortsIn nets [] = Unit {0}
ArePortsIn nets (p ∷ ps) = (p.net < nets) × ArePortsIn nets ps

-- A module to which wires may be added: its numbers are in range, and its ports have nets.
pub record IsOpen (m : Module) : Type 0 where
  pub range : InRange m
  pub ports : ArePortsIn (length m.nets) m.ports

-- the numbers that a replication or a part may have
abbrev pub AllSmall : List ℕ → Type 0
AllSmall [] = Unit {0}
AllSmall (x ∷ xs) = (x ≤ 128) × AllSmall xs

-- An expression that a new wire of w bits may have: over nets of the module, none of which is that of an output, and of no memory.
pub record MayBeWire (m : Module) (w : ℕ) (e : Expr) : Type 0 where
  pub some : 1 ≤ w
  pub at_most : w ≤ 128
  pub within : IsIn (length m.nets) 0 e
  pub inner : AreInner m.ports (reads e)
  pub numbers : AllSmall (bit_numbers e)
  pub typed : IsTyped m w e

-- A net and its assignment: a wire named by its number n, of an expression of its width over nets
-- before it alone, none of which is that of an output.
pub record IsWire (m : Module) (n : ℕ) (net : Net) (a : Assign) : Type 0 where
  pub name : net.name ≡ wire_name n
  pub some : 1 ≤ net.width
  pub at_most : net.width ≤ 128
  pub wire : net.reg ≡ false
  pub target : a.target ≡ n
  pub earlier : IsIn n 0 a.expr
  pub inner : AreInner m.ports (reads a.expr)
  pub numbers : AllSmall (bit_numbers a.expr)
  pub typed : IsTyped m net.width a.expr

-- these are wires from number n on, each with its assignment
abbrev pub AreWires : Module → ℕ → List Net → List Assign → Type 0
AreWires m n [] [] = Unit {0}
AreWires m n (net ∷ nets) (a ∷ assigns) = IsWire m n net a × AreWires m (n + 1) nets assigns
AreWires m n [] (a ∷ assigns) = ⊥
AreWires m n (net ∷ nets) [] = ⊥

-- the new module is the old one and at most so many wires after its nets, and nothing else
pub record AddsWires (old new : Module) (most : ℕ) : Type 0 where
  pub grows : Grows old new
  pub name : new.name ≡ old.name
  pub mems : new.mems ≡ old.mems
  pub updates : new.updates ≡ old.updates
  pub wires : AreWires new (length old.nets) grows.more_nets grows.more_assigns
  pub count : length new.nets ≤ length old.nets + most
