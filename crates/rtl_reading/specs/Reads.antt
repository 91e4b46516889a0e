-- The design that a text says, with its nets numbered in the order of their declarations.
use Rattle.std.specs.Prelude.{◌≡◌, ℕ, ◌+◌, true, false, List, [], ◌∷◌, ◌++◌, map, Some, None, slice_get}
use Rattle.grammar.specs.Grammar.{Derives}
use Rattle.rtl_ir.specs.declared.design.Net.{Net}
use Rattle.rtl_ir.specs.declared.design.Port.{Port}
use Rattle.rtl_ir.specs.declared.design.Module.{Module}
use Rattle.rtl_ir.specs.declared.design.Design.{Design}
use Rattle.rtl_text.specs.Tokens.{Token, IsTokens}
use Rattle.rtl_text.specs.Tree.{PortTree, InputPort, OutputPort, ItemTree, WireItem, RegisterItem, MemoryItem, AssignItem, AlwaysItem, InstanceItem, ModuleTree}
use Rattle.rtl_text.specs.Productions.{Is, Choice, File}
use Rattle.rtl_text.specs.Text.{Pairwise, ModuleIs}
use Rattle.rtl_reading.specs.Uses.{unknown_in}

-- the bytes are these modules
pub record IsText (bytes : List ℕ) (trees : List ModuleTree) : Type 0 where
  pub tokens : List Token
  pub read : IsTokens bytes tokens
  pub derived : Derives Is Choice (File trees ∷ []) tokens

abbrev pub port_net : PortTree → Net
port_net (InputPort w name) = record { name = name; width = w; reg = false }
port_net (OutputPort w name) = record { name = name; width = w; reg = false }

-- the wires and registers that items declare, in the order of the text
abbrev pub item_nets : List ItemTree → List Net
item_nets [] = []
item_nets (WireItem w name ∷ is) = record { name = name; width = w; reg = false } ∷ item_nets is
item_nets (RegisterItem w name ∷ is) = record { name = name; width = w; reg = true } ∷ item_nets is
item_nets (MemoryItem w name n ∷ is) = item_nets is
item_nets (AssignItem name e ∷ is) = item_nets is
item_nets (AlwaysItem us ∷ is) = item_nets is
item_nets (InstanceItem of name cs ∷ is) = item_nets is

-- so many numbers from one on, one for each element of a list
abbrev pub numbers_from : {A : Type 0} → ℕ → List A → List ℕ
numbers_from k [] = []
numbers_from k (x ∷ xs) = k ∷ numbers_from (k + 1) xs

-- the ports' nets are the first nets, in the order of the ports
abbrev pub IsPortsFirst : Module → Type 0
IsPortsFirst m = map (λ (p : Port). p.net) m.ports ≡ numbers_from 0 m.ports

-- they are so in each module of the design
abbrev pub ArePortsFirst : Design → Type 0
ArePortsFirst d = (k : ℕ) (m : Module) → slice_get d.modules k ≡ Some m → IsPortsFirst m

-- nets are numbered as they are declared: the ports first, and then the wires and registers
pub record IsNumbered (t : ModuleTree) (m : Module) : Type 0 where
  pub nets : m.nets ≡ map port_net t.ports ++ item_nets t.items
  pub ports : map (λ (p : Port). p.net) m.ports ≡ numbers_from 0 t.ports

-- the bytes are a text of the design, each name in it is declared before it is used, and nets are numbered as they are
-- declared
pub record ReadsAs (bytes : List ℕ) (d : Design) : Type 0 where
  pub trees : List ModuleTree
  pub is : IsText bytes trees
  pub known : unknown_in trees ≡ None
  pub modules : Pairwise (ModuleIs d) trees d.modules
  pub numbered : Pairwise IsNumbered trees d.modules
