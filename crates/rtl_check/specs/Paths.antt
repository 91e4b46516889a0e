-- The graph of what feeds each net of a module, and the ways from its inputs to its outputs.
use Rattle.std.specs.Prelude.{◌≡◌, ◌⊎◌, ℕ, ◌^◌, ◌<◌, min, true, false, List, length, Option, Some, slice_get, slice_index}
use Rattle.rtl_ir.specs.declared.design.Design.{Design}
use Rattle.rtl_ir.specs.declared.design.Module.{Module}
use Rattle.rtl_ir.specs.declared.design.Assign.{Assign}
use Rattle.rtl_ir.specs.declared.design.Instance.{Instance}
use Rattle.rtl_ir.specs.declared.design.Port.{Port}
use Rattle.rtl_ir.specs.Operands.{IsRead}
use Rattle.rtl_ir.specs.Rules.{Way}
use Rattle.digraph.specs.Graph.{Reads}

-- a way from an input of a module to an output, each by its place among the ports
pub record PortPath : Type 0 where
  pub input : ℕ
  pub output : ℕ

-- the path is in a table, which has for each port the inputs from which there is a way to it
abbrev pub HasPath : List (List ℕ) → PortPath → Type 0
HasPath table x = (row : List ℕ) × (n : ℕ) × (slice_get table x.output ≡ Some row) × (slice_get row n ≡ Some x.input)

-- a graph has these edges more, each from a node that is read to its reader, and no other ones
pub record Adds (Edge : ℕ → ℕ → Type 0) (old new : List (List ℕ)) : Type 0 where
  pub size : length new ≡ length old
  pub kept : (a b : ℕ) → Reads old b a → Reads new b a
  pub added : (a b : ℕ) → Edge a b → Reads new b a
  pub only : (a b : ℕ) → Reads new b a → Reads old b a ⊎ Edge a b

-- no node that is read has a number of more than 32 bits
abbrev pub IsSmall : List (List ℕ) → Type 0
IsSmall g = (a b : ℕ) → Reads g b a → a < 2 ^ 32

-- one of the first assignments reads a net for another one
abbrev pub IsAssigned : Module → ℕ → ℕ → ℕ → Type 0
IsAssigned m assigns a b = (j : ℕ) × (x : Assign) × (j < assigns) × (slice_get m.assigns j ≡ Some x) × IsRead x.expr a × (x.target ≡ b)

-- these nets are joined to the first of these ports of an instance
pub record AreJoined (i : Instance) (ports : List ℕ) (count : ℕ) (nets : List ℕ) : Type 0 where
  pub size : length nets ≡ count
  pub small : (n a : ℕ) → slice_get nets n ≡ Some a → a < 2 ^ 32
  pub sound : (n a : ℕ) → slice_get nets n ≡ Some a → (p : ℕ) × (slice_get ports n ≡ Some p) × (slice_get i.nets p ≡ Some a)
  pub whole : (n p a : ℕ) → n < count → slice_get ports n ≡ Some p → slice_get i.nets p ≡ Some a → slice_get nets n ≡ Some a

-- a path to one of the first ports of an instance's module leads from a net to another one
abbrev pub IsPassed : Instance → List (List ℕ) → ℕ → ℕ → ℕ → Type 0
IsPassed i table count a b =
    (x : PortPath) × (x.output < count) × HasPath table x
    × (slice_get i.nets x.input ≡ Some a) × (slice_get i.nets x.output ≡ Some b)

-- one of the first instances leads from a net to another one
abbrev pub IsParted : Module → List (List (List ℕ)) → ℕ → ℕ → ℕ → Type 0
IsParted m tables instances a b =
    (k : ℕ) × (i : Instance) × (table : List (List ℕ)) × (k < instances) × (slice_get m.instances k ≡ Some i)
    × (slice_get tables i.module ≡ Some table) × IsPassed i table (length table) a b

-- the edges of a module's graph are those of its assignments and its instances
pub record HasEdges (m : Module) (tables : List (List (List ℕ))) (g : List (List ℕ)) : Type 0 where
  pub size : length g ≡ min (length m.nets) (2 ^ 32)
  pub small : IsSmall g
  pub added : (a b : ℕ) → IsAssigned m (length m.assigns) a b ⊎ IsParted m tables (length m.instances) a b → Reads g b a
  pub only : (a b : ℕ) → Reads g b a → IsAssigned m (length m.assigns) a b ⊎ IsParted m tables (length m.instances) a b

-- an input and an output of a module between which a relation of nets holds
pub record IsPath (Leads : ℕ → ℕ → Type 0) (m : Module) (x : PortPath) : Type 0 where
  pub input : Port
  pub input_at : slice_get m.ports x.input ≡ Some input
  pub is_input : input.output ≡ false
  pub output : Port
  pub output_at : slice_get m.ports x.output ≡ Some output
  pub is_output : output.output ≡ true
  pub leads : Leads input.net output.net

-- a table has such paths, and all of those that are seen
pub record ArePaths (Leads : ℕ → ℕ → Type 0) (m : Module) (Seen : ℕ → ℕ → Type 0) (table : List (List ℕ)) : Type 0 where
  pub sound : (x : PortPath) → HasPath table x → IsPath Leads m x
  pub whole : (x : PortPath) → Seen x.input x.output → IsPath Leads m x → HasPath table x

-- no two ports of a module are one net
abbrev pub ArePortsApart : Module → Type 0
ArePortsApart m = (j k : ℕ) (p q : Port) → slice_get m.ports j ≡ Some p → slice_get m.ports k ≡ Some q → p.net ≡ q.net → j ≡ k

-- an input has its place
abbrev pub IsInput : Module → ℕ → ℕ → Type 0
IsInput m n i = (p : Port) × (slice_get m.ports i ≡ Some p) × (p.output ≡ false) × (p.net ≡ n)

-- for each net the place of the input that it is, among the first ports
pub record ArePlaces (m : Module) (ports : ℕ) (places : List (Option ℕ)) : Type 0 where
  pub sound : (n i : ℕ) → slice_get places n ≡ Some (Some i) → IsInput m n i
  pub whole : (n i : ℕ) → i < ports → IsInput m n i → slice_get places n ≡ Some (Some i)

-- the places of the inputs that are among the first of these nets
pub record AreAmong (places : List (Option ℕ)) (nodes : List ℕ) (count : ℕ) (inputs : List ℕ) : Type 0 where
  pub sound : (n i : ℕ) → slice_get inputs n ≡ Some i → (j : ℕ) × (j < count) × (slice_get places (slice_index nodes j) ≡ Some (Some i))
  pub whole : (j i : ℕ) → j < count → slice_get places (slice_index nodes j) ≡ Some (Some i) → (n : ℕ) × (slice_get inputs n ≡ Some i)

-- the nets, the modules and the ports that a module and the paths of its instances' modules name are there
pub record IsInRange (m : Module) (tables : List (List (List ℕ))) : Type 0 where
  pub targets : (j : ℕ) (a : Assign) → slice_get m.assigns j ≡ Some a → a.target < length m.nets
  pub reads : (j n : ℕ) (a : Assign) → slice_get m.assigns j ≡ Some a → IsRead a.expr n → n < length m.nets
  pub ports : (j : ℕ) (p : Port) → slice_get m.ports j ≡ Some p → p.net < length m.nets
  pub apart : ArePortsApart m
  pub earlier : (k : ℕ) (i : Instance) → slice_get m.instances k ≡ Some i → i.module < length tables
  pub nets : (k j n : ℕ) (i : Instance) → slice_get m.instances k ≡ Some i → slice_get i.nets j ≡ Some n → n < length m.nets
  pub paths :
      (k : ℕ) (i : Instance) (table : List (List ℕ)) (x : PortPath)
      → slice_get m.instances k ≡ Some i
      → slice_get tables i.module ≡ Some table
      → HasPath table x
      → (x.input < length i.nets) × (x.output < length i.nets)

-- the paths of a module: from each input to each output to which there is a way
abbrev pub ArePathsOf : Design → Module → List (List ℕ) → Type 0
ArePathsOf d m table = ArePaths (Way d m) m (λ input output. Unit {0}) table
