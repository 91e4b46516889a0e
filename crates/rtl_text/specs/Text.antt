-- The text of a design: what its tree says is the design, by name, in the same order within each kind.
use Rattle.std.specs.Prelude.{◌≡◌, ℕ, ◌+◌, Bool, true, false, ◌||◌, ◌==◌, List, [], ◌∷◌, ◌++◌, length, map, Contains, Some, slice_get, if◌then◌else◌}
use Rattle.std.specs.Option.{option_map}
use Rattle.grammar.specs.Grammar.{Derives}
use Rattle.rtl_ir.specs.declared.design.Net.{Net}
use Rattle.rtl_ir.specs.declared.design.Mem.{Mem}
use Rattle.rtl_ir.specs.declared.design.Port.{Port}
use Rattle.rtl_ir.specs.declared.design.Expr.{Expr}
use Rattle.rtl_ir.specs.declared.design.Expr.TheVariants as exprs
use Rattle.rtl_ir.specs.declared.design.Assign.{Assign}
use Rattle.rtl_ir.specs.declared.design.Target.TheVariants as targets
use Rattle.rtl_ir.specs.declared.design.Update.{Update}
use Rattle.rtl_ir.specs.declared.design.Instance.{Instance}
use Rattle.rtl_ir.specs.declared.design.Module.{Module}
use Rattle.rtl_ir.specs.declared.design.Design.{Design}
use Rattle.rtl_text.specs.Tokens.{Token, IsTokens}
use Rattle.rtl_text.specs.Tree.{Name, PortTree, InputPort, OutputPort, ExprTree, PlainTree}
use Rattle.rtl_text.specs.Tree.{LiteralTree, NotTree, BinaryTree, ConcatTree, RepeatTree, PartTree}
use Rattle.rtl_text.specs.Tree.{ChooseTree, CellTree, UpdateTree, RegisterUpdate, CellUpdate}
use Rattle.rtl_text.specs.Tree.{Connection, ItemTree, WireItem, RegisterItem, MemoryItem}
use Rattle.rtl_text.specs.Tree.{AssignItem, AlwaysItem, InstanceItem, ModuleTree}
use Rattle.rtl_text.specs.Productions.{Is, Choice, File}

-- two lists of one length whose elements fit together, one by one
abbrev pub Pairwise : {A B : Type 0} → (A → B → Type 0) → List A → List B → Type 0
Pairwise R [] [] = Unit {0}
Pairwise R (x ∷ xs) (y ∷ ys) = R x y × Pairwise R xs ys
Pairwise R [] (y ∷ ys) = ⊥
Pairwise R (x ∷ xs) [] = ⊥

-- a net of the module has this name
abbrev pub IsNet : Module → Name → ℕ → Type 0
IsNet m name n = option_map (λ (net : Net). net.name) (slice_get m.nets n) ≡ Some name

-- a memory of the module has this name
abbrev pub IsMem : Module → Name → ℕ → Type 0
IsMem m name k = option_map (λ (mem : Mem). mem.name) (slice_get m.mems k) ≡ Some name

-- what an item of one kind declares
pub record Declared : Type 0 where
  pub name : Name
  pub width : ℕ

pub record DeclaredMemory : Type 0 where
  pub name : Name
  pub width : ℕ
  pub depth : ℕ

pub record NamedAssign : Type 0 where
  pub target : Name
  pub expr : ExprTree

pub record NamedInstance : Type 0 where
  pub of : Name
  pub name : Name
  pub connections : List Connection

-- the items of each kind, in the order of the text
abbrev pub wires_in : List ItemTree → List Declared
wires_in [] = []
wires_in (WireItem w name ∷ is) = record { name = name; width = w } ∷ wires_in is
wires_in (_ ∷ is) = wires_in is

abbrev pub registers_in : List ItemTree → List Declared
registers_in [] = []
registers_in (RegisterItem w name ∷ is) = record { name = name; width = w } ∷ registers_in is
registers_in (_ ∷ is) = registers_in is

abbrev pub memories_in : List ItemTree → List DeclaredMemory
memories_in [] = []
memories_in (MemoryItem w name n ∷ is) = record { name = name; width = w; depth = n } ∷ memories_in is
memories_in (_ ∷ is) = memories_in is

abbrev pub assigns_in : List ItemTree → List NamedAssign
assigns_in [] = []
assigns_in (AssignItem name e ∷ is) = record { target = name; expr = e } ∷ assigns_in is
assigns_in (_ ∷ is) = assigns_in is

abbrev pub updates_in : List ItemTree → List UpdateTree
updates_in [] = []
updates_in (AlwaysItem us ∷ is) = us ++ updates_in is
updates_in (_ ∷ is) = updates_in is

abbrev pub instances_in : List ItemTree → List NamedInstance
instances_in [] = []
instances_in (InstanceItem of name cs ∷ is) = record { of = of; name = name; connections = cs } ∷ instances_in is
instances_in (_ ∷ is) = instances_in is

-- whether a net is a port's
abbrev pub is_port : List Port → ℕ → Bool
is_port [] n = false
is_port (p ∷ ps) n = p.net == n || is_port ps n

-- the nets of a module from number k on that are wires and no port's, in the order of their numbers
abbrev pub wires_from : List Port → ℕ → List Net → List Declared
wires_from ports k [] = []
wires_from ports k (n ∷ ns) = if n.reg || is_port ports k then wires_from ports
    (k + 1) ns else record { name = n.name; width = n.width } ∷ wires_from ports (k + 1) ns

-- the registers among these nets, in order
abbrev pub registers_of : List Net → List Declared
registers_of [] = []
registers_of (n ∷ ns) = if n.reg then record { name = n.name; width = n.width } ∷ registers_of ns else registers_of ns

abbrev pub memories_of : List Mem → List DeclaredMemory
memories_of mems = map (λ (m : Mem). record { name = m.name; width = m.width; depth = m.depth }) mems

-- a port of the text is this port of the module, whose net is a wire
pub record IsPort (m : Module) (name : Name) (width : ℕ) (output : Bool) (p : Port) : Type 0 where
  pub net : Net
  pub of : slice_get m.nets p.net ≡ Some net
  pub named : net.name ≡ name
  pub wide : net.width ≡ width
  pub wire : net.reg ≡ false
  pub direction : p.output ≡ output

abbrev pub PortIs : Module → PortTree → Port → Type 0
PortIs m (InputPort w name) p = IsPort m name w false p
PortIs m (OutputPort w name) p = IsPort m name w true p

-- an expression of the text is this expression of the module
abbrev pub ExprIs : Module → ExprTree → Expr → Type 0
ExprIs m (PlainTree a) (exprs.Net n) = IsNet m a n
ExprIs m (LiteralTree w x) (exprs.Literal word) = (word.width ≡ w) × (word.bits ≡ x)
ExprIs m (NotTree a) (exprs.Not n) = IsNet m a n
ExprIs m (BinaryTree s a b) (exprs.Binary t n k) = (s ≡ t) × IsNet m a n × IsNet m b k
ExprIs m (ConcatTree a b) (exprs.Concat n k) = IsNet m a n × IsNet m b k
ExprIs m (RepeatTree i a) (exprs.Repeat j n) = (i ≡ j) × IsNet m a n
ExprIs m (PartTree a hi lo) (exprs.Part n high low) = (hi ≡ high) × (lo ≡ low) × IsNet m a n
ExprIs m (ChooseTree c a b) (exprs.Choose i n k) = IsNet m c i × IsNet m a n × IsNet m b k
ExprIs m (CellTree x a) (exprs.Cell k n) = IsMem m x k × IsNet m a n
ExprIs m _ _ = ⊥

abbrev pub AssignIs : Module → NamedAssign → Assign → Type 0
AssignIs m t a = IsNet m t.target a.target × ExprIs m t.expr a.expr

pub record WritesRegister (m : Module) (enable name value : Name) (u : Update) : Type 0 where
  pub register : ℕ
  pub target : u.target ≡ targets.Reg register
  pub named : IsNet m name register
  pub enabled : IsNet m enable u.enable
  pub writes : IsNet m value u.value

pub record WritesCell (m : Module) (enable name address value : Name) (u : Update) : Type 0 where
  pub memory : ℕ
  pub at : ℕ
  pub target : u.target ≡ targets.Cell memory at
  pub named : IsMem m name memory
  pub addressed : IsNet m address at
  pub enabled : IsNet m enable u.enable
  pub writes : IsNet m value u.value

abbrev pub UpdateIs : Module → UpdateTree → Update → Type 0
UpdateIs m (RegisterUpdate enable name value) u = WritesRegister m enable name value u
UpdateIs m (CellUpdate enable name address value) u = WritesCell m enable name address value u

-- a port of an instance is joined to this net by one of the connections
pub record IsJoined (m inner : Module) (cs : List Connection) (p : Port) (n : ℕ) : Type 0 where
  pub port : Name
  pub net : Name
  pub listed : Contains cs (record { port = port; net = net })
  pub named : IsNet inner port p.net
  pub joined : IsNet m net n

-- an instance of the text is this one: it names each port of its module once, in any order
pub record InstanceIs (d : Design) (m : Module) (t : NamedInstance) (i : Instance) : Type 0 where
  pub inner : Module
  pub of : slice_get d.modules i.module ≡ Some inner
  pub module_named : inner.name ≡ t.of
  pub named : i.name ≡ t.name
  pub joined : Pairwise (IsJoined m inner t.connections) inner.ports i.nets
  pub each_once : length t.connections ≡ length inner.ports

pub record ModuleIs (d : Design) (t : ModuleTree) (m : Module) : Type 0 where
  pub named : m.name ≡ t.name
  pub ports : Pairwise (PortIs m) t.ports m.ports
  pub wires : wires_in t.items ≡ wires_from m.ports 0 m.nets
  pub registers : registers_in t.items ≡ registers_of m.nets
  pub memories : memories_in t.items ≡ memories_of m.mems
  pub assigns : Pairwise (AssignIs m) (assigns_in t.items) m.assigns
  pub updates : Pairwise (UpdateIs m) (updates_in t.items) m.updates
  pub instances : Pairwise (InstanceIs d m) (instances_in t.items) m.instances

-- the bytes are a text of the design
pub record TextOf (bytes : List ℕ) (d : Design) : Type 0 where
  pub tokens : List Token
  pub trees : List ModuleTree
  pub read : IsTokens bytes tokens
  pub derived : Derives Is Choice (File trees ∷ []) tokens
  pub modules : Pairwise (ModuleIs d) trees d.modules
