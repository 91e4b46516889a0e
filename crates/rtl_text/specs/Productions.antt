-- The productions of the Verilog subset. A part carries the tree that it is read as.
use Rattle.std.specs.Prelude.{◌≡◌, ◌≤◌, ◌<◌, ◌-◌, ◌^◌, ℕ, false, List, [], ◌∷◌, codes}
use Rattle.rtl_ir.specs.declared.design.Sign.{Sign}
use Rattle.rtl_ir.specs.Spelling.{sign_bytes}
use Rattle.rtl_ir.specs.Names.{is_reserved}
use Rattle.rtl_text.specs.Tokens.{Token}
use Rattle.rtl_text.specs.Tree.{Name, PortTree, InputPort, OutputPort, ExprTree, PlainTree}
use Rattle.rtl_text.specs.Tree.{LiteralTree, NotTree, BinaryTree, ConcatTree, RepeatTree, PartTree}
use Rattle.rtl_text.specs.Tree.{ChooseTree, CellTree, UpdateTree, RegisterUpdate, CellUpdate}
use Rattle.rtl_text.specs.Tree.{Connection, ItemTree, WireItem, RegisterItem, MemoryItem}
use Rattle.rtl_text.specs.Tree.{AssignItem, AlwaysItem, InstanceItem, ModuleTree}

pub data Part : Type 0 where
  Sign_ : List ℕ → Part  -- this sign
  Reserved : List ℕ → Part  -- this reserved word
  Clock : Part  -- the name `clk`
  Id : Name → Part  -- this name
  Number : ℕ → Part  -- decimal digits of this value
  Literal : ℕ → ℕ → Part  -- a literal of this width and value
  File : List ModuleTree → Part
  Modules : List ModuleTree → Part
  Module : ModuleTree → Part
  Ports : List PortTree → Part
  MorePorts : List PortTree → Part
  Port : PortTree → Part
  Range : ℕ → Part  -- the range of this width
  Items : List ItemTree → Part
  Item : ItemTree → Part
  Updates : List UpdateTree → Part
  Update : UpdateTree → Part
  Connections : List Connection → Part
  MoreConnections : List Connection → Part
  Connected : Connection → Part
  Expr : ExprTree → Part

abbrev pub Is : Part → Token → Type 0
Is (Sign_ s) t = t ≡ Token.Sign s
Is (Reserved w) t = t ≡ Token.Word w
Is Clock t = t ≡ Token.Word (codes "clk")
Is (Id name) t = (t ≡ Token.Word name) × (is_reserved name ≡ false)
Is (Number n) t = t ≡ Token.Number n
Is (Literal w n) t = t ≡ Token.Literal w n
Is _ t = ⊥

-- a width, in bits
abbrev pub IsWidth : ℕ → Type 0
IsWidth w = (1 ≤ w) × (w ≤ 128)

-- the number of words of a memory
abbrev pub IsDepth : ℕ → Type 0
IsDepth n = (1 ≤ n) × (n ≤ 2 ^ 28)

pub data Choice : Part → List Part → Type 0 where
  file : {m : ModuleTree} {ms : List ModuleTree} → Choice (File (m ∷ ms)) (Module m ∷ Modules ms ∷ [])
  no_modules : Choice (Modules []) []
  more_modules : {m : ModuleTree} {ms : List ModuleTree} → Choice (Modules (m ∷ ms)) (Module m ∷ Modules ms ∷ [])
  module' : {name : Name} {ports : List PortTree} {items : List ItemTree}
      → Choice (Module (record { name = name; ports = ports; items = items }))
      (Reserved (codes "module") ∷ Id name ∷ Sign_ (codes "(") ∷ Ports ports ∷ Sign_ (codes ")")
      ∷ Sign_ (codes ";") ∷ Items items ∷ Reserved (codes "endmodule") ∷ [])
  -- ports
  ports : {p : PortTree} {ps : List PortTree} → Choice (Ports (p ∷ ps)) (Port p ∷ MorePorts ps ∷ [])
  no_more_ports : Choice (MorePorts []) []
  more_ports : {p : PortTree} {ps : List PortTree} → Choice (MorePorts (p ∷ ps)) (Sign_ (codes ",") ∷ Port p ∷ MorePorts ps ∷ [])
  input : {w : ℕ} {name : Name} → Choice (Port (InputPort w name)) (Reserved (codes "input") ∷ Reserved (codes "wire") ∷ Range w ∷ Id name ∷ [])
  output : {w : ℕ} {name : Name} → Choice (Port (OutputPort w name)) (Reserved (codes "output") ∷ Reserved (codes "wire") ∷ Range w ∷ Id name ∷ [])
  range : {w : ℕ} → IsWidth w → Choice (Range w) (Sign_ (codes "[") ∷ Number (w - 1) ∷ Sign_ (codes ":") ∷ Number 0 ∷ Sign_ (codes "]") ∷ [])
  -- items
  no_items : Choice (Items []) []
  more_items : {i : ItemTree} {is : List ItemTree} → Choice (Items (i ∷ is)) (Item i ∷ Items is ∷ [])
  wire : {w : ℕ} {name : Name} → Choice (Item (WireItem w name)) (Reserved (codes "wire") ∷ Range w ∷ Id name ∷ Sign_ (codes ";") ∷ [])
  register : {w : ℕ} {name : Name} → Choice (Item (RegisterItem w name)) (Reserved (codes "reg") ∷ Range w ∷ Id name ∷ Sign_ (codes ";") ∷ [])
  memory : {w n : ℕ} {name : Name} → IsDepth n
      → Choice (Item (MemoryItem w name n))
      (Reserved (codes "reg") ∷ Range w ∷ Id name ∷ Sign_ (codes "[") ∷ Number 0
      ∷ Sign_ (codes ":") ∷ Number (n - 1) ∷ Sign_ (codes "]") ∷ Sign_ (codes ";") ∷ [])
  assign : {name : Name} {e : ExprTree}
      → Choice (Item (AssignItem name e)) (Reserved (codes "assign") ∷ Id name
      ∷ Sign_ (codes "=") ∷ Expr e ∷ Sign_ (codes ";") ∷ [])
  always : {us : List UpdateTree}
      → Choice (Item (AlwaysItem us))
      (Reserved (codes "always") ∷ Sign_ (codes "@") ∷ Sign_ (codes "(")
      ∷ Reserved (codes "posedge") ∷ Clock ∷ Sign_ (codes ")") ∷ Reserved (codes "begin")
      ∷ Updates us ∷ Reserved (codes "end") ∷ [])
  instance : {of name : Name} {cs : List Connection}
      → Choice (Item (InstanceItem of name cs)) (Id of ∷ Id name ∷ Sign_ (codes "(")
      ∷ Connections cs ∷ Sign_ (codes ")") ∷ Sign_ (codes ";") ∷ [])
  connections : {c : Connection} {cs : List Connection} → Choice (Connections (c ∷ cs)) (Connected c ∷ MoreConnections cs ∷ [])
  no_more_connections : Choice (MoreConnections []) []
  more_connections : {c : Connection} {cs : List Connection} → Choice (MoreConnections (c ∷ cs)) (Sign_ (codes ",") ∷ Connected c ∷ MoreConnections cs ∷ [])
  connected : {port net : Name} → Choice (Connected (record { port = port; net = net }))
      (Sign_ (codes ".") ∷ Id port ∷ Sign_ (codes "(") ∷ Id net ∷ Sign_ (codes ")") ∷ [])
  -- updates
  no_updates : Choice (Updates []) []
  more_updates : {u : UpdateTree} {us : List UpdateTree} → Choice (Updates (u ∷ us)) (Update u ∷ Updates us ∷ [])
  update_register : {enable name value : Name}
      → Choice (Update (RegisterUpdate enable name value))
      (Reserved (codes "if") ∷ Sign_ (codes "(") ∷ Id enable ∷ Sign_ (codes ")") ∷ Id name ∷ Sign_ (codes "<=") ∷ Id value ∷ Sign_ (codes ";") ∷ [])
  update_cell : {enable name address value : Name}
      → Choice (Update (CellUpdate enable name address value))
      (Reserved (codes "if") ∷ Sign_ (codes "(") ∷ Id enable ∷ Sign_ (codes ")") ∷ Id name
      ∷ Sign_ (codes "[") ∷ Id address ∷ Sign_ (codes "]") ∷ Sign_ (codes "<=") ∷ Id value
      ∷ Sign_ (codes ";") ∷ [])
  -- expressions
  plain : {a : Name} → Choice (Expr (PlainTree a)) (Id a ∷ [])
  literal : {w n : ℕ} → IsWidth w → n < 2 ^ w → Choice (Expr (LiteralTree w n)) (Literal w n ∷ [])
  not' : {a : Name} → Choice (Expr (NotTree a)) (Sign_ (codes "~") ∷ Id a ∷ [])
  binary : {s : Sign} {a b : Name} → Choice (Expr (BinaryTree s a b)) (Id a ∷ Sign_ (sign_bytes s) ∷ Id b ∷ [])
  concat : {a b : Name} → Choice (Expr (ConcatTree a b)) (Sign_ (codes "{") ∷ Id a ∷ Sign_ (codes ",") ∷ Id b ∷ Sign_ (codes "}") ∷ [])
  repeat : {n : ℕ} {a : Name} → n ≤ 128 → Choice (Expr (RepeatTree n a)) (Sign_ (codes "{")
      ∷ Number n ∷ Sign_ (codes "{") ∷ Id a ∷ Sign_ (codes "}") ∷ Sign_ (codes "}") ∷ [])
  part : {a : Name} {hi lo : ℕ} → hi ≤ 128 → lo ≤ 128 → Choice (Expr (PartTree a hi lo)) (Id a
      ∷ Sign_ (codes "[") ∷ Number hi ∷ Sign_ (codes ":") ∷ Number lo ∷ Sign_ (codes "]") ∷ [])
  choose : {c a b : Name} → Choice (Expr (ChooseTree c a b)) (Id c ∷ Sign_ (codes "?") ∷ Id a ∷ Sign_ (codes ":") ∷ Id b ∷ [])
  cell : {m a : Name} → Choice (Expr (CellTree m a)) (Id m ∷ Sign_ (codes "[") ∷ Id a ∷ Sign_ (codes "]") ∷ [])
