-- What a function that reads a part of a text as a tree says.
use Rattle.std.specs.Prelude.{◌≡◌, ◌⊎◌, ◌≤◌, ◌<◌, ◌^◌, ℕ, false, List, [], ◌∷◌, ◌++◌, codes}
use Rattle.grammar.specs.Grammar.{Derives}
use Rattle.grammar.specs.Stack.{Starts}
use Rattle.rtl_ir.specs.declared.design.Sign.{Sign}
use Rattle.rtl_text.specs.Tokens.{Token}
use Rattle.rtl_ir.specs.Names.{is_reserved}
use Rattle.rtl_text.specs.Tree.{Name, PortTree, ExprTree, UpdateTree, Connection, ItemTree, ModuleTree}
use Rattle.rtl_text.specs.Productions.{Part, Sign_, Id, Number, Literal, File, Modules, Module}
use Rattle.rtl_text.specs.Productions.{Ports, MorePorts, Port, Range, Items, Item, Updates, Update}
use Rattle.rtl_text.specs.Productions.{Connections, MoreConnections, Connected, Expr, Is, Choice}
use Rattle.rtl_text.specs.Productions.{IsWidth}
use Rattle.rtl_ir.specs.Spelling.{sign_bytes}

-- a part without its tree
pub data Symbol : Type 0 where
  NameOf : Symbol
  NumberTo : ℕ → Symbol  -- a number, at most this one
  LiteralOf : Symbol
  OperatorOf : Symbol
  RangeOf : Symbol
  PortOf : Symbol
  PortsOf : Symbol
  MorePortsOf : Symbol
  ExprOf : Symbol
  UpdateOf : Symbol
  UpdatesOf : Symbol
  ConnectionOf : Symbol
  ConnectionsOf : Symbol
  MoreConnectionsOf : Symbol
  ItemOf : Symbol
  ItemsOf : Symbol
  ModuleOf : Symbol
  ModulesOf : Symbol
  FileOf : Symbol

-- a width in bits, and a value
pub record SizedNumber : Type 0 where
  pub width : ℕ
  pub value : ℕ

-- the trees of each
abbrev pub TreeOf : Symbol → Type 0
TreeOf NameOf = Name
TreeOf (NumberTo n) = ℕ
TreeOf LiteralOf = SizedNumber
TreeOf OperatorOf = Sign
TreeOf RangeOf = ℕ
TreeOf PortOf = PortTree
TreeOf PortsOf = List PortTree
TreeOf MorePortsOf = List PortTree
TreeOf ExprOf = ExprTree
TreeOf UpdateOf = UpdateTree
TreeOf UpdatesOf = List UpdateTree
TreeOf ConnectionOf = Connection
TreeOf ConnectionsOf = List Connection
TreeOf MoreConnectionsOf = List Connection
TreeOf ItemOf = ItemTree
TreeOf ItemsOf = List ItemTree
TreeOf ModuleOf = ModuleTree
TreeOf ModulesOf = List ModuleTree
TreeOf FileOf = List ModuleTree

abbrev pub part : (s : Symbol) → TreeOf s → Part
part NameOf a = Id a
part (NumberTo n) a = Number a
part LiteralOf a = Literal a.width a.value
part OperatorOf a = Sign_ (sign_bytes a)
part RangeOf a = Range a
part PortOf a = Port a
part PortsOf a = Ports a
part MorePortsOf a = MorePorts a
part ExprOf a = Expr a
part UpdateOf a = Update a
part UpdatesOf a = Updates a
part ConnectionOf a = Connected a
part ConnectionsOf a = Connections a
part MoreConnectionsOf a = MoreConnections a
part ItemOf a = Item a
part ItemsOf a = Items a
part ModuleOf a = Module a
part ModulesOf a = Modules a
part FileOf a = File a

-- what the grammar asks of the tree beside its part
abbrev pub IsTree : (s : Symbol) → TreeOf s → Type 0
IsTree (NumberTo n) a = a ≤ n
IsTree LiteralOf a = IsWidth a.width × (a.value < 2 ^ a.width)
IsTree _ a = Unit {0}

-- the tokens with which an item begins
abbrev pub BeginsItem : Token → Type 0
BeginsItem t =
    (t ≡ Token.Word (codes "wire")) ⊎ ((t ≡ Token.Word (codes "reg")) ⊎ ((t ≡ Token.Word (codes "assign")) ⊎ ((t ≡ Token.Word (codes "always"))
    ⊎ ((name : Name) × (t ≡ Token.Word name) × (is_reserved name ≡ false)))))

-- the tokens with which the part may go on where it could end
abbrev pub GoesOn : Symbol → Token → Type 0
GoesOn PortsOf t = t ≡ Token.Sign (codes ",")
GoesOn MorePortsOf t = t ≡ Token.Sign (codes ",")
GoesOn ExprOf t = (t ≡ Token.Sign (codes "?")) ⊎ ((t ≡ Token.Sign (codes "[")) ⊎ ((o : Sign) × (t ≡ Token.Sign (sign_bytes o))))
GoesOn UpdatesOf t = t ≡ Token.Word (codes "if")
GoesOn ConnectionsOf t = t ≡ Token.Sign (codes ",")
GoesOn MoreConnectionsOf t = t ≡ Token.Sign (codes ",")
GoesOn ItemsOf t = BeginsItem t
GoesOn ModulesOf t = t ≡ Token.Word (codes "module")
GoesOn FileOf t = t ≡ Token.Word (codes "module")
GoesOn _ t = ⊥

-- the parts behind begin with no token with which this one may go on
abbrev pub Ends : Symbol → List Part → Type 0
Ends s below = (t : Token) (ts : List Token) → GoesOn s t → Starts Is Choice below (t ∷ ts) → ⊥

-- a token that no text has, and that stands for the end of all tokens
abbrev pub end_token : Token
end_token = Token.Sign []

abbrev pub ended : List Token → List Token
ended ts = ts ++ end_token ∷ []

-- The part is read as the tree a, and ys is left. Whatever the parts behind it are, and whatever its tree: what begins them all
-- up to a token of ys has this tree, and begins the parts behind from ys on.
pub record Reads (s : Symbol) (xs ys : List Token) (a : TreeOf s) : Type 0 where
  pub read : List Token
  pub split : xs ≡ read ++ ys
  pub valid : IsTree s a
  pub derived : Derives Is Choice (part s a ∷ []) read
  pub only : (b : TreeOf s) → IsTree s b → (below : List Part) → Ends s below
      → (u back : List Token) → (u ≡ [] → ⊥) → ended ys ≡ u ++ back
      → Starts Is Choice (part s b ∷ below) (read ++ u) → (b ≡ a) × Starts Is Choice below u

-- The first token of ys is the first with which xs begins no such part and what may stand behind it. Where ys is empty the tokens are
-- too few.
pub record Stops (s : Symbol) (xs ys : List Token) : Type 0 where
  pub read : List Token
  pub split : xs ≡ read ++ ys
  pub tree : TreeOf s
  pub valid : IsTree s tree
  pub begun : (below : List Part) → Starts Is Choice (part s tree ∷ below) read
  pub bad : (t : Token) (back : List Token) → ended ys ≡ t ∷ back → (b : TreeOf s) → IsTree s b
      → (below : List Part) → Ends s below → Starts Is Choice (part s b ∷ below) (read ++ t
      ∷ []) → ⊥

-- the same of parts that have no trees
pub record ReadsAll (ps : List Part) (xs ys : List Token) : Type 0 where
  pub read : List Token
  pub split : xs ≡ read ++ ys
  pub derived : Derives Is Choice ps read
  pub only : (below : List Part) (u back : List Token) → (u ≡ [] → ⊥) → ended ys ≡ u ++ back
      → Starts Is Choice (ps ++ below) (read ++ u) → Starts Is Choice below u

pub record StopsAll (ps : List Part) (xs ys : List Token) : Type 0 where
  pub read : List Token
  pub split : xs ≡ read ++ ys
  pub begun : (below : List Part) → Starts Is Choice (ps ++ below) read
  pub bad : (t : Token) (back : List Token) → ended ys ≡ t ∷ back → (below : List Part) → Starts Is Choice (ps ++ below) (read ++ t ∷ []) → ⊥
