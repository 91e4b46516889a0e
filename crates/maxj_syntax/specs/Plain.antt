-- Which trees on the parser's stack are known to hold no number: those alone get another word.
use Rattle.std.specs.Prelude.{◌≡◌, Bool, true, false, ◌&&◌, List, [], ◌∷◌, ◌++◌, Option, Some, None, if◌then◌else◌}
use Rattle.maxj_tokens.specs.Faults.{HasNone, IsOutside}
use Rattle.maxj_tokens.specs.Scanning.{PlacedToken}
use Rattle.maxj_syntax.specs.declared.build.Builder.{Builder}
use Rattle.maxj_syntax.specs.declared.parser.Settled.{Settled}
use Rattle.maxj_syntax.specs.declared.parser.Settled.TheVariants as T
use Rattle.maxj_syntax.specs.declared.symbol.Effect.{Effect}
use Rattle.maxj_syntax.specs.declared.symbol.Effect.TheVariants.{Skip, Leaf, Push, Over, Text}
use Rattle.maxj_syntax.specs.declared.symbol.Action.{Action}
use Rattle.maxj_syntax.specs.declared.symbol.Action.TheVariants.{
  Begin,
  Wrap,
  Turn,
  Into,
  End,
  Inner,
  Named,
  Hole,
  Memory,
  Declare,
  Keep,
}
use Rattle.maxj_syntax.specs.declared.symbol.Rule.{Rule}
use Rattle.maxj_syntax.specs.declared.tree.NodeKind.{NodeKind}
use Rattle.maxj_syntax.specs.declared.tree.NodeKind.TheVariants as N
use Rattle.maxj_syntax.specs.Cells.{cells_of}
use Rattle.maxj_syntax.specs.Tree.{Tree, Node}
use Rattle.maxj_syntax.specs.Symbols.{Symbol, Mark, Name, Sub, Call, Act}
use Rattle.maxj_syntax.specs.Symbols as Y
use Rattle.maxj_syntax.specs.Ranges.{IsInRange, AreInRange}
use Rattle.maxj_syntax.specs.Steps.{Entry, Below, Ground, On, tree_of}
use Rattle.maxj_syntax.specs.Building.{Holds}

-- nodes of the kind hold no number
abbrev pub is_plain : NodeKind → Bool
is_plain N.Whole = false
is_plain N.Decimal = false
is_plain _ = true

-- What is known of the trees on the stack, the top first: whether each holds no number. Of those
-- past the end of the list nothing is known.
abbrev pub top : List Bool → Bool
top [] = false
top (f ∷ fs) = f

abbrev pub rest : List Bool → List Bool
rest [] = []
rest (f ∷ fs) = fs

-- it is known where it is wanted
abbrev pub knows : List Bool → List Bool → Bool
knows [] fs = true
knows (true ∷ ws) fs = top fs && knows ws (rest fs)
knows (false ∷ ws) fs = knows ws (rest fs)

-- the trees past as many as are wanted
abbrev pub past : List Bool → List Bool → List Bool
past [] fs = fs
past (w ∷ ws) fs = past ws (rest fs)

-- what a rule wants of the trees on top
abbrev pub wants : Rule → List Bool
wants Rule.File = []
wants Rule.Package = []
wants Rule.Path = []
wants Rule.MorePath = []
wants Rule.Imports = []
wants Rule.MaybeStatic = []
wants Rule.ImportMore = []
wants Rule.ImportDot = []
wants Rule.Classes = []
wants Rule.Class = []
wants Rule.Mods = []
wants Rule.MaybeFinal = []
wants Rule.Param = []
wants Rule.Expr = []
wants (Rule.Operand l) = []
wants Rule.Postfix = []
wants Rule.Simple = []
wants Rule.Other = []
wants Rule.TypeName = []
wants Rule.Init = []
wants Rule.Block = []
wants Rule.Stmt = []
wants Rule.Body = []
wants Rule.First = []
wants Rule.Test = []
wants Rule.Step = []
wants Rule.OtherOperand = []
wants Rule.NamelessOperand = []
wants (Rule.Opened m) = false ∷ false ∷ []
wants Rule.SuperRest = false ∷ false ∷ []
wants (Rule.DFEVarThen d) = false ∷ false ∷ []
wants (Rule.MemoryName d) = false ∷ false ∷ []
wants Rule.NewBase = true ∷ []
wants Rule.NewMemory = false ∷ true ∷ []
wants Rule.NewRest = false ∷ true ∷ []
wants Rule.NewStmt = true ∷ []
wants Rule.NewStmtMemory = false ∷ true ∷ []
wants Rule.NewStmtRest = false ∷ true ∷ []
wants _ = false ∷ []

-- what is known of the trees that it leaves in their place
abbrev pub gives : Rule → List Bool
gives Rule.File = []
gives Rule.Package = []
gives Rule.Path = []
gives Rule.MorePath = []
gives Rule.Imports = []
gives Rule.MaybeStatic = []
gives Rule.ImportMore = []
gives Rule.ImportDot = []
gives Rule.Classes = []
gives Rule.Class = []
gives Rule.Mods = []
gives Rule.MaybeFinal = []
gives _ = false ∷ []

-- the same of a rule that speaks of a name
abbrev pub named_wants : Y.Named → List Bool
named_wants Y.ClassName = true ∷ []
named_wants (Y.Parent w) = false ∷ []
named_wants (Y.Members i) = false ∷ []
named_wants (Y.Head i) = true ∷ false ∷ []
named_wants (Y.After i own memory) = false ∷ true ∷ false ∷ []
named_wants (Y.FirstParam m) = true ∷ false ∷ []

abbrev pub named_gives : Y.Named → List Bool
named_gives Y.ClassName = []
named_gives (Y.Parent w) = []
named_gives _ = false ∷ []

abbrev pub where_known : Bool → List Bool → Option (List Bool)
where_known b fs = if b then Some fs else None

-- what is known after a token, a step or a rule; none where it asks for more than is known before
abbrev pub after_token : Effect → List Bool → Option (List Bool)
after_token Skip fs = Some fs
after_token Leaf fs = Some (false ∷ fs)
after_token (Push k) fs = where_known (is_plain k) (false ∷ fs)
after_token (Over k) fs = where_known (is_plain k) (false ∷ rest fs)
after_token Text fs = where_known (top fs) fs

abbrev pub after_step : Action → List Bool → Option (List Bool)
after_step (Begin k) fs = where_known (is_plain k) (true ∷ fs)
after_step (Wrap k) fs = where_known (is_plain k) (false ∷ rest fs)
after_step (Turn k) fs = where_known (is_plain k) (false ∷ rest fs)
after_step Into fs = Some (rest fs)
after_step End fs = Some (false ∷ rest fs)
after_step Inner fs = Some (false ∷ rest (rest fs))
after_step Named fs = where_known (top (rest fs)) (rest fs)
after_step Hole fs = Some (false ∷ fs)
after_step Memory fs = Some (false ∷ rest fs)
after_step Declare fs = Some (false ∷ rest (rest fs))
after_step (Keep m) fs = Some (rest fs)

abbrev pub after_symbol : Symbol → List Bool → Option (List Bool)
after_symbol (Mark k e) fs = after_token e fs
after_symbol (Name w e) fs = after_token e fs
after_symbol (Sub r) fs = where_known (knows (wants r) fs) (gives r ++ past (wants r) fs)
after_symbol (Call n) fs =
    where_known (knows (named_wants n) fs) (named_gives n ++ past (named_wants n) fs)
after_symbol (Act a) fs = after_step a fs

abbrev pub after_known : Symbol → Option (List Bool) → Option (List Bool)
after_known p None = None
after_known p (Some fs) = after_symbol p fs

abbrev pub after_all : List Symbol → Option (List Bool) → Option (List Bool)
after_all [] o = o
after_all (p ∷ ps) o = after_all ps (after_known p o)

abbrev pub IsKnown : Option (List Bool) → Type 0
IsKnown None = ⊥
IsKnown (Some fs) = Unit {0}

-- a tree's number is in range, and there is none where that is said
abbrev pub IsKept : Bool → Tree → Type 0
IsKept f (Node k w s ts) = IsInRange k w × (f ≡ true → is_plain k ≡ true)

abbrev pub KnowNone : List Bool → Type 0
KnowNone [] = Unit {0}
KnowNone (f ∷ fs) = (f ≡ false) × KnowNone fs

-- it is so of all trees on the stack
abbrev pub AreKept : List Bool → Below → Type 0
AreKept fs (Ground cs) = KnowNone fs
AreKept fs (On e s) = IsKept (top fs) (tree_of e) × AreKept (rest fs) s

-- The parser is to read the symbols. Where no token is out of profile, the numbers of the nodes and
-- of the trees on the stack are in range, and each symbol gets the trees that it asks for.
abbrev pub Ranged : List PlacedToken → List Symbol → Builder → Type 0
Ranged tokens symbols builder =
    HasNone IsOutside tokens → (b : Entry) × (s : Below) × (fs : List Bool)
    × Holds tokens builder b s × IsKnown (after_all symbols (Some fs)) × AreKept fs (On b s)
    × AreInRange (cells_of tokens builder.nodes)

-- with what the stack begins: after is what stands below
abbrev pub SettlesRanged : Settled → List PlacedToken → List Symbol → Builder → Type 0
SettlesRanged (T.Token k e) tokens after builder = Ranged tokens (Mark k e ∷ after) builder
SettlesRanged (T.Name w e) tokens after builder = Ranged tokens (Name w.now e ∷ after) builder
SettlesRanged T.Empty tokens after builder = Ranged tokens [] builder
SettlesRanged T.Stuck tokens after builder = Unit {0}

-- the nodes stay in range where the tree on top is, and the builder then holds other trees
abbrev pub StaysInRange : Builder → Builder → Type 0
StaysInRange old new =
    (tokens : List PlacedToken) (b : Entry) (s : Below) → Holds tokens old b s
    → IsKept false (tree_of b) → AreInRange (cells_of tokens old.nodes) → AreInRange (cells_of tokens new.nodes)
