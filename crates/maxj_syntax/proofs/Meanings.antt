-- What the parser's steps of each rule mean: how they change the stack, and what of the source they read.
use Rattle.std.proofs.Common.{◌≡◌, ℕ, Bool, true, false, List, [], ◌∷◌, codes}
use Rattle.std.specs.Str.{bytes_eq}
use Rattle.maxj_syntax.specs.declared.level.Level.{Level}
use Rattle.maxj_syntax.specs.declared.tree.NodeKind.{NodeKind}
use Rattle.maxj_syntax.specs.declared.tree.NodeKind.TheVariants as N
use Rattle.maxj_syntax.specs.declared.symbol.Form.{Form}
use Rattle.maxj_syntax.specs.declared.symbol.Site.{Site}
use Rattle.maxj_syntax.specs.declared.symbol.Rule.{Rule}
use Rattle.maxj_tokens.specs.Tokens.{Token}
use Rattle.maxj_tokens.specs.Scanning.{PlacedToken, from_of}
use Rattle.maxj_syntax.specs.Tree.{Tree, Node, Trees, Nil, Cons, join, one, ClassTree}
use Rattle.maxj_syntax.specs.TokenClasses.{Accepts}
use Rattle.maxj_syntax.specs.Productions.{Part, is_name}
use Rattle.maxj_syntax.specs.Symbols.{Inside, Symbol, Mark, Name, Sub, Call, Act}
use Rattle.maxj_syntax.specs.Symbols as Y
use Rattle.maxj_syntax.specs.Moves.{is_own}
use Rattle.maxj_syntax.specs.Steps.{Entry, At, Below, Ground, On, between, no_span, fresh, add, spanned, tree_of, start_of, add_classes, memory_type, read_top, read_below, act_top, act_below}
use Rattle.maxj_syntax.proofs.Segments.{Seg}
use Rattle.maxj_syntax.specs.declared.symbol.ClassKind.{ClassKind}

-- what a rule does to the stack: a new tree on top, another tree on top, one in place of the two on top, one in place of the
-- three, nothing, classes at the ground, or the one on top goes there as a class
pub data Shape : Type 0 where
  Pushes : Shape
  Changes : Shape
  Pops : Shape
  Pops2 : Shape
  Same : Shape
  Closes : Shape
  Keeps : Shape

abbrev pub shape : Rule → Shape
shape Rule.File = Closes
shape Rule.Package = Same
shape Rule.Path = Same
shape Rule.MorePath = Same
shape Rule.Imports = Same
shape Rule.MaybeStatic = Same
shape Rule.ImportMore = Same
shape Rule.ImportDot = Same
shape Rule.Classes = Closes
shape Rule.Class = Closes
shape Rule.Mods = Same
shape Rule.MaybeFinal = Same
shape Rule.Param = Pushes
shape (Rule.Opened m) = Pops
shape Rule.SuperRest = Pops
shape Rule.Expr = Pushes
shape (Rule.Operand n) = Pushes
shape Rule.Postfix = Pushes
shape Rule.Simple = Pushes
shape Rule.Other = Pushes
shape Rule.TypeName = Pushes
shape Rule.Init = Pushes
shape Rule.Block = Pushes
shape Rule.Stmt = Pushes
shape Rule.Body = Pushes
shape Rule.First = Pushes
shape Rule.Test = Pushes
shape Rule.Step = Pushes
shape Rule.OtherOperand = Pushes
shape Rule.NamelessOperand = Pushes
shape Rule.NewMemory = Pops
shape Rule.NewRest = Pops
shape Rule.NewStmtMemory = Pops
shape Rule.NewStmtRest = Pops
shape (Rule.DFEVarThen d) = Pops
shape (Rule.MemoryName d) = Pops
shape _ = Changes

abbrev pub named_shape : Y.Named → Shape
named_shape Y.ClassName = Keeps
named_shape (Y.Parent w) = Keeps
named_shape (Y.Members i) = Changes
named_shape (Y.Head i) = Pops
named_shape (Y.After i o m) = Pops2
named_shape (Y.FirstParam m) = Pops

abbrev pub Value : Shape → Type 0
Value Same = Unit {0}
Value Closes = List ClassTree
Value Keeps = ClassTree
Value _ = Tree

abbrev pub top_of : (h : Shape) → Entry → Below → List PlacedToken → Value h → Entry
top_of Pushes b s xs v = At xs v
top_of Changes b s xs v = At (start_of b) v
top_of Pops b (Ground cs) xs v = At (start_of b) v
top_of Pops b (On c s) xs v = At (start_of c) v
top_of Pops2 b (On c (On d s)) xs v = At (start_of d) v
top_of Pops2 b (On c (Ground cs)) xs v = At (start_of c) v
top_of Pops2 b (Ground cs) xs v = At (start_of b) v
top_of Same b s xs v = b
top_of Closes b s xs v = b
top_of Keeps b (Ground cs) xs v = At (start_of b) v.tree
top_of Keeps b (On c s) xs v = c

abbrev pub below_of : (h : Shape) → Entry → Below → Value h → Below
below_of Pushes b s v = On b s
below_of Changes b s v = s
below_of Pops b (Ground cs) v = Ground cs
below_of Pops b (On c s) v = s
below_of Pops2 b (On c (On d s)) v = s
below_of Pops2 b (On c (Ground cs)) v = Ground cs
below_of Pops2 b (Ground cs) v = Ground cs
below_of Same b s v = s
below_of Closes b s v = add_classes s v
below_of Keeps b (Ground cs) v = Ground cs
below_of Keeps b (On c s) v = add_classes s (v ∷ [])

abbrev pub adds : Tree → Trees → Tree
adds t Nil = t
adds t (Cons u us) = adds (add t u) us

abbrev pub Reads : Part → List PlacedToken → List PlacedToken → Type 0
Reads p xs ys = Seg (p ∷ []) xs ys

-- the tree is a name that stands from x up to y
abbrev pub IsName : Tree → List PlacedToken → List PlacedToken → Type 0
IsName t x y = (w : List ℕ) × (t ≡ Node N.Name w (between x y) Nil) × Reads (Part.Id w) x y

-- the tree is begun by a name behind a dot
abbrev pub IsDotted : Tree → List PlacedToken → List PlacedToken → Type 0
IsDotted t x y = (w : List ℕ) × (a : Tree) × (t ≡ Node N.Dot w no_span (one a)) × Seg (Part.Postfix a ∷ Part.Sign_ (codes ".") ∷ Part.Id w ∷ []) x y

abbrev pub IsNew : Tree → List PlacedToken → List PlacedToken → Type 0
IsNew t x y = (t ≡ fresh N.New []) × Reads (Part.Word_ (codes "new")) x y

abbrev pub IsNewName : Entry → Entry → List PlacedToken → Type 0
IsNewName b c y = IsNew (tree_of c) (start_of c) (start_of b) × (w : List ℕ) × (tree_of b ≡ Node N.Plain w (between (start_of b) y) Nil) × Reads (Part.Id w) (start_of b) y

abbrev pub IsLocal : Tree → List PlacedToken → List PlacedToken → Type 0
IsLocal t x y = (w : List ℕ) × (a : Tree) × (t ≡ Node N.Local w no_span (one a)) × Seg (Part.Type_ a ∷ Part.Id w ∷ []) x y

abbrev pub IsFinalLocal : Tree → List PlacedToken → List PlacedToken → Type 0
IsFinalLocal t x y = (w : List ℕ) × (a : Tree) × (t ≡ Node N.Local w no_span (one a)) × Seg (Part.MaybeFinal ∷ Part.Type_ a ∷ Part.Id w ∷ []) x y

-- the tree is the name `Memory`, or `DFEVar`, that stands from x up to y
abbrev pub IsWordName : List ℕ → Tree → List PlacedToken → List PlacedToken → Type 0
IsWordName w t x y = (t ≡ Node N.Name w (between x y) Nil) × Reads (Part.Word_ w) x y

-- the tree is the type `Memory`, by itself
abbrev pub IsMemory : Tree → List PlacedToken → List PlacedToken → Type 0
IsMemory t x y = (t ≡ Node N.Plain (codes "Memory") (between x y) Nil) × Reads (Part.Word_ (codes "Memory")) x y

-- the tree is begun by `Memory <`
abbrev pub IsLess : Tree → List PlacedToken → List PlacedToken → Type 0
IsLess t x y = (a : Tree) × (m : List PlacedToken) × (t ≡ Node N.Binary (codes "<") no_span (one a)) × IsWordName (codes "Memory") a x m × Reads (Part.Sign_ (codes "<")) m y

-- the tree is begun by `Memory < DFEVar >`
abbrev pub IsGreater : Tree → List PlacedToken → List PlacedToken → Type 0
IsGreater t x y =
    (l : Tree) × (m : List PlacedToken) × (t ≡ Node N.Binary (codes ">") no_span (one l))
    × Reads (Part.Joined Level.Orders l) x m × Reads (Part.Sign_ (codes ">")) m y
    × Reads (Part.Base (memory_type x y)) x y

abbrev pub HeadPart : NodeKind → Tree → Part
HeadPart N.Method t = Part.Result t
HeadPart _ t = Part.Type_ t

-- the modifiers of a member
abbrev pub IsBegun : Tree → List PlacedToken → List PlacedToken → Type 0
IsBegun t x y = (t ≡ fresh N.Field []) × Reads Part.Mods x y

-- a member up to its name
abbrev pub IsHead : NodeKind → Tree → List PlacedToken → List PlacedToken → Type 0
IsHead k t x y = (w : List ℕ) × (a : Tree) × (t ≡ Node k w no_span (one a)) × Seg (Part.Mods ∷ HeadPart k a ∷ Part.Id w ∷ []) x y

abbrev pub handed_word : ClassKind → List ℕ
handed_word ClassKind.Kernel = codes "KernelParameters"
handed_word ClassKind.Manager = codes "EngineParameters"

-- the first parameter of a constructor, up to its name
abbrev pub IsHanded : ClassKind → Tree → List PlacedToken → List PlacedToken → Type 0
IsHanded m t x y = (a : Tree) × (t ≡ Node N.Param [] no_span (one a)) × Seg (Part.MaybeFinal ∷ Part.HandedType (handed_word m) a ∷ []) x y

-- and with its name
abbrev pub IsHandedBy : ClassKind → List ℕ → Tree → List PlacedToken → List PlacedToken → Type 0
IsHandedBy m p t x y = (a : Tree) × (t ≡ Node N.Param p no_span (one a)) × Seg (Part.MaybeFinal ∷ Part.HandedType (handed_word m) a ∷ Part.Id p ∷ []) x y

-- a constructor whose parameters begin at x
abbrev pub IsConstructed : ClassKind → Tree → Tree → List PlacedToken → List PlacedToken → List PlacedToken → Type 0
IsConstructed m t v z x y =
    (p : List ℕ) × (ps : Trees) × (b : Tree) × (v ≡ spanned (between z y) (adds t (join ps (one b)))) × Seg (Part.Opening m p ps ∷ Part.Sign_ (codes ")") ∷ Part.CtorBlock p b ∷ []) x y

abbrev pub FormPart : Form → Tree → Part
FormPart Form.Place t = Part.Place t
FormPart Form.Call t = Part.Call t
FormPart Form.Free t = Part.Open t
FormPart Form.Fresh t = Part.Array t

abbrev pub Target : Site → Tree → List PlacedToken → List PlacedToken → Type 0
Target Site.Alone v x y = Reads (Part.Stmt v) x y
Target Site.Loop v x y = (i : ℕ) → Reads (Part.First v i) x y

abbrev pub Mean : (r : Rule) → Entry → Below → List PlacedToken → Value (shape r) → List PlacedToken → Type 0
Mean Rule.File b s xs v ys = Reads (Part.File v) xs ys
Mean Rule.Package b s xs v ys = Reads Part.Package xs ys
Mean Rule.Path b s xs v ys = Reads Part.Path xs ys
Mean Rule.MorePath b s xs v ys = Reads Part.MorePath xs ys
Mean Rule.Imports b s xs v ys = Reads Part.Imports xs ys
Mean Rule.MaybeStatic b s xs v ys = Reads Part.MaybeStatic xs ys
Mean Rule.ImportMore b s xs v ys = Seg (Part.MorePath ∷ Part.MaybeAll ∷ []) xs ys
Mean Rule.ImportDot b s xs v ys = (x : List PlacedToken) → Reads (Part.Sign_ (codes ".")) x xs → Seg (Part.MorePath ∷ Part.MaybeAll ∷ []) x ys
Mean Rule.Classes b s xs v ys = Reads (Part.Classes v) xs ys
Mean Rule.Class b s xs v ys = (k : ClassTree) × (v ≡ k ∷ []) × Reads (Part.Class_ k) xs ys
Mean Rule.Mods b s xs v ys = Reads Part.Mods xs ys
Mean Rule.Declares b s xs v ys = IsHead N.Field (tree_of b) (start_of b) xs → Reads (Part.Member v) (start_of b) ys
Mean Rule.MethodRest b s xs v ys = IsHead N.Method (tree_of b) (start_of b) xs → Reads (Part.Member v) (start_of b) ys
Mean Rule.Params b s xs v ys = (ts : Trees) × (v ≡ adds (tree_of b) ts) × Reads (Part.MaybeParams ts) xs ys
Mean Rule.MoreParams b s xs v ys = (ts : Trees) × (v ≡ adds (tree_of b) ts) × Reads (Part.MoreParams ts) xs ys
Mean Rule.Param b s xs v ys = Reads (Part.Param v) xs ys
Mean Rule.MaybeFinal b s xs v ys = Reads Part.MaybeFinal xs ys
Mean (Rule.Opening m) b s xs v ys = IsConstructed m (tree_of b) v (start_of b) xs ys
Mean (Rule.Opened m) b (Ground cs) xs v ys = Unit {0}
Mean (Rule.Opened m) b (On c s) xs v ys = (p : List ℕ) → IsHandedBy m p (tree_of b) (start_of b) xs → (ps : Trees) × (v ≡ adds (tree_of c) ps) × Reads (Part.Opening m p ps) (start_of b) ys
Mean Rule.SuperRest b (Ground cs) xs v ys = Unit {0}
Mean Rule.SuperRest b (On c s) xs v ys =
    (p : List ℕ) → tree_of b ≡ fresh N.Block [] → Seg (Part.Sign_ (codes "{") ∷ Part.Word_ (codes "super") ∷ Part.Sign_ (codes "(") ∷ Part.Id p ∷ []) (start_of b) xs
    → (a : Tree) × (v ≡ spanned (between (start_of c) ys) (add (tree_of c) a)) × Reads (Part.CtorBlock p a) (start_of b) ys
Mean Rule.MemoryType b s xs v ys = IsMemory (tree_of b) (start_of b) xs → Reads (Part.Base v) (start_of b) ys
Mean Rule.NewMemory b (Ground cs) xs v ys = Unit {0}
Mean Rule.NewMemory b (On c s) xs v ys = IsNew (tree_of c) (start_of c) (start_of b) → IsMemory (tree_of b) (start_of b) xs → Reads (Part.Postfix v) (start_of c) ys
Mean Rule.NewStmtMemory b (Ground cs) xs v ys = Unit {0}
Mean Rule.NewStmtMemory b (On c s) xs v ys = IsNew (tree_of c) (start_of c) (start_of b) → IsMemory (tree_of b) (start_of b) xs → Reads (Part.Simple v) (start_of c) ys
Mean (Rule.MemoryThen d) b s xs v ys = IsWordName (codes "Memory") (tree_of b) (start_of b) xs → Target d v (start_of b) ys
Mean Rule.MemoryBare b s xs v ys = Reads (Part.Place (tree_of b)) (start_of b) xs → Reads (Part.Simple v) (start_of b) ys
Mean (Rule.LessThen d) b s xs v ys = IsLess (tree_of b) (start_of b) xs → Target d v (start_of b) ys
Mean (Rule.DFEVarThen d) b (Ground cs) xs v ys = Unit {0}
Mean (Rule.DFEVarThen d) b (On c s) xs v ys = IsLess (tree_of c) (start_of c) (start_of b) → IsWordName (codes "DFEVar") (tree_of b) (start_of b) xs → Target d v (start_of c) ys
Mean (Rule.GreaterThen d) b s xs v ys = IsGreater (tree_of b) (start_of b) xs → Target d v (start_of b) ys
Mean (Rule.MemoryName d) b (Ground cs) xs v ys = Unit {0}
Mean (Rule.MemoryName d) b (On c s) xs v ys = IsGreater (tree_of c) (start_of c) (start_of b) → IsName (tree_of b) (start_of b) xs → Target d v (start_of c) ys
Mean Rule.OtherOperand b s xs v ys = Reads (Part.Joined Level.Prefixes v) xs ys
Mean Rule.NamelessOperand b s xs v ys = Reads (Part.Joined Level.Prefixes v) xs ys
Mean Rule.Further b s xs v ys = IsName (tree_of b) (start_of b) xs → Reads (Part.Postfix v) (start_of b) ys
Mean Rule.Tighter b s xs v ys = Reads (Part.Joined Level.Prefixes (tree_of b)) (start_of b) xs → Reads (Part.Joined Level.Shifts v) (start_of b) ys
Mean Rule.Expr b s xs v ys = Reads (Part.Expr v) xs ys
Mean Rule.CondTail b s xs v ys = Reads (Part.Joined Level.Ors (tree_of b)) (start_of b) xs → Reads (Part.Expr v) (start_of b) ys
Mean (Rule.Operand l) b s xs v ys = Reads (Part.Joined l v) xs ys
Mean (Rule.Tail l) b s xs v ys = Reads (Part.Joined l (tree_of b)) (start_of b) xs → Reads (Part.Joined l v) (start_of b) ys
Mean Rule.Postfix b s xs v ys = Reads (Part.Postfix v) xs ys
Mean Rule.Called b s xs v ys = IsName (tree_of b) (start_of b) xs → Reads (Part.Open v) (start_of b) ys
Mean Rule.Args b s xs v ys = (ts : Trees) × (v ≡ adds (tree_of b) ts) × Reads (Part.Args ts) xs ys
Mean Rule.MoreArgs b s xs v ys = (ts : Trees) × (v ≡ adds (tree_of b) ts) × Reads (Part.MoreArgs ts) xs ys
Mean Rule.Post b s xs v ys = Reads (Part.Open (tree_of b)) (start_of b) xs → Reads (Part.Postfix v) (start_of b) ys
Mean Rule.Dotted b s xs v ys = IsDotted (tree_of b) (start_of b) xs → Reads (Part.Open v) (start_of b) ys
Mean Rule.NewBase b s xs v ys = IsNew (tree_of b) (start_of b) xs → Reads (Part.Postfix v) (start_of b) ys
Mean Rule.NewRest b (Ground cs) xs v ys = Unit {0}
Mean Rule.NewRest b (On c s) xs v ys = IsNewName b c xs → Reads (Part.Postfix v) (start_of c) ys
Mean Rule.FreshTail b s xs v ys = Reads (Part.Array (tree_of b)) (start_of b) xs → Reads (Part.Postfix v) (start_of b) ys
Mean Rule.Sizes b s xs v ys = (ts : Trees) × (v ≡ adds (tree_of b) ts) × Reads (Part.Sizes ts) xs ys
Mean Rule.MoreSizes b s xs v ys = (ts : Trees) × (v ≡ adds (tree_of b) ts) × Reads (Part.MoreSizes ts) xs ys
Mean Rule.Simple b s xs v ys = Reads (Part.Simple v) xs ys
Mean Rule.NameRest b s xs v ys = IsName (tree_of b) (start_of b) xs → Reads (Part.Simple v) (start_of b) ys
Mean Rule.Other b s xs v ys = Reads (Part.Simple v) xs ys
Mean Rule.NewStmt b s xs v ys = IsNew (tree_of b) (start_of b) xs → Reads (Part.Simple v) (start_of b) ys
Mean Rule.NewStmtRest b (Ground cs) xs v ys = Unit {0}
Mean Rule.NewStmtRest b (On c s) xs v ys = IsNewName b c xs → Reads (Part.Simple v) (start_of c) ys
Mean (Rule.Rest f) b s xs v ys = Reads (FormPart f (tree_of b)) (start_of b) xs → Reads (Part.Simple v) (start_of b) ys
Mean Rule.Bare b s xs v ys = Reads (Part.Place (tree_of b)) (start_of b) xs → Reads (Part.Simple v) (start_of b) ys
Mean Rule.DottedRest b s xs v ys = IsDotted (tree_of b) (start_of b) xs → Reads (Part.Simple v) (start_of b) ys
Mean Rule.TypeName b s xs v ys = Reads (Part.Type_ v) xs ys
Mean Rule.Dims b s xs v ys = Reads (Part.Type_ (tree_of b)) (start_of b) xs → Reads (Part.Type_ v) (start_of b) ys
Mean Rule.Init b s xs v ys = Reads (Part.Init v) xs ys
Mean Rule.Inits b s xs v ys = (ts : Trees) × (v ≡ adds (tree_of b) ts) × Reads (Part.Inits ts) xs ys
Mean Rule.MoreInits b s xs v ys = (ts : Trees) × (v ≡ adds (tree_of b) ts) × Reads (Part.MoreInits ts) xs ys
Mean Rule.Block b s xs v ys = Reads (Part.Block v) xs ys
Mean Rule.Stmts b s xs v ys = (ts : Trees) × (v ≡ adds (tree_of b) ts) × Reads (Part.Stmts ts) xs ys
Mean Rule.Stmt b s xs v ys = Reads (Part.Stmt v) xs ys
Mean (Rule.NameThen d) b s xs v ys = IsName (tree_of b) (start_of b) xs → Target d v (start_of b) ys
Mean (Rule.BracketThen d) b s xs v ys = (m : List PlacedToken) → IsName (tree_of b) (start_of b) m → Reads (Part.Sign_ (codes "[")) m xs → Target d v (start_of b) ys
Mean (Rule.Declared Site.Alone) b s xs v ys = IsFinalLocal (tree_of b) (start_of b) xs → Reads (Part.Stmt v) (start_of b) ys
Mean (Rule.Declared Site.Loop) b s xs v ys = IsLocal (tree_of b) (start_of b) xs → (i : ℕ) → Reads (Part.First v i) (start_of b) ys
Mean Rule.ReturnRest b s xs v ys = tree_of b ≡ fresh N.Return [] → Reads (Part.Word_ (codes "return")) (start_of b) xs → Reads (Part.Returning v) (start_of b) ys
Mean Rule.ElseTail b s xs v ys = (ts us : Trees) × (v ≡ adds (adds (tree_of b) ts) us) × Seg (Part.ElseIfs ts ∷ Part.MaybeElse us ∷ []) xs ys
Mean Rule.ElseRest b s xs v ys = (x : List PlacedToken) → Reads (Part.Word_ (codes "else")) x xs
    → (ts us : Trees) × (v ≡ adds (adds (tree_of b) ts) us)
    × Seg (Part.ElseIfs ts ∷ Part.MaybeElse us ∷ []) x ys
Mean Rule.Body b s xs v ys = Reads (Part.Body v) xs ys
Mean Rule.First b s xs v ys = (i : ℕ) → from_of ys ≡ i → Reads (Part.First v i) xs ys
Mean Rule.Test b s xs v ys = (i : ℕ) → from_of ys ≡ i → Reads (Part.Test v i) xs ys
Mean Rule.Step b s xs v ys = (i : ℕ) → from_of ys ≡ i → Reads (Part.Step v i) xs ys

abbrev pub NamedMean : (n : Y.Named) → Entry → Below → List PlacedToken → Value (named_shape n) → List PlacedToken → Type 0
NamedMean Y.ClassName b s xs k ys = tree_of b ≡ fresh N.Class [] → Seg (Part.Mods ∷ Part.Word_ (codes "class") ∷ []) (start_of b) xs → Reads (Part.Class_ k) (start_of b) ys
NamedMean (Y.Parent w) b s xs k ys =
    tree_of b ≡ fresh N.Class w → Seg (Part.Mods ∷ Part.Word_ (codes "class") ∷ Part.Id w ∷ Part.Word_ (codes "extends") ∷ []) (start_of b) xs → Reads (Part.Class_ k) (start_of b) ys
NamedMean (Y.Members i) b s xs v ys = (ts : Trees) × (v ≡ adds (tree_of b) ts) × Reads (Part.Members i.kind i.class i.unmade ts) xs ys
NamedMean (Y.Head i) b (Ground cs) xs v ys = Unit {0}
NamedMean (Y.Head i) b (On c s) xs v ys = IsBegun (tree_of b) (start_of b) xs → (ts : Trees) × (v ≡ adds (tree_of c) ts) × Reads (Part.Members i.kind i.class i.unmade ts) (start_of b) ys
NamedMean (Y.After i o m) b (On c (On d s)) xs v ys =
    IsBegun (tree_of c) (start_of c) (start_of b) → (w : List ℕ)
    → tree_of b ≡ Node N.Plain w (between (start_of b) xs) Nil
    → Reads (Part.Id w) (start_of b) xs → o ≡ is_own i w → m ≡ bytes_eq w (codes "Memory")
    → (ts : Trees) × (v ≡ adds (tree_of d) ts) × Reads (Part.Members i.kind i.class i.unmade ts) (start_of c) ys
NamedMean (Y.After i o m) b (On c (Ground cs)) xs v ys = Unit {0}
NamedMean (Y.After i o m) b (Ground cs) xs v ys = Unit {0}
NamedMean (Y.FirstParam m) b (Ground cs) xs v ys = Unit {0}
NamedMean (Y.FirstParam m) b (On c s) xs v ys = IsHanded m (tree_of b) (start_of b) xs → IsConstructed m (tree_of c) v (start_of c) (start_of b) ys

-- whatever the symbols do, K holds of what they leave
abbrev pub Follows : List Symbol → Entry → Below → List PlacedToken → (Entry → Below → List PlacedToken → Type 0) → Type 0
Follows [] b s xs Q = Q b s xs
Follows (Mark k e ∷ ps) b s xs Q = (t : PlacedToken) (m : List PlacedToken) → xs ≡ t ∷ m → Accepts k t.token → Follows ps (read_top e t.token xs m b) (read_below e b s) m Q
Follows (Name w e ∷ ps) b s xs Q = (t : PlacedToken) (m : List PlacedToken) → xs ≡ t ∷ m → (t.token ≡ Token.Word w) × (is_name w ≡ true) → Follows ps (read_top e t.token xs m b) (read_below e b s) m Q
Follows (Act a ∷ ps) b s xs Q = Follows ps (act_top a xs b s) (act_below a b s) xs Q
Follows (Sub r ∷ ps) b s xs Q = (v : Value (shape r)) (m : List PlacedToken) → Mean r b s xs v m → Follows ps (top_of (shape r) b s xs v) (below_of (shape r) b s v) m Q
Follows (Call n ∷ ps) b s xs Q = (v : Value (named_shape n)) (m : List PlacedToken) → NamedMean n b s xs v m → Follows ps (top_of (named_shape n) b s xs v) (below_of (named_shape n) b s v) m Q

abbrev pub Result : Rule → Entry → Below → List PlacedToken → Entry → Below → List PlacedToken → Type 0
Result r b s xs c q ys = (v : Value (shape r)) × (c ≡ top_of (shape r) b s xs v) × (q ≡ below_of (shape r) b s v) × Mean r b s xs v ys

abbrev pub NamedResult : Y.Named → Entry → Below → List PlacedToken → Entry → Below → List PlacedToken → Type 0
NamedResult n b s xs c q ys = (v : Value (named_shape n)) × (c ≡ top_of (named_shape n) b s xs v) × (q ≡ below_of (named_shape n) b s v) × NamedMean n b s xs v ys
