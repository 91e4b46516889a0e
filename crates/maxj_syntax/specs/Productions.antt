-- The productions of a source. A part carries the tree that it is read as.
use Rattle.std.specs.Prelude.{◌≡◌, ℕ, Bool, true, false, not, ◌&&◌, List, [], ◌∷◌, codes}
use Rattle.mx_base.specs.declared.span.Span.{Span}
use Rattle.maxj_syntax.specs.declared.level.Level.{Level}
use Rattle.maxj_syntax.specs.declared.tree.NodeKind.{NodeKind}
use Rattle.maxj_syntax.specs.declared.tree.NodeKind.TheVariants as N
use Rattle.maxj_tokens.specs.Tokens.{Token, is_word, is_among}
use Rattle.maxj_tokens.specs.Scanning.{PlacedToken, span_of}
use Rattle.maxj_syntax.specs.Tree.{Tree, Node, Trees, Nil, Cons, join, one, two, ClassTree}
use Rattle.maxj_syntax.specs.Derivation.{Derives}
use Rattle.maxj_syntax.specs.declared.symbol.ClassKind.{ClassKind}

-- the words that are no names
abbrev pub reserved_words : List (List ℕ)
reserved_words =
    codes "package" ∷ codes "import" ∷ codes "static" ∷ codes "public" ∷ codes "private"
    ∷ codes "protected" ∷ codes "final" ∷ codes "class" ∷ codes "extends" ∷ codes "void"
    ∷ codes "return" ∷ codes "if" ∷ codes "else" ∷ codes "while" ∷ codes "for" ∷ codes "new"
    ∷ codes "this" ∷ codes "true" ∷ codes "false" ∷ codes "int" ∷ codes "boolean"
    ∷ codes "super" ∷ []

abbrev pub is_name : List ℕ → Bool
is_name word = is_word word && not (is_among word reserved_words)

abbrev pub modifiers : List (List ℕ)
modifiers = codes "public" ∷ codes "private" ∷ codes "protected" ∷ codes "static" ∷ codes "final" ∷ []

-- the words that are a type and no names
abbrev pub type_words : List (List ℕ)
type_words = codes "int" ∷ codes "boolean" ∷ []

-- the words that are an expression and no names
abbrev pub value_words : List (List ℕ)
value_words = codes "this" ∷ codes "true" ∷ codes "false" ∷ []

abbrev pub assigning_signs : List (List ℕ)
assigning_signs = codes "=" ∷ codes "+=" ∷ codes "-=" ∷ codes "*=" ∷ []

abbrev pub counting_signs : List (List ℕ)
counting_signs = codes "++" ∷ codes "--" ∷ []

-- the prefixes, and the signs that join operands of each other level
abbrev pub signs_of : Level → List (List ℕ)
signs_of Level.Prefixes = codes "-" ∷ codes "~" ∷ codes "!" ∷ []
signs_of Level.Products = codes "*" ∷ codes "/" ∷ codes "%" ∷ []
signs_of Level.Sums = codes "+" ∷ codes "-" ∷ []
signs_of Level.Shifts = codes "<<" ∷ codes ">>" ∷ []
signs_of Level.Orders = codes "<" ∷ codes "<=" ∷ codes ">" ∷ codes ">=" ∷ []
signs_of Level.Equalities = codes "===" ∷ codes "!==" ∷ codes "==" ∷ codes "!=" ∷ []
signs_of Level.BitAnds = codes "&" ∷ []
signs_of Level.BitXors = codes "^" ∷ []
signs_of Level.BitOrs = codes "|" ∷ []
signs_of Level.Ands = codes "&&" ∷ []
signs_of Level.Ors = codes "||" ∷ []

-- a level, and the next one
pub data Above : Level → Level → Type 0 where
  products : Above Level.Prefixes Level.Products
  sums : Above Level.Products Level.Sums
  shifts : Above Level.Sums Level.Shifts
  orders : Above Level.Shifts Level.Orders
  equalities : Above Level.Orders Level.Equalities
  bit_ands : Above Level.Equalities Level.BitAnds
  bit_xors : Above Level.BitAnds Level.BitXors
  bit_ors : Above Level.BitXors Level.BitOrs
  ands : Above Level.BitOrs Level.Ands
  ors : Above Level.Ands Level.Ors

pub data Part : Type 0 where
  -- tokens
  Sign_ : List ℕ → Part  -- this sign
  SignAt : List ℕ → ℕ → Part  -- this sign, at this place
  SignOf : List (List ℕ) → List ℕ → Part  -- this sign, which is one of the list
  Word_ : List ℕ → Part  -- this word
  WordOf : List (List ℕ) → List ℕ → Part  -- this word, which is one of the list
  Id : List ℕ → Part  -- this name
  Literal : NodeKind → List ℕ → Part  -- an integer, a decimal or a string, written so
  -- files and classes
  File : List ClassTree → Part
  Package : Part
  Imports : Part
  Import : Part
  MaybeStatic : Part
  Path : Part
  MorePath : Part
  MaybeAll : Part
  Classes : List ClassTree → Part
  Class_ : ClassTree → Part
  Mods : Part
  Members : ClassKind → List ℕ → Bool → Trees → Part  -- of a manager or a kernel, its name, and whether the constructor is among them
  Member : Tree → Part
  Ctor : ClassKind → List ℕ → Tree → Part
  Opening : ClassKind → List ℕ → Trees → Part  -- the parameters of a constructor, and the name of the first one
  Handed : List ℕ → List ℕ → Tree → Part  -- the first parameter of a constructor: its type, and its name
  HandedType : List ℕ → Tree → Part  -- this word as a type
  CtorBlock : List ℕ → Tree → Part  -- the block whose `super` statement has this name
  Result : Tree → Part
  MaybeParams : Trees → Part
  MoreParams : Trees → Part
  Param : Tree → Part
  MaybeFinal : Part
  -- types
  Type_ : Tree → Part
  Base : Tree → Part
  -- statements
  Block : Tree → Part
  Stmts : Trees → Part
  Stmt : Tree → Part
  Body : Tree → Part
  Returning : Tree → Part
  ElseIfs : Trees → Part
  MaybeElse : Trees → Part
  First : Tree → ℕ → Part  -- the parts of a for; the number is the place of the next token
  Test : Tree → ℕ → Part
  Step : Tree → ℕ → Part
  Simple : Tree → Part
  Place : Tree → Part
  MaybeInit : Trees → Part
  Init : Tree → Part
  Inits : Trees → Part
  MoreInits : Trees → Part
  -- expressions
  Expr : Tree → Part
  Joined : Level → Tree → Part  -- operands joined by signs of the level and the tighter ones
  Postfix : Tree → Part
  Open : Tree → Part  -- a postfix form but an array that was just made
  Array : Tree → Part  -- an array that was just made
  Call : Tree → Part
  Args : Trees → Part
  MoreArgs : Trees → Part
  Sizes : Trees → Part
  MoreSizes : Trees → Part

-- the token that a literal is
abbrev pub IsLiteral : NodeKind → List ℕ → Token → Type 0
IsLiteral N.Whole w t = t ≡ Token.Whole w
IsLiteral N.Decimal w t = t ≡ Token.Decimal w
IsLiteral N.Str w t = t ≡ Token.Str w
IsLiteral _ w t = ⊥

abbrev pub Is : Part → PlacedToken → Type 0
Is (Sign_ s) t = t.token ≡ Token.Sign s
Is (SignAt s n) t = (t.token ≡ Token.Sign s) × (t.place ≡ n)
Is (SignOf ss s) t = (t.token ≡ Token.Sign s) × (is_among s ss ≡ true)
Is (Word_ w) t = t.token ≡ Token.Word w
Is (WordOf ws w) t = (t.token ≡ Token.Word w) × (is_among w ws ≡ true)
Is (Id w) t = (t.token ≡ Token.Word w) × (is_name w ≡ true)
Is (Literal k w) t = IsLiteral k w t.token
Is _ t = ⊥

-- an absent part of a for, before the token at this place
abbrev pub absent : ℕ → Tree
absent n = Node N.Empty [] (record { from = n; to = n }) Nil

-- the word behind `extends`
abbrev pub parent : ClassKind → List ℕ
parent ClassKind.Manager = codes "CustomManager"
parent ClassKind.Kernel = codes "Kernel"

abbrev pub is_manager : ClassKind → Bool
is_manager ClassKind.Manager = true
is_manager ClassKind.Kernel = false

pub data Choice (at : Span) : Part → List Part → Type 0 where
  -- files
  file : {c : ClassTree} {cs : List ClassTree} → Choice at (File (c ∷ cs)) (Package ∷ Imports ∷ Class_ c ∷ Classes cs ∷ [])
  no_package : Choice at Package []
  package_line : Choice at Package (Word_ (codes "package") ∷ Path ∷ Sign_ (codes ";") ∷ [])
  no_imports : Choice at Imports []
  imports : Choice at Imports (Import ∷ Imports ∷ [])
  import_line : Choice at Import (Word_ (codes "import") ∷ MaybeStatic ∷ Path ∷ MaybeAll ∷ Sign_ (codes ";") ∷ [])
  no_static : Choice at MaybeStatic []
  static_import : Choice at MaybeStatic (Word_ (codes "static") ∷ [])
  path : {w : List ℕ} → Choice at Path (Id w ∷ MorePath ∷ [])
  no_more_path : Choice at MorePath []
  more_path : {w : List ℕ} → Choice at MorePath (Sign_ (codes ".") ∷ Id w ∷ MorePath ∷ [])
  not_all : Choice at MaybeAll []
  all : Choice at MaybeAll (Sign_ (codes ".") ∷ Sign_ (codes "*") ∷ [])
  no_classes : Choice at (Classes []) []
  more_classes : {c : ClassTree} {cs : List ClassTree} → Choice at (Classes (c ∷ cs)) (Class_ c ∷ Classes cs ∷ [])
  -- classes
  one_class : {name : List ℕ} {kind : ClassKind} {ts : Trees}
      → Choice at (Class_ (record { name = name; manager = is_manager kind; tree = Node N.Class name at ts }))
      (Mods ∷ Word_ (codes "class") ∷ Id name ∷ Word_ (codes "extends") ∷ Word_ (parent kind)
      ∷ Sign_ (codes "{") ∷ Members kind name true ts ∷ Sign_ (codes "}") ∷ [])
  no_mods : Choice at Mods []
  mods : {w : List ℕ} → Choice at Mods (WordOf modifiers w ∷ Mods ∷ [])
  no_members : {kind : ClassKind} {name : List ℕ} → Choice at (Members kind name false Nil) []
  member : {kind : ClassKind} {some : Bool} {name : List ℕ} {a : Tree} {ts : Trees}
      → Choice at (Members kind name some (Cons a ts)) (Member a
      ∷ Members kind name some ts ∷ [])
  the_ctor : {kind : ClassKind} {name : List ℕ} {a : Tree} {ts : Trees}
      → Choice at (Members kind name true (Cons a ts)) (Ctor kind name a
      ∷ Members kind name false ts ∷ [])
  field : {w : List ℕ} {t : Tree} {ts : Trees}
      → Choice at (Member (Node N.Field w at (Cons t ts))) (Mods ∷ Type_ t ∷ Id w ∷ MaybeInit ts
      ∷ Sign_ (codes ";") ∷ [])
  method : {w : List ℕ} {r b : Tree} {ps : Trees}
      → Choice at (Member (Node N.Method w at (Cons r (join ps (one b))))) (Mods ∷ Result r
      ∷ Id w ∷ Sign_ (codes "(") ∷ MaybeParams ps ∷ Sign_ (codes ")") ∷ Block b ∷ [])
  -- constructors
  ctor : {kind : ClassKind} {name p : List ℕ} {ps : Trees} {b : Tree}
      → Choice at (Ctor kind name (Node N.Ctor name at (join ps (one b)))) (Mods ∷ Id name
      ∷ Sign_ (codes "(") ∷ Opening kind p ps ∷ Sign_ (codes ")") ∷ CtorBlock p b ∷ [])
  kernel_opening : {p : List ℕ} {a : Tree} {ps : Trees}
      → Choice at (Opening ClassKind.Kernel p (Cons a ps))
      (Handed (codes "KernelParameters") p a ∷ MoreParams ps ∷ [])
  manager_opening : {p : List ℕ} {a : Tree} → Choice at (Opening ClassKind.Manager p (one a)) (Handed (codes "EngineParameters") p a ∷ [])
  handed : {w p : List ℕ} {t : Tree} → Choice at (Handed w p (Node N.Param p at (one t))) (MaybeFinal ∷ HandedType w t ∷ Id p ∷ [])
  handed_type : {w : List ℕ} → Choice at (HandedType w (Node N.Plain w at Nil)) (Word_ w ∷ [])
  ctor_block : {p : List ℕ} {ts : Trees}
      → Choice at (CtorBlock p (Node N.Block [] at ts)) (Sign_ (codes "{")
      ∷ Word_ (codes "super") ∷ Sign_ (codes "(") ∷ Id p ∷ Sign_ (codes ")")
      ∷ Sign_ (codes ";") ∷ Stmts ts ∷ Sign_ (codes "}") ∷ [])
  -- parameters and types
  void_result : Choice at (Result (Node N.Plain (codes "void") at Nil)) (Word_ (codes "void") ∷ [])
  type_result : {t : Tree} → Choice at (Result t) (Type_ t ∷ [])
  no_params : Choice at (MaybeParams Nil) []
  params : {a : Tree} {ps : Trees} → Choice at (MaybeParams (Cons a ps)) (Param a ∷ MoreParams ps ∷ [])
  no_more_params : Choice at (MoreParams Nil) []
  more_params : {a : Tree} {ps : Trees} → Choice at (MoreParams (Cons a ps)) (Sign_ (codes ",") ∷ Param a ∷ MoreParams ps ∷ [])
  param : {w : List ℕ} {t : Tree} → Choice at (Param (Node N.Param w at (one t))) (MaybeFinal ∷ Type_ t ∷ Id w ∷ [])
  not_final : Choice at MaybeFinal []
  final : Choice at MaybeFinal (Word_ (codes "final") ∷ [])
  just_base : {t : Tree} → Choice at (Type_ t) (Base t ∷ [])
  array_of : {t : Tree} → Choice at (Type_ (Node N.ArrayOf [] at (one t))) (Type_ t ∷ Sign_ (codes "[") ∷ Sign_ (codes "]") ∷ [])
  base_word : {w : List ℕ} → Choice at (Base (Node N.Plain w at Nil)) (WordOf type_words w ∷ [])
  base_name : {w : List ℕ} → Choice at (Base (Node N.Plain w at Nil)) (Id w ∷ [])
  base_memory : Choice at (Base (Node N.Plain (codes "Memory") at Nil)) (Word_ (codes "Memory")
      ∷ Sign_ (codes "<") ∷ Word_ (codes "DFEVar") ∷ Sign_ (codes ">") ∷ [])
  -- statements
  block : {ts : Trees} → Choice at (Block (Node N.Block [] at ts)) (Sign_ (codes "{") ∷ Stmts ts ∷ Sign_ (codes "}") ∷ [])
  no_stmts : Choice at (Stmts Nil) []
  stmts : {a : Tree} {ts : Trees} → Choice at (Stmts (Cons a ts)) (Stmt a ∷ Stmts ts ∷ [])
  block_stmt : {a : Tree} → Choice at (Stmt a) (Block a ∷ [])
  local : {w : List ℕ} {t : Tree} {ts : Trees}
      → Choice at (Stmt (Node N.Local w at (Cons t ts))) (MaybeFinal ∷ Type_ t ∷ Id w
      ∷ MaybeInit ts ∷ Sign_ (codes ";") ∷ [])
  simple_stmt : {a : Tree} → Choice at (Stmt a) (Simple a ∷ Sign_ (codes ";") ∷ [])
  return_stmt : {a : Tree} → Choice at (Stmt a) (Returning a ∷ [])
  if_stmt : {c b : Tree} {ts us : Trees}
      → Choice at (Stmt (Node N.If [] at (Cons c (Cons b (join ts us))))) (Word_ (codes "if")
      ∷ Sign_ (codes "(") ∷ Expr c ∷ Sign_ (codes ")") ∷ Body b ∷ ElseIfs ts ∷ MaybeElse us
      ∷ [])
  while_stmt : {c b : Tree} → Choice at (Stmt (Node N.While [] at (two c b)))
      (Word_ (codes "while") ∷ Sign_ (codes "(") ∷ Expr c ∷ Sign_ (codes ")") ∷ Body b ∷ [])
  for_stmt : {f c s b : Tree} {i j k : ℕ}
      → Choice at (Stmt (Node N.For [] at (Cons f (Cons c (two s b)))))
      (Word_ (codes "for") ∷ Sign_ (codes "(") ∷ First f i ∷ SignAt (codes ";") i ∷ Test c j
      ∷ SignAt (codes ";") j ∷ Step s k ∷ SignAt (codes ")") k ∷ Body b ∷ [])
  empty_stmt : Choice at (Stmt (Node N.Empty [] at Nil)) (Sign_ (codes ";") ∷ [])
  body_block : {a : Tree} → Choice at (Body a) (Block a ∷ [])
  body_simple : {a : Tree} → Choice at (Body a) (Simple a ∷ Sign_ (codes ";") ∷ [])
  body_return : {a : Tree} → Choice at (Body a) (Returning a ∷ [])
  return_nothing : Choice at (Returning (Node N.Return [] at Nil)) (Word_ (codes "return") ∷ Sign_ (codes ";") ∷ [])
  return_value : {a : Tree} → Choice at (Returning (Node N.Return [] at (one a))) (Word_ (codes "return") ∷ Expr a ∷ Sign_ (codes ";") ∷ [])
  no_else_if : Choice at (ElseIfs Nil) []
  else_if : {c b : Tree} {ts : Trees}
      → Choice at (ElseIfs (Cons c (Cons b ts))) (Word_ (codes "else") ∷ Word_ (codes "if")
      ∷ Sign_ (codes "(") ∷ Expr c ∷ Sign_ (codes ")") ∷ Body b ∷ ElseIfs ts ∷ [])
  no_else : Choice at (MaybeElse Nil) []
  otherwise : {b : Tree} → Choice at (MaybeElse (one b)) (Word_ (codes "else") ∷ Body b ∷ [])
  no_first : {n : ℕ} → Choice at (First (absent n) n) []
  first_local : {w : List ℕ} {t a : Tree} {n : ℕ} → Choice at (First (Node N.Local w at (two t a)) n) (Type_ t ∷ Id w ∷ Sign_ (codes "=") ∷ Expr a ∷ [])
  first_simple : {a : Tree} {n : ℕ} → Choice at (First a n) (Simple a ∷ [])
  no_test : {n : ℕ} → Choice at (Test (absent n) n) []
  test : {a : Tree} {n : ℕ} → Choice at (Test a n) (Expr a ∷ [])
  no_step : {n : ℕ} → Choice at (Step (absent n) n) []
  step : {a : Tree} {n : ℕ} → Choice at (Step a n) (Simple a ∷ [])
  set : {s : List ℕ} {a b : Tree} → Choice at (Simple (Node N.Set s at (two a b))) (Place a ∷ SignOf assigning_signs s ∷ Expr b ∷ [])
  count : {s : List ℕ} {a : Tree} → Choice at (Simple (Node N.Set s at (one a))) (Place a ∷ SignOf counting_signs s ∷ [])
  connect : {a b : Tree} → Choice at (Simple (Node N.Connect [] at (two a b))) (Expr a ∷ Sign_ (codes "<==") ∷ Expr b ∷ [])
  run : {a : Tree} → Choice at (Simple (Node N.Run [] at (one a))) (Call a ∷ [])
  place_name : {w : List ℕ} → Choice at (Place (Node N.Name w at Nil)) (Id w ∷ [])
  place_index : {a b : Tree} → Choice at (Place (Node N.Index [] at (two a b))) (Place a ∷ Sign_ (codes "[") ∷ Expr b ∷ Sign_ (codes "]") ∷ [])
  no_init : Choice at (MaybeInit Nil) []
  some_init : {a : Tree} → Choice at (MaybeInit (one a)) (Sign_ (codes "=") ∷ Init a ∷ [])
  init_expr : {a : Tree} → Choice at (Init a) (Expr a ∷ [])
  init_braces : {ts : Trees} → Choice at (Init (Node N.Braces [] at ts)) (Sign_ (codes "{") ∷ Inits ts ∷ Sign_ (codes "}") ∷ [])
  no_inits : Choice at (Inits Nil) []
  inits : {a : Tree} {ts : Trees} → Choice at (Inits (Cons a ts)) (Init a ∷ MoreInits ts ∷ [])
  no_more_inits : Choice at (MoreInits Nil) []
  more_inits : {a : Tree} {ts : Trees} → Choice at (MoreInits (Cons a ts)) (Sign_ (codes ",") ∷ Init a ∷ MoreInits ts ∷ [])
  -- expressions
  no_cond : {a : Tree} → Choice at (Expr a) (Joined Level.Ors a ∷ [])
  cond : {c a b : Tree} → Choice at (Expr (Node N.Cond [] at (Cons c (two a b))))
      (Joined Level.Ors c ∷ Sign_ (codes "?") ∷ Expr a ∷ Sign_ (codes ":") ∷ Expr b ∷ [])
  tighter : {l k : Level} {a : Tree} → Above l k → Choice at (Joined k a) (Joined l a ∷ [])
  joined : {l k : Level} {s : List ℕ} {a b : Tree} → Above l k
      → Choice at (Joined k (Node N.Binary s at (two a b))) (Joined k a ∷ SignOf (signs_of k) s
      ∷ Joined l b ∷ [])
  no_prefix : {a : Tree} → Choice at (Joined Level.Prefixes a) (Postfix a ∷ [])
  prefix : {s : List ℕ} {a : Tree}
      → Choice at (Joined Level.Prefixes (Node N.Prefix s at (one a)))
      (SignOf (signs_of Level.Prefixes) s ∷ Joined Level.Prefixes a ∷ [])
  open_form : {a : Tree} → Choice at (Postfix a) (Open a ∷ [])
  array_form : {a : Tree} → Choice at (Postfix a) (Array a ∷ [])
  literal : {k : NodeKind} {w : List ℕ} → Choice at (Open (Node k w at Nil)) (Literal k w ∷ [])
  value_word : {w : List ℕ} → Choice at (Open (Node N.Name w at Nil)) (WordOf value_words w ∷ [])
  name : {w : List ℕ} → Choice at (Open (Node N.Name w at Nil)) (Id w ∷ [])
  call : {a : Tree} → Choice at (Open a) (Call a ∷ [])
  parentheses : {a : Tree} → Choice at (Open a) (Sign_ (codes "(") ∷ Expr a ∷ Sign_ (codes ")") ∷ [])
  dot : {w : List ℕ} {a : Tree} → Choice at (Open (Node N.Dot w at (one a))) (Postfix a ∷ Sign_ (codes ".") ∷ Id w ∷ [])
  index : {a b : Tree} → Choice at (Open (Node N.Index [] at (two a b))) (Open a ∷ Sign_ (codes "[") ∷ Expr b ∷ Sign_ (codes "]") ∷ [])
  call_name : {w : List ℕ} {ts : Trees} → Choice at (Call (Node N.Call w at ts)) (Id w ∷ Sign_ (codes "(") ∷ Args ts ∷ Sign_ (codes ")") ∷ [])
  call_dot : {w : List ℕ} {a : Tree} {ts : Trees}
      → Choice at (Call (Node N.DotCall w at (Cons a ts))) (Postfix a ∷ Sign_ (codes ".") ∷ Id w
      ∷ Sign_ (codes "(") ∷ Args ts ∷ Sign_ (codes ")") ∷ [])
  call_new : {w : List ℕ} {ts : Trees}
      → Choice at (Call (Node N.New w at ts)) (Word_ (codes "new") ∷ Id w ∷ Sign_ (codes "(")
      ∷ Args ts ∷ Sign_ (codes ")") ∷ [])
  array : {b : Tree} {ts : Trees} → Choice at (Array (Node N.NewArray [] at (Cons b ts))) (Word_ (codes "new") ∷ Base b ∷ Sizes ts ∷ [])
  no_args : Choice at (Args Nil) []
  args : {a : Tree} {ts : Trees} → Choice at (Args (Cons a ts)) (Expr a ∷ MoreArgs ts ∷ [])
  no_more_args : Choice at (MoreArgs Nil) []
  more_args : {a : Tree} {ts : Trees} → Choice at (MoreArgs (Cons a ts)) (Sign_ (codes ",") ∷ Expr a ∷ MoreArgs ts ∷ [])
  sizes : {a : Tree} {ts : Trees} → Choice at (Sizes (Cons a ts)) (Sign_ (codes "[") ∷ Expr a ∷ Sign_ (codes "]") ∷ MoreSizes ts ∷ [])
  no_more_sizes : Choice at (MoreSizes Nil) []
  more_sizes : {ts : Trees} → Choice at (MoreSizes ts) (Sizes ts ∷ [])

-- the tokens are a whole source with these classes
abbrev pub IsFile : List PlacedToken → List ClassTree → Type 0
IsFile ts cs = Derives span_of Is Choice (File cs ∷ []) ts
