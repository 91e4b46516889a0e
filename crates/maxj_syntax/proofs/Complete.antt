-- What the productions derive is what the parser's steps read, with the same tree.
use Rattle.std.proofs.Common.{◌≡◌, ℕ, Bool, true, false, List, [], ◌∷◌, ◌++◌, refl, sym, ap, subst, ◌∙◌, ◌⊎◌, inl, inr, codes}
use Rattle.mx_base.specs.declared.span.Span.{Span}
use Rattle.maxj_syntax.specs.declared.level.Level.{Level}
use Rattle.maxj_tokens.specs.declared.sign.Sign.TheVariants as S
use Rattle.maxj_syntax.specs.declared.kind.Word.TheVariants as W
use Rattle.maxj_syntax.specs.declared.tree.NodeKind.{NodeKind}
use Rattle.maxj_syntax.specs.declared.tree.NodeKind.TheVariants as N
use Rattle.maxj_syntax.specs.declared.symbol.TokenClass.TheVariants as C
use Rattle.maxj_syntax.specs.declared.symbol.Effect.TheVariants.{Skip, Over, Text}
use Rattle.maxj_syntax.specs.declared.symbol.Action.TheVariants.{Begin, Turn, Into, End, Named}
use Rattle.maxj_syntax.specs.declared.symbol.Form.{Form}
use Rattle.maxj_syntax.specs.declared.symbol.Site.{Site}
use Rattle.maxj_syntax.specs.declared.symbol.Rule.{Rule}
use Rattle.maxj_tokens.specs.Tokens.{Token, written}
use Rattle.maxj_tokens.specs.Scanning.{PlacedToken, from_of}
use Rattle.maxj_syntax.specs.Tree.{Tree, Node, Trees, Nil, Cons, join, one, two, ClassTree}
use Rattle.maxj_syntax.specs.TokenClasses.{Accepts, IsWordOf, IsSignOf, IsNameToken, leaf_kind}
use Rattle.maxj_syntax.specs.Productions.{Above, Part, Is, Choice, absent, is_name, parent, type_words, is_manager}
use Rattle.maxj_syntax.specs.Symbols.{Inside, Symbol, Mark, Name, Sub, Call, Act}
use Rattle.maxj_syntax.specs.Symbols as Y
use Rattle.maxj_syntax.specs.Moves.{Move, NamedMove, sign, word, onward, ordered, looser, is_own, made, and_members}
use Rattle.maxj_syntax.specs.Moves as Steps
use Rattle.maxj_syntax.specs.Steps.{Entry, At, Below, On, Goes, between, no_span, fresh, add, spanned, add_classes, class_of, memory_type, act_top, act_below}
use Rattle.maxj_syntax.proofs.Segments.{Seg}
use Rattle.maxj_syntax.proofs.Meanings.{adds, handed_word}
use Rattle.maxj_syntax.proofs.Sound.{adds_is, add_adds, add_twice, add_none, method_tree}
use Rattle.maxj_syntax.proofs.Runs.{append, expand, expand_named, eat, eat_name, soften, Where}
use Rattle.maxj_syntax.proofs.Runs.{start, rest, start_at, open_, below, below_above, open_above}
use Rattle.maxj_syntax.proofs.Runs.{connecting, dotting, leaf, shut, split_word, split_order}
use Rattle.maxj_syntax.proofs.Runs.{id_token, word_token, sign_token, literal_token, constructing}
use Rattle.maxj_syntax.proofs.Runs.{more_of, inside, InSimple, InStmt, InFirst}
use Rattle.text_scan.proofs.ByteTests.{bytes_refl}
use Rattle.maxj_syntax.specs.declared.symbol.ClassKind.{ClassKind}

-- all up to one end
module _ (c : Entry) (q : Below) (zs : List PlacedToken) where
  abbrev G : List Symbol → Entry → Below → List PlacedToken → Type 0
  G ps b s xs = Goes ps b s xs c q zs

  abbrev HasSign : List ℕ → List PlacedToken → List PlacedToken → Type 0
  HasSign k xs ys = (t : PlacedToken) × (xs ≡ t ∷ ys) × (t.token ≡ Token.Sign k)

  abbrev HasWord : List ℕ → List PlacedToken → List PlacedToken → Type 0
  HasWord w xs ys = (t : PlacedToken) × (xs ≡ t ∷ ys) × (t.token ≡ Token.Word w)

  -- the stack stays
  abbrev Plain : Rule → List PlacedToken → List PlacedToken → Type 0
  Plain r xs ys = (b : Entry) (s : Below) (ps : List Symbol) → G ps b s ys → G (Sub r ∷ ps) b s xs

  abbrev Children : Rule → Trees → List PlacedToken → List PlacedToken → Type 0
  Children r ts xs ys = (x : List PlacedToken) (a : Tree) (s : Below) (ps : List Symbol) → G ps (At x (adds a ts)) s ys → G (Sub r ∷ ps) (At x a) s xs

  abbrev Pushed : Rule → Tree → List PlacedToken → List PlacedToken → Type 0
  Pushed r v xs ys = (b : Entry) (s : Below) (ps : List Symbol) → G ps (At xs v) (On b s) ys → G (Sub r ∷ ps) b s xs

  -- with the tree on top, the parser goes on with more
  abbrev InExpr : (List Symbol → List Symbol) → Rule → Tree → List PlacedToken → List PlacedToken → Type 0
  InExpr more r v xs ys = (b : Entry) (s : Below) (ps : List Symbol) → G (more ps) (At xs v) (On b s) ys → G (Sub r ∷ ps) b s xs

  abbrev InStatement : (List Symbol → List Symbol) → Tree → List PlacedToken → List PlacedToken → Type 0
  InStatement more v xs ys = (d : Where) (b : Entry) (s : Below) (ps : List Symbol) → G (more (rest d ps)) (At xs v) (On b s) ys → G (start d ps) b s xs

  abbrev InDeclaration : Tree → List PlacedToken → List PlacedToken → Type 0
  InDeclaration v xs ys = (d : Site) (b : Entry) (s : Below) (ps : List Symbol)
      → G (Sub Rule.Dims ∷ Mark C.Name (Over N.Local) ∷ Sub (Rule.Declared d)
      ∷ ps) (At xs v) (On b s) ys → G (start_at d ps) b s xs

  -- a member begins with a type
  abbrev InHead : Tree → List PlacedToken → List PlacedToken → Type 0
  InHead v xs ys = (i : Inside) (b : Entry) (s : Below) (ps : List Symbol) → G (Sub Rule.Dims ∷ and_members i ++ ps) (At xs v) (On b s) ys → G (Call (Y.Head i) ∷ ps) b s xs

  abbrev OneBase : Tree → List PlacedToken → List PlacedToken → Type 0
  OneBase v xs ys = (t : PlacedToken) × (xs ≡ t ∷ ys) × (IsNameToken t.token ⊎ IsWordOf type_words t.token) × (v ≡ leaf N.Plain (written t.token) xs ys)

  abbrev MemoryBase : Tree → List PlacedToken → List PlacedToken → Type 0
  MemoryBase v xs ys = (m1 m2 m3 : List PlacedToken) × HasWord (codes "Memory") xs m1 × HasSign (codes "<") m1 m2 × HasWord (codes "DFEVar") m2 m3 × HasSign (codes ">") m3 ys × (v ≡ memory_type xs ys)

  abbrev Has : Part → List PlacedToken → List PlacedToken → Type 0
  Has Part.Package xs ys = Plain Rule.Package xs ys
  Has Part.Imports xs ys = Plain Rule.Imports xs ys
  Has Part.Import xs ys = (b : Entry) (s : Below) (ps : List Symbol) → G (Sub Rule.Imports ∷ ps) b s ys → G (Sub Rule.Imports ∷ ps) b s xs
  Has Part.MaybeStatic xs ys = Plain Rule.MaybeStatic xs ys
  Has Part.Path xs ys = Plain Rule.Path xs ys × ((b : Entry) (s : Below) (ps : List Symbol) → G (Sub Rule.ImportMore ∷ ps) b s ys → G (Mark C.Name Skip ∷ Sub Rule.ImportMore ∷ ps) b s xs)
  Has Part.MorePath xs ys = Plain Rule.MorePath xs ys × ((b : Entry) (s : Below) (ps : List Symbol) → G (Sub Rule.ImportMore ∷ ps) b s ys → G (Sub Rule.ImportMore ∷ ps) b s xs)
  Has Part.MaybeAll xs ys = Plain Rule.ImportMore xs ys
  Has (Part.File cs) xs ys = (b : Entry) (s : Below) (ps : List Symbol) → G ps b (add_classes s cs) ys → G (Sub Rule.File ∷ ps) b s xs
  Has (Part.Classes cs) xs ys = (b : Entry) (s : Below) (ps : List Symbol) → G ps b (add_classes s cs) ys → G (Sub Rule.Classes ∷ ps) b s xs
  Has (Part.Class_ k) xs ys = (b : Entry) (s : Below) (ps : List Symbol) → G ps b (add_classes s (k ∷ [])) ys → G (Sub Rule.Class ∷ ps) b s xs
  Has Part.Mods xs ys = Plain Rule.Mods xs ys
  Has (Part.Members m w u ts) xs ys = (x : List PlacedToken) (a : Tree) (s : Below) (ps : List Symbol) → G ps (At x (adds a ts)) s ys → G (Call (Y.Members (inside m w u)) ∷ ps) (At x a) s xs
  Has (Part.Member a) xs ys = (i : Inside) (x : List PlacedToken) (t : Tree) (s : Below)
      (ps : List Symbol) → G (Call (Y.Members i) ∷ ps) (At x (add t a)) s ys
      → G (Call (Y.Members i) ∷ ps) (At x t) s xs
  Has (Part.Ctor m w a) xs ys = (x : List PlacedToken) (t : Tree) (s : Below) (ps : List Symbol)
      → G (Call (Y.Members (inside m w false)) ∷ ps) (At x (add t a)) s ys
      → G (Call (Y.Members (inside m w true)) ∷ ps) (At x t) s xs
  Has (Part.Opening m p ts) xs ys = (x : List PlacedToken) (a : Tree) (s : Below)
      (ps : List Symbol) → G (sign S.Close ∷ constructing p ++ ps) (At x (adds a ts)) s ys
      → G (Sub (Rule.Opening m) ∷ ps) (At x a) s xs
  Has (Part.Handed w p a) xs ys = (m : ClassKind) → w ≡ handed_word m
      → (x : List PlacedToken) (t : Tree) (s : Below) (ps : List Symbol)
      → G (more_of m ++ sign S.Close ∷ constructing p ++ ps) (At x (add t a)) s ys
      → G (Sub (Rule.Opening m) ∷ ps) (At x t) s xs
  Has (Part.HandedType w v) xs ys = (t : PlacedToken) × (xs ≡ t ∷ ys) × (t.token ≡ Token.Word w) × (v ≡ leaf N.Plain (written t.token) xs ys)
  Has (Part.CtorBlock p a) xs ys = (x : List PlacedToken) (t : Tree) (s : Below) (ps : List Symbol) → G ps (At x (spanned (between x ys) (add t a))) s ys → G (constructing p ++ ps) (At x t) s xs
  Has (Part.Result v) xs ys = (i : Inside) (b : Entry) (s : Below) (ps : List Symbol)
      → G (Act Into ∷ Mark C.Name Text ∷ Act (Turn N.Method) ∷ Sub Rule.MethodRest ∷ Act Into
      ∷ Call (Y.Members i) ∷ ps) (At xs v) (On b s) ys → G (Call (Y.Head i) ∷ ps) b s xs
  Has (Part.MaybeParams ts) xs ys = Children Rule.Params ts xs ys
  Has (Part.MoreParams ts) xs ys = Children Rule.MoreParams ts xs ys
  Has (Part.Param v) xs ys = Pushed Rule.Param v xs ys
  Has (Part.MaybeInit ts) xs ys = ((xs ≡ ys) × (ts ≡ Nil)) ⊎ ((a : Tree) × (m : List PlacedToken) × (ts ≡ one a) × HasSign (codes "=") xs m × Pushed Rule.Init a m ys)
  Has (Part.Sign_ k) xs ys = HasSign k xs ys
  Has (Part.SignAt k n) xs ys = (t : PlacedToken) × (xs ≡ t ∷ ys) × (t.token ≡ Token.Sign k) × (t.place ≡ n)
  Has (Part.SignOf ss k) xs ys = (t : PlacedToken) × (xs ≡ t ∷ ys) × IsSignOf ss t.token × (k ≡ written t.token)
  Has (Part.Word_ w) xs ys = HasWord w xs ys
  Has (Part.WordOf ws w) xs ys = (t : PlacedToken) × (xs ≡ t ∷ ys) × IsWordOf ws t.token × (w ≡ written t.token)
  Has (Part.Id w) xs ys = (t : PlacedToken) × (xs ≡ t ∷ ys) × IsNameToken t.token × (w ≡ written t.token)
  Has (Part.Literal k w) xs ys = (t : PlacedToken) × (xs ≡ t ∷ ys) × Accepts C.Literal t.token × (k ≡ leaf_kind t.token) × (w ≡ written t.token)
  Has (Part.Base v) xs ys = OneBase v xs ys ⊎ MemoryBase v xs ys
  Has (Part.Type_ v) xs ys = InExpr (λ ps. Sub Rule.Dims ∷ ps) Rule.TypeName v xs ys × InDeclaration v xs ys × InHead v xs ys
  Has (Part.Call v) xs ys = InExpr (λ ps. Sub Rule.Post ∷ ps) Rule.Postfix v xs ys × InStatement (λ ps. Sub (Rule.Rest Form.Call) ∷ ps) v xs ys
  Has (Part.Array v) xs ys = InExpr (λ ps. Sub Rule.FreshTail ∷ ps) Rule.Postfix v xs ys × InStatement (λ ps. Sub (Rule.Rest Form.Fresh) ∷ ps) v xs ys
  Has (Part.Open v) xs ys = InExpr (λ ps. Sub Rule.Post ∷ ps) Rule.Postfix v xs ys × InStatement (λ ps. Sub (Rule.Rest Form.Free) ∷ ps) v xs ys
  Has (Part.Postfix v) xs ys =
      InExpr (λ ps. ps) Rule.Postfix v xs ys × InExpr (λ ps. dotting ++ Sub Rule.Dotted ∷ Sub Rule.Post ∷ ps) Rule.Postfix v xs ys
      × InStatement (λ ps. onward ++ ps) v xs ys × InStatement (λ ps. dotting ++ Sub Rule.DottedRest ∷ ps) v xs ys
  Has (Part.Joined l v) xs ys =
      InExpr (open_ l) (Rule.Operand l) v xs ys × ((r : List Symbol) → below l r ≡ onward → InStatement (λ ps. open_ l (r ++ ps)) v xs ys)
  Has (Part.Expr v) xs ys = Pushed Rule.Expr v xs ys × InStatement (λ ps. connecting ++ ps) v xs ys
  Has (Part.Args ts) xs ys = Children Rule.Args ts xs ys
  Has (Part.MoreArgs ts) xs ys = Children Rule.MoreArgs ts xs ys
  Has (Part.Sizes ts) xs ys = Children Rule.Sizes ts xs ys
  Has (Part.MoreSizes ts) xs ys = Children Rule.MoreSizes ts xs ys
  Has (Part.Place v) xs ys = InStatement (λ ps. Sub (Rule.Rest Form.Place) ∷ ps) v xs ys
  Has (Part.Simple v) xs ys = InStatement (λ ps. ps) v xs ys
  Has (Part.Init v) xs ys = Pushed Rule.Init v xs ys
  Has (Part.Inits ts) xs ys = Children Rule.Inits ts xs ys
  Has (Part.MoreInits ts) xs ys = Children Rule.MoreInits ts xs ys
  Has (Part.Block v) xs ys = Pushed Rule.Block v xs ys
  Has (Part.Stmts ts) xs ys = Children Rule.Stmts ts xs ys
  Has (Part.Stmt v) xs ys = Pushed Rule.Stmt v xs ys
  Has Part.MaybeFinal xs ys = (xs ≡ ys) ⊎ HasWord (codes "final") xs ys
  Has (Part.Returning v) xs ys = (b : Entry) (s : Below) (ps : List Symbol) → G ps (At xs v) (On b s) ys → G (Act (Begin N.Return) ∷ word W.Return ∷ Sub Rule.ReturnRest ∷ ps) b s xs
  Has (Part.Body v) xs ys = Pushed Rule.Body v xs ys
  Has (Part.ElseIfs ts) xs ys = (x : List PlacedToken) (a : Tree) (s : Below) (ps : List Symbol) → G (Sub Rule.ElseTail ∷ ps) (At x (adds a ts)) s ys → G (Sub Rule.ElseTail ∷ ps) (At x a) s xs
  Has (Part.MaybeElse ts) xs ys = Children Rule.ElseTail ts xs ys
  Has (Part.First v i) xs ys = from_of ys ≡ i → Pushed Rule.First v xs ys
  Has (Part.Test v i) xs ys = from_of ys ≡ i → Pushed Rule.Test v xs ys
  Has (Part.Step v i) xs ys = from_of ys ≡ i → Pushed Rule.Step v xs ys

  abbrev Known : List Part → List PlacedToken → (List PlacedToken → Type 0) → Type 0
  Known [] xs Q = Q xs
  Known (p ∷ ps) xs Q = (m : List PlacedToken) → Has p xs m → Known ps m Q

  -- the statement begins with what is no name
  other : (d : Where) (b : Entry) (s : Below) (ps : List Symbol) (xs : List PlacedToken) → G (Sub Rule.Other ∷ rest d ps) b s xs → G (start d ps) b s xs
  other InSimple b s ps xs g = expand Move.simple_other g
  other InStmt b s ps xs g = expand Move.stmt_other g
  other InFirst b s ps xs g = expand Move.first_other g

  -- what a connection goes on with behind the name `Memory`
  abbrev goes_on : Site → List Symbol → List Symbol
  goes_on d ps = Steps.close d ++ ps

  memory_name_then : (d : Site) (b : Entry) (s : Below) (ps : List Symbol)
      (xs : List PlacedToken) → G (Sub Rule.Called ∷ Sub Rule.Post
      ∷ Sub (Rule.Tail Level.Products) ∷ Sub (Rule.Tail Level.Sums)
      ∷ Sub (Rule.Tail Level.Shifts) ∷ ordered ++ goes_on d ps) b s xs
      → G (Sub (Rule.MemoryName d) ∷ ps) b s xs
  memory_name_then d b s ps xs g = expand Move.memory_further g

  -- an operand behind `Memory < DFEVar >`
  greater_prefix : (d : Site) {b : Entry} {s : Below} {ps : List Symbol} {xs : List PlacedToken}
      → G (Sub (Rule.Operand Level.Prefixes) ∷ Sub (Rule.Tail Level.Products)
      ∷ Sub (Rule.Tail Level.Sums) ∷ Sub (Rule.Tail Level.Shifts) ∷ ordered ++ goes_on d ps) b s xs
      → G (Sub (Rule.GreaterThen d) ∷ ps) b s xs
  greater_prefix d (Goes.rule Move.prefix e g) = expand Move.greater_other (expand Move.nameless_prefix (append e g))
  greater_prefix d (Goes.rule Move.no_prefix (Goes.rule Move.literal e Goes.none) g) = expand Move.greater_other (expand Move.nameless_literal (append e g))
  greater_prefix d (Goes.rule Move.no_prefix (Goes.rule Move.value_word e Goes.none) g) = expand Move.greater_other (expand Move.nameless_value (append e g))
  greater_prefix d (Goes.rule Move.no_prefix (Goes.rule Move.parentheses e Goes.none) g) = expand Move.greater_other (expand Move.nameless_parentheses (append e g))
  greater_prefix d (Goes.rule Move.no_prefix (Goes.rule Move.new e Goes.none) g) = expand Move.greater_other (expand Move.nameless_new (append e g))
  greater_prefix d (Goes.rule Move.no_prefix (Goes.rule Move.name (Goes.mark i e) Goes.none) g) = expand Move.greater_name (Goes.mark i (expand Move.memory_further (append e g)))
  greater_prefix d (Goes.rule (Move.operand u) e g) = elim u [ ]

  products : {b : Entry} {s : Below} {ps : List Symbol} {xs : List PlacedToken} → G (Sub (Rule.Operand Level.Shifts) ∷ ps) b s xs
      → G (Sub (Rule.Operand Level.Prefixes) ∷ Sub (Rule.Tail Level.Products) ∷ Sub (Rule.Tail Level.Sums) ∷ Sub (Rule.Tail Level.Shifts) ∷ ps) b s xs
  products (Goes.rule (Move.operand Above.shifts) (Goes.rule (Move.operand Above.sums) (Goes.rule (Move.operand Above.products) e h) f) g) = append e (append h (append f g))

  greater_then : (d : Site) {b : Entry} {s : Below} {ps : List Symbol} {xs : List PlacedToken}
      → G (Sub (Rule.Operand Level.Shifts) ∷ ordered ++ goes_on d ps) b s xs
      → G (Sub (Rule.GreaterThen d) ∷ ps) b s xs
  greater_then d g = greater_prefix d (products g)

  -- and behind `Memory < DFEVar`
  dfevar_order : (d : Site) {b : Entry} {s : Below} {ps : List Symbol} {xs : List PlacedToken}
      → G (Sub (Rule.Tail Level.Orders) ∷ looser
      ++ goes_on d ps) (act_top End xs (act_top Into xs b s) (act_below Into b s))
      (act_below End (act_top Into xs b s) (act_below Into b s)) xs
      → G (Sub (Rule.DFEVarThen d) ∷ ps) b s xs
  dfevar_order d (Goes.rule (Move.tail Above.orders) (Goes.mark {t = t} i e) g) = elim (split_order S.Greater t.token i) [
    | inl j ↦ expand Move.dfevar_order (Goes.act (Goes.act (Goes.mark j (append e g))))
    | inr j ↦ expand Move.dfevar_greater (Goes.act (Goes.act (Goes.mark j (greater_then d (append e g)))))
  ]
  dfevar_order d (Goes.rule Move.no_tail Goes.none g) = expand Move.dfevar_looser (Goes.act (Goes.act g))

  dfevar_shift : (d : Site) {b : Entry} {s : Below} {ps : List Symbol} {xs : List PlacedToken}
      → G (Sub (Rule.Tail Level.Shifts) ∷ ordered ++ goes_on d ps) b s xs
      → G (Sub (Rule.DFEVarThen d) ∷ ps) b s xs
  dfevar_shift d (Goes.rule (Move.tail Above.shifts) e g) = expand Move.dfevar_tighter (expand Move.tighter_shift (append e g))
  dfevar_shift d (Goes.rule Move.no_tail Goes.none (Goes.act (Goes.act g))) = dfevar_order d g

  dfevar_sum : (d : Site) {b : Entry} {s : Below} {ps : List Symbol} {xs : List PlacedToken}
      → G (Sub (Rule.Tail Level.Sums) ∷ Sub (Rule.Tail Level.Shifts) ∷ ordered
      ++ goes_on d ps) b s xs → G (Sub (Rule.DFEVarThen d) ∷ ps) b s xs
  dfevar_sum d (Goes.rule (Move.tail Above.sums) e g) = expand Move.dfevar_tighter (expand Move.tighter_sum (append e g))
  dfevar_sum d (Goes.rule Move.no_tail Goes.none g) = dfevar_shift d g

  dfevar_product : (d : Site) {b : Entry} {s : Below} {ps : List Symbol} {xs : List PlacedToken}
      → G (Sub (Rule.Tail Level.Products) ∷ Sub (Rule.Tail Level.Sums)
      ∷ Sub (Rule.Tail Level.Shifts) ∷ ordered ++ goes_on d ps) b s xs
      → G (Sub (Rule.DFEVarThen d) ∷ ps) b s xs
  dfevar_product d (Goes.rule (Move.tail Above.products) e g) = expand Move.dfevar_tighter (expand Move.tighter_product (append e g))
  dfevar_product d (Goes.rule Move.no_tail Goes.none g) = dfevar_sum d g

  dfevar_then : (d : Site) {b : Entry} {s : Below} {ps : List Symbol} {xs : List PlacedToken}
      → G (Sub Rule.Called ∷ Sub Rule.Post ∷ Sub (Rule.Tail Level.Products)
      ∷ Sub (Rule.Tail Level.Sums) ∷ Sub (Rule.Tail Level.Shifts) ∷ ordered ++ goes_on d ps) b s xs
      → G (Sub (Rule.DFEVarThen d) ∷ ps) b s xs
  dfevar_then d (Goes.rule Move.called e g) = expand Move.dfevar_further (expand Move.further_called (append e g))
  dfevar_then d (Goes.rule Move.not_called Goes.none (Goes.rule Move.dot e g)) = expand Move.dfevar_further (expand Move.further_dot (append e g))
  dfevar_then d (Goes.rule Move.not_called Goes.none (Goes.rule Move.index e g)) = expand Move.dfevar_further (expand Move.further_index (append e g))
  dfevar_then d (Goes.rule Move.not_called Goes.none (Goes.rule Move.no_post Goes.none g)) = dfevar_product d g

  -- and behind `Memory <`
  less_prefix : (d : Site) {b : Entry} {s : Below} {ps : List Symbol} {xs : List PlacedToken}
      → G (Sub (Rule.Operand Level.Prefixes) ∷ Sub (Rule.Tail Level.Products)
      ∷ Sub (Rule.Tail Level.Sums) ∷ Sub (Rule.Tail Level.Shifts) ∷ ordered ++ goes_on d ps) b s xs
      → G (Sub (Rule.LessThen d) ∷ ps) b s xs
  less_prefix d (Goes.rule Move.prefix e g) = expand Move.less_other (expand Move.other_nameless (expand Move.nameless_prefix (append e g)))
  less_prefix d (Goes.rule Move.no_prefix (Goes.rule Move.literal e Goes.none) g) = expand Move.less_other (expand Move.other_nameless (expand Move.nameless_literal (append e g)))
  less_prefix d (Goes.rule Move.no_prefix (Goes.rule Move.value_word e Goes.none) g) = expand Move.less_other (expand Move.other_nameless (expand Move.nameless_value (append e g)))
  less_prefix d (Goes.rule Move.no_prefix (Goes.rule Move.parentheses e Goes.none) g) = expand Move.less_other (expand Move.other_nameless (expand Move.nameless_parentheses (append e g)))
  less_prefix d (Goes.rule Move.no_prefix (Goes.rule Move.new e Goes.none) g) = expand Move.less_other (expand Move.other_nameless (expand Move.nameless_new (append e g)))
  less_prefix d (Goes.rule Move.no_prefix (Goes.rule Move.name (Goes.mark {t = t} i e) Goes.none) g) = elim (split_word W.DFEVar t.token i) [
    | inl j ↦ expand Move.less_other (expand Move.other_name (Goes.mark j (append e g)))
    | inr j ↦ expand Move.less_dfevar (Goes.mark j (dfevar_then d (append e g)))
  ]
  less_prefix d (Goes.rule (Move.operand u) e g) = elim u [ ]

  less_then : (d : Site) {b : Entry} {s : Below} {ps : List Symbol} {xs : List PlacedToken}
      → G (Sub (Rule.Operand Level.Shifts) ∷ ordered ++ goes_on d ps) b s xs
      → G (Sub (Rule.LessThen d) ∷ ps) b s xs
  less_then d g = less_prefix d (products g)

  -- and behind `Memory`
  memory_order : (d : Site) {b : Entry} {s : Below} {ps : List Symbol} {xs : List PlacedToken}
      → G (Sub (Rule.Tail Level.Orders) ∷ looser ++ goes_on d ps) b s xs
      → G (Sub (Rule.MemoryThen d) ∷ ps) b s xs
  memory_order d (Goes.rule (Move.tail Above.orders) (Goes.mark {t = t} i e) g) = elim (split_order S.Less t.token i) [
    | inl j ↦ expand Move.memory_bare (expand Move.memory_order (Goes.mark j (append e g)))
    | inr j ↦ expand Move.memory_less (Goes.mark j (less_then d (append e g)))
  ]
  memory_order d (Goes.rule Move.no_tail Goes.none g) = expand Move.memory_bare (expand Move.memory_looser g)

  memory_shift : (d : Site) {b : Entry} {s : Below} {ps : List Symbol} {xs : List PlacedToken}
      → G (Sub (Rule.Tail Level.Shifts) ∷ Sub (Rule.Tail Level.Orders) ∷ looser
      ++ goes_on d ps) b s xs → G (Sub (Rule.MemoryThen d) ∷ ps) b s xs
  memory_shift d (Goes.rule (Move.tail Above.shifts) e g) = expand Move.memory_bare (expand Move.memory_tighter (expand Move.tighter_shift (append e g)))
  memory_shift d (Goes.rule Move.no_tail Goes.none g) = memory_order d g

  memory_sum : (d : Site) {b : Entry} {s : Below} {ps : List Symbol} {xs : List PlacedToken}
      → G (Sub (Rule.Tail Level.Sums) ∷ Sub (Rule.Tail Level.Shifts)
      ∷ Sub (Rule.Tail Level.Orders) ∷ looser ++ goes_on d ps) b s xs
      → G (Sub (Rule.MemoryThen d) ∷ ps) b s xs
  memory_sum d (Goes.rule (Move.tail Above.sums) e g) = expand Move.memory_bare (expand Move.memory_tighter (expand Move.tighter_sum (append e g)))
  memory_sum d (Goes.rule Move.no_tail Goes.none g) = memory_shift d g

  memory_onward : (d : Site) {b : Entry} {s : Below} {ps : List Symbol} {xs : List PlacedToken} → G (onward ++ goes_on d ps) b s xs → G (Sub (Rule.MemoryThen d) ∷ ps) b s xs
  memory_onward d (Goes.rule (Move.tail Above.products) e g) = expand Move.memory_bare (expand Move.memory_tighter (expand Move.tighter_product (append e g)))
  memory_onward d (Goes.rule Move.no_tail Goes.none g) = memory_sum d g

  -- the statement begins with a name that is called
  named_call : (d : Where) (b : Entry) (s : Below) (ps : List Symbol) (xs ys : List PlacedToken) (t : PlacedToken) → xs ≡ t ∷ ys → IsNameToken t.token
      → G (Act (Turn N.Call) ∷ sign S.Open ∷ Sub Rule.Args ∷ sign S.Close ∷ Act End
      ∷ Sub (Rule.Rest Form.Call) ∷ rest d ps) (At xs (leaf N.Name (written t.token) xs ys))
      (On b s) ys → G (start d ps) b s xs
  named_call InSimple b s ps xs ys t e i g = expand Move.simple_name (eat e i (expand Move.name_called g))
  named_call InStmt b s ps xs ys t e i g = elim (split_word W.Memory t.token i) [
    | inl j ↦ expand Move.stmt_name (eat e j (expand Move.then_called g))
    | inr j ↦ expand Move.stmt_memory (eat e j (expand Move.memory_called g))
  ]
  named_call InFirst b s ps xs ys t e i g = elim (split_word W.Memory t.token i) [
    | inl j ↦ expand Move.first_name (eat e j (expand Move.then_called g))
    | inr j ↦ expand Move.first_memory (eat e j (expand Move.memory_called g))
  ]

  -- or with a name that may be a place
  site : (d : Site) (xs ys : List PlacedToken) (w : List ℕ) (s : Below) (ps : List Symbol)
      → G (Sub (Rule.Rest Form.Place) ∷ Steps.close d ++ ps) (At xs (leaf N.Name w xs ys)) s ys
      → G (Sub (Rule.NameThen d) ∷ ps) (At xs (leaf N.Name w xs ys)) s ys
  site d xs ys w s ps (Goes.rule Move.place_bare e g) = expand Move.then_bare (append e g)
  site d xs ys w s ps (Goes.rule Move.place_index (Goes.act (Goes.mark i e)) g) = expand Move.then_bracket (Goes.mark i (expand Move.then_index (Goes.act (append e g))))

  memory_site : (d : Site) (xs ys : List PlacedToken) (w : List ℕ) (s : Below)
      (ps : List Symbol) → G (Sub (Rule.Rest Form.Place) ∷ Steps.close d
      ++ ps) (At xs (leaf N.Name w xs ys)) s ys → G (Sub (Rule.MemoryThen d)
      ∷ ps) (At xs (leaf N.Name w xs ys)) s ys
  memory_site d xs ys w s ps (Goes.rule Move.place_bare (Goes.rule Move.set e Goes.none) g) = expand Move.memory_bare (expand Move.memory_set (append e g))
  memory_site d xs ys w s ps (Goes.rule Move.place_bare (Goes.rule Move.count e Goes.none) g) = expand Move.memory_bare (expand Move.memory_count (append e g))
  memory_site d xs ys w s ps (Goes.rule Move.place_bare (Goes.rule Move.bare_dot e Goes.none) g) = expand Move.memory_bare (expand Move.memory_dot (append e g))
  memory_site d xs ys w s ps (Goes.rule Move.place_bare (Goes.rule Move.bare_onward e Goes.none) g) = memory_onward d (append e g)
  memory_site d xs ys w s ps (Goes.rule Move.place_index (Goes.act (Goes.mark i e)) g) = expand Move.memory_bracket (Goes.mark i (expand Move.then_index (Goes.act (append e g))))

  named_place : (d : Where) (b : Entry) (s : Below) (ps : List Symbol) (xs ys : List PlacedToken) (t : PlacedToken) → xs ≡ t ∷ ys → IsNameToken t.token
      → G (Sub (Rule.Rest Form.Place) ∷ rest d ps) (At xs (leaf N.Name (written t.token) xs ys)) (On b s) ys → G (start d ps) b s xs
  named_place InSimple b s ps xs ys t e i g = expand Move.simple_name (eat e i (expand Move.name_place g))
  named_place InStmt b s ps xs ys t e i g = elim (split_word W.Memory t.token i) [
    | inl j ↦ expand Move.stmt_name (eat e j (site Site.Alone xs ys (written t.token) (On b s) ps g))
    | inr j ↦ expand Move.stmt_memory (eat e j (memory_site Site.Alone xs ys (written t.token) (On b s) ps g))
  ]
  named_place InFirst b s ps xs ys t e i g = elim (split_word W.Memory t.token i) [
    | inl j ↦ expand Move.first_name (eat e j (site Site.Loop xs ys (written t.token) (On b s) ps g))
    | inr j ↦ expand Move.first_memory (eat e j (memory_site Site.Loop xs ys (written t.token) (On b s) ps g))
  ]

  free_place : {b : Entry} {s : Below} {ps : List Symbol} {xs : List PlacedToken} → G (Sub (Rule.Rest Form.Free) ∷ ps) b s xs → G (Sub (Rule.Rest Form.Place) ∷ ps) b s xs
  free_place (Goes.rule v d e) = append (soften (Goes.rule v d Goes.none)) e

  free_call : {b : Entry} {s : Below} {ps : List Symbol} {xs : List PlacedToken} → G (Sub (Rule.Rest Form.Free) ∷ ps) b s xs → G (Sub (Rule.Rest Form.Call) ∷ ps) b s xs
  free_call (Goes.rule Move.free_index d e) = Goes.rule Move.call_index d e
  free_call (Goes.rule Move.free_dot d e) = Goes.rule Move.call_dot d e
  free_call (Goes.rule Move.free_onward d e) = Goes.rule Move.call_onward d e

  -- no further sign of a level
  skip : (l : Level) {b : Entry} {s : Below} {ps : List Symbol} {xs : List PlacedToken} → G ps b s xs → G (open_ l ps) b s xs
  skip Level.Prefixes g = g
  skip Level.Products g = expand Move.no_tail g
  skip Level.Sums g = expand Move.no_tail g
  skip Level.Shifts g = expand Move.no_tail g
  skip Level.Orders g = expand Move.no_tail g
  skip Level.Equalities g = expand Move.no_tail g
  skip Level.BitAnds g = expand Move.no_tail g
  skip Level.BitXors g = expand Move.no_tail g
  skip Level.BitOrs g = expand Move.no_tail g
  skip Level.Ands g = expand Move.no_tail g
  skip Level.Ors g = expand Move.no_tail g

  opened : {l k : Level} → Above l k → (ps : List Symbol) (b : Entry) (s : Below) (xs : List PlacedToken) → G (Sub (Rule.Tail k) ∷ ps) b s xs → G (open_ k ps) b s xs
  opened u ps b s xs g = subst (λ z. G z b s xs) (sym (open_above u ps)) g

  tailed : {l k : Level} → Above l k → (ps : List Symbol) (b : Entry) (s : Below) (xs : List PlacedToken) → G (open_ k ps) b s xs → G (Sub (Rule.Tail k) ∷ ps) b s xs
  tailed u ps b s xs g = subst (λ z. G z b s xs) (open_above u ps) g

  shut_at : (k : NodeKind) (w : List ℕ) (r p : Span) (cs ts : Trees) (x : List PlacedToken)
      (s : Below) (ps : List Symbol) (ys : List PlacedToken)
      → G ps (At x (Node k w p (join cs ts))) s ys
      → G ps (At x (spanned p (adds (Node k w r cs) ts))) s ys
  shut_at k w r p cs ts x s ps ys g = subst (λ z. G ps (At x z) s ys) (sym (shut k w r p cs ts)) g

  shut_two : (k : NodeKind) (w : List ℕ) (r p : Span) (cs ts us : Trees) (x : List PlacedToken)
      (s : Below) (ps : List Symbol) (ys : List PlacedToken)
      → G ps (At x (Node k w p (join (join cs ts) us))) s ys
      → G ps (At x (spanned p (adds (adds (Node k w r cs) ts) us))) s ys
  shut_two k w r p cs ts us x s ps ys g = subst (λ z. G ps (At x (spanned p (adds z us))) s ys) (sym (adds_is k w r cs ts)) (shut_at k w r p (join cs ts) us x s ps ys g)

  -- a type that is a name may begin a declaration
  declared_name : (d : Site) (xs ys : List PlacedToken) (w : List ℕ) (s : Below)
      (ps : List Symbol) → G (Sub Rule.Dims ∷ Mark C.Name (Over N.Local) ∷ Sub (Rule.Declared d)
      ∷ ps) (At xs (leaf N.Plain w xs ys)) s ys
      → G (Sub (Rule.NameThen d) ∷ ps) (At xs (leaf N.Name w xs ys)) s ys
  declared_name d xs ys w s ps (Goes.rule Move.no_dims Goes.none g) = expand Move.then_name (Goes.act g)
  declared_name d xs ys w s ps (Goes.rule Move.dims (Goes.act (Goes.mark i (Goes.mark j (Goes.act e)))) g) =
      expand Move.then_bracket (Goes.mark i (expand Move.then_dims (Goes.act (Goes.act (Goes.mark j (Goes.act (append e g)))))))

  memory_declared_name : (d : Site) (xs ys : List PlacedToken) (w : List ℕ) (s : Below)
      (ps : List Symbol) → G (Sub Rule.Dims ∷ Mark C.Name (Over N.Local) ∷ Sub (Rule.Declared d)
      ∷ ps) (At xs (leaf N.Plain w xs ys)) s ys
      → G (Sub (Rule.MemoryThen d) ∷ ps) (At xs (leaf N.Name w xs ys)) s ys
  memory_declared_name d xs ys w s ps (Goes.rule Move.no_dims Goes.none g) = expand Move.memory_name (Goes.act g)
  memory_declared_name d xs ys w s ps (Goes.rule Move.dims (Goes.act (Goes.mark i (Goes.mark j (Goes.act e)))) g) =
      expand Move.memory_bracket (Goes.mark i (expand Move.then_dims (Goes.act (Goes.act (Goes.mark j (Goes.act (append e g)))))))

  start_name : (d : Site) (t : PlacedToken) (xs ys : List PlacedToken) (b : Entry) (s : Below) (ps : List Symbol) → xs ≡ t ∷ ys → IsNameToken t.token
      → G (Sub Rule.Dims ∷ Mark C.Name (Over N.Local) ∷ Sub (Rule.Declared d) ∷ ps) (At xs (leaf N.Plain (written t.token) xs ys)) (On b s) ys → G (start_at d ps) b s xs
  start_name Site.Alone t xs ys b s ps e i g = elim (split_word W.Memory t.token i) [
    | inl j ↦ expand Move.stmt_name (eat e j (declared_name Site.Alone xs ys (written t.token) (On b s) ps g))
    | inr j ↦ expand Move.stmt_memory (eat e j (memory_declared_name Site.Alone xs ys (written t.token) (On b s) ps g))
  ]
  start_name Site.Loop t xs ys b s ps e i g = elim (split_word W.Memory t.token i) [
    | inl j ↦ expand Move.first_name (eat e j (declared_name Site.Loop xs ys (written t.token) (On b s) ps g))
    | inr j ↦ expand Move.first_memory (eat e j (memory_declared_name Site.Loop xs ys (written t.token) (On b s) ps g))
  ]

  start_word : (d : Site) (t : PlacedToken) (xs ys : List PlacedToken) (b : Entry) (s : Below) (ps : List Symbol) → xs ≡ t ∷ ys → IsWordOf type_words t.token
      → G (Sub Rule.Dims ∷ Mark C.Name (Over N.Local) ∷ Sub (Rule.Declared d) ∷ ps) (At xs (leaf N.Plain (written t.token) xs ys)) (On b s) ys → G (start_at d ps) b s xs
  start_word Site.Alone t xs ys b s ps e i g = expand Move.stmt_word (eat e i g)
  start_word Site.Loop t xs ys b s ps e i g = expand Move.first_word (eat e i g)

  head_name : (i : Inside) (t : PlacedToken) (xs ys : List PlacedToken) (b : Entry) (s : Below)
      (ps : List Symbol) → xs ≡ t ∷ ys → IsNameToken t.token
      → G (Sub Rule.Dims ∷ and_members i
      ++ ps) (At xs (leaf N.Plain (written t.token) xs ys)) (On b s) ys
      → G (Call (Y.Head i) ∷ ps) b s xs
  head_name i t xs ys b s ps e n g = expand_named (NamedMove.name_member {i = i} {w = written t.token} n.1) (eat_name e n (expand_named NamedMove.after_type g))

  base_type : (t : PlacedToken) (xs ys : List PlacedToken) → xs ≡ t ∷ ys → IsNameToken t.token ⊎ IsWordOf type_words t.token → Has (Part.Type_ (leaf N.Plain (written t.token) xs ys)) xs ys
  base_type t xs ys e (inl i) = (
    λ b s ps g. elim (split_word W.Memory t.token i) [
      | inl j ↦ expand Move.type_name (eat e j g)
      | inr j ↦ expand Move.type_memory (eat e j (expand Move.no_memory_type g))
    ],
    λ d b s ps g. start_name d t xs ys b s ps e i g,
    λ k b s ps g. head_name k t xs ys b s ps e i g,
  )
  base_type t xs ys e (inr i) = (λ b s ps g. expand Move.type_word (eat e i g), λ d b s ps g. start_word d t xs ys b s ps e i g, λ k b s ps g. expand_named NamedMove.word_member (eat e i g))

  -- the type of memories
  memory_local : (d : Site) (xs ys : List PlacedToken) (t : Tree) (s : Below) (ps : List Symbol)
      → G (Sub Rule.Dims ∷ Mark C.Name (Over N.Local) ∷ Sub (Rule.Declared d)
      ∷ ps) (At xs (memory_type xs ys)) s ys → G (Sub (Rule.GreaterThen d) ∷ ps) (At xs t) s ys
  memory_local d xs ys t s ps (Goes.rule Move.no_dims Goes.none (Goes.mark i g)) = expand Move.greater_name (Goes.mark i (expand Move.memory_declared (Goes.act g)))
  memory_local d xs ys t s ps (Goes.rule Move.dims (Goes.act
      (Goes.mark i (Goes.mark j (Goes.act e)))) g) = expand Move.greater_dims
      (Goes.act (Goes.act (Goes.mark i (Goes.mark j (Goes.act (append e g))))))

  start_memory : (d : Site) (v : Tree) (xs ys : List PlacedToken) (b : Entry) (s : Below)
      (ps : List Symbol) → MemoryBase v xs ys → G (Sub Rule.Dims ∷ Mark C.Name (Over N.Local)
      ∷ Sub (Rule.Declared d) ∷ ps) (At xs (memory_type xs ys)) (On b s) ys
      → G (start_at d ps) b s xs
  start_memory Site.Alone v xs ys b s ps h g = expand Move.stmt_memory
      (eat h.3.1 h.3.2 (expand Move.memory_less (eat h.4.1 h.4.2
      (expand Move.less_dfevar (eat h.5.1 h.5.2 (expand Move.dfevar_greater
      (Goes.act (Goes.act (eat h.6.1 h.6.2 (memory_local Site.Alone xs ys _ (On b s) ps g))))))))))
  start_memory Site.Loop v xs ys b s ps h g = expand Move.first_memory
      (eat h.3.1 h.3.2 (expand Move.memory_less (eat h.4.1 h.4.2
      (expand Move.less_dfevar (eat h.5.1 h.5.2 (expand Move.dfevar_greater
      (Goes.act (Goes.act (eat h.6.1 h.6.2 (memory_local Site.Loop xs ys _ (On b s) ps g))))))))))

  -- the word of a token that is this one
  written_word : {w : List ℕ} {xs ys : List PlacedToken} (h : HasWord w xs ys) (k : NodeKind)
      (r : Span) {s : Below} {ps : List Symbol} {zs : List PlacedToken}
      → G ps (At xs (Node k w r Nil)) s zs → G ps (At xs (Node k (written h.0.token) r Nil)) s zs
  written_word {xs = xs} h k r {s = s} {ps = ps} {zs = zs} g = subst (λ v. G ps (At xs (Node k v r Nil)) s zs) (sym (ap written h.2)) g

  type_of_memories : (xs ys : List PlacedToken) (v : Tree) → MemoryBase v xs ys → Has (Part.Type_ (memory_type xs ys)) xs ys
  type_of_memories xs ys v h = (
    λ b s ps g. expand Move.type_memory (eat h.3.1 h.3.2 (expand Move.memory_type (eat h.4.1 h.4.2 (eat h.5.1 h.5.2 (eat h.6.1 h.6.2 (Goes.act (written_word h.3 N.Plain (between xs ys) g))))))),
    λ d b s ps g. start_memory d v xs ys b s ps h g,
    λ i b s ps g. expand_named (NamedMove.name_member {i = i} {w = codes "Memory"} refl)
        (eat_name h.3.1 (h.3.2, refl) (expand_named NamedMove.after_memory
        (eat h.4.1 h.4.2 (eat h.5.1 h.5.2 (eat h.6.1 h.6.2
        (Goes.act (written_word h.3 N.Plain (between xs ys) g))))))),
  )

  some_type : (v : Tree) (xs ys : List PlacedToken) → Has (Part.Base v) xs ys → Has (Part.Type_ v) xs ys
  some_type v xs ys (inl h) = rw h.3 (base_type h.0 xs ys h.1 h.2)
  some_type v xs ys (inr h) = rw h.7 (type_of_memories xs ys v h)

  new_array_expr : (v : Tree) (xs ys zs : List PlacedToken) (x : List PlacedToken) (ts : Trees) (s : Below) (ps : List Symbol) → Has (Part.Base v) xs ys → Children Rule.Sizes ts ys zs
      → G (Sub Rule.FreshTail ∷ ps) (At x (Node N.NewArray [] (between x zs) (Cons v ts))) s zs → G (Sub Rule.NewBase ∷ ps) (At x (fresh N.New [])) s xs
  new_array_expr v xs ys zs x ts s ps (inl (t, e, inl i, f)) k g =
      let a : G (Act Into ∷ Act (Turn N.NewArray) ∷ Sub Rule.Sizes ∷ Act End ∷ Sub Rule.FreshTail ∷ ps) (At xs (leaf N.Plain (written t.token) xs ys)) (On (At x (fresh N.New [])) s) ys =
      subst (λ z. G (Act Into ∷ Act (Turn N.NewArray) ∷ Sub Rule.Sizes ∷ Act End
      ∷ Sub Rule.FreshTail ∷ ps) (At xs z) (On (At x (fresh N.New [])) s) ys) f
      (Goes.act (Goes.act (k _ _ _ _ (Goes.act (shut_at N.NewArray [] no_span (between x zs)
      (one v) ts x s _ zs g))))) in
      elim (split_word W.Memory t.token i) [
        | inl j ↦ expand Move.new_name (eat e j (expand Move.new_array a))
        | inr j ↦ expand Move.new_memory (eat e j (expand Move.new_plain_memory (expand Move.new_array a)))
      ]
  new_array_expr v xs ys zs x ts s ps (inl (t, e, inr i, f)) k g =
      expand Move.new_word (eat e i (subst (λ z. G (Act Into ∷ Act (Turn N.NewArray)
      ∷ Sub Rule.Sizes ∷ Act End ∷ Sub Rule.FreshTail
      ∷ ps) (At xs z) (On (At x (fresh N.New [])) s) ys) f
      (Goes.act (Goes.act (k _ _ _ _ (Goes.act (shut_at N.NewArray [] no_span (between x zs)
      (one v) ts x s _ zs g)))))))
  new_array_expr v xs ys zs x ts s ps (inr h) k g =
      expand Move.new_memory (eat h.3.1 h.3.2 (expand Move.new_memories (eat h.4.1 h.4.2 (eat h.5.1 h.5.2 (eat h.6.1 h.6.2 (Goes.act (written_word h.3 N.Plain (between xs ys)
      (subst (λ z. G (Act Into ∷ Act (Turn N.NewArray) ∷ Sub Rule.Sizes ∷ Act End
      ∷ Sub Rule.FreshTail ∷ ps) (At xs z) (On (At x (fresh N.New [])) s) ys) h.7
      (Goes.act (Goes.act (k _ _ _ _ (Goes.act (shut_at N.NewArray [] no_span (between x zs)
      (one v) ts x s _ zs g)))))))))))))

  new_array_stmt : (v : Tree) (xs ys zs : List PlacedToken) (x : List PlacedToken) (ts : Trees) (s : Below) (ps : List Symbol) → Has (Part.Base v) xs ys → Children Rule.Sizes ts ys zs
      → G (Sub (Rule.Rest Form.Fresh) ∷ ps) (At x (Node N.NewArray [] (between x zs) (Cons v ts))) s zs → G (Sub Rule.NewStmt ∷ ps) (At x (fresh N.New [])) s xs
  new_array_stmt v xs ys zs x ts s ps (inl (t, e, inl i, f)) k g =
      let a : G (Act Into ∷ Act (Turn N.NewArray) ∷ Sub Rule.Sizes ∷ Act End ∷ Sub (Rule.Rest Form.Fresh) ∷ ps) (At xs (leaf N.Plain (written t.token) xs ys)) (On (At x (fresh N.New [])) s) ys =
      subst (λ z. G (Act Into ∷ Act (Turn N.NewArray) ∷ Sub Rule.Sizes ∷ Act End
      ∷ Sub (Rule.Rest Form.Fresh) ∷ ps) (At xs z) (On (At x (fresh N.New [])) s) ys) f
      (Goes.act (Goes.act (k _ _ _ _ (Goes.act (shut_at N.NewArray [] no_span (between x zs)
      (one v) ts x s _ zs g))))) in
      elim (split_word W.Memory t.token i) [
        | inl j ↦ expand Move.stmt_new_name (eat e j (expand Move.stmt_new_array a))
        | inr j ↦ expand Move.stmt_new_memory (eat e j (expand Move.stmt_new_plain_memory (expand Move.stmt_new_array a)))
      ]
  new_array_stmt v xs ys zs x ts s ps (inl (t, e, inr i, f)) k g =
      expand Move.stmt_new_word (eat e i (subst (λ z. G (Act Into ∷ Act (Turn N.NewArray)
      ∷ Sub Rule.Sizes ∷ Act End ∷ Sub (Rule.Rest Form.Fresh)
      ∷ ps) (At xs z) (On (At x (fresh N.New [])) s) ys) f
      (Goes.act (Goes.act (k _ _ _ _ (Goes.act (shut_at N.NewArray [] no_span (between x zs)
      (one v) ts x s _ zs g)))))))
  new_array_stmt v xs ys zs x ts s ps (inr h) k g =
      expand Move.stmt_new_memory (eat h.3.1 h.3.2 (expand Move.stmt_new_memories (eat h.4.1 h.4.2 (eat h.5.1 h.5.2 (eat h.6.1 h.6.2 (Goes.act (written_word h.3 N.Plain (between xs ys)
      (subst (λ z. G (Act Into ∷ Act (Turn N.NewArray) ∷ Sub Rule.Sizes ∷ Act End
      ∷ Sub (Rule.Rest Form.Fresh) ∷ ps) (At xs z) (On (At x (fresh N.New [])) s) ys) h.7
      (Goes.act (Goes.act (k _ _ _ _ (Goes.act (shut_at N.NewArray [] no_span (between x zs)
      (one v) ts x s _ zs g)))))))))))))

  -- a new object
  new_call_expr : (t : PlacedToken) (xs ys : List PlacedToken) (b : Entry) (s : Below)
      (ps : List Symbol) → xs ≡ t ∷ ys → IsNameToken t.token
      → G (Act Named ∷ sign S.Open ∷ Sub Rule.Args ∷ sign S.Close ∷ Act End ∷ Sub Rule.Post
      ∷ ps) (At xs (leaf N.Plain (written t.token) xs ys)) (On b s) ys
      → G (Sub Rule.NewBase ∷ ps) b s xs
  new_call_expr t xs ys b s ps e i g = elim (split_word W.Memory t.token i) [
    | inl j ↦ expand Move.new_name (eat e j (expand Move.new_call g))
    | inr j ↦ expand Move.new_memory (eat e j (expand Move.new_plain_memory (expand Move.new_call g)))
  ]

  new_call_stmt : (t : PlacedToken) (xs ys : List PlacedToken) (b : Entry) (s : Below)
      (ps : List Symbol) → xs ≡ t ∷ ys → IsNameToken t.token
      → G (Act Named ∷ sign S.Open ∷ Sub Rule.Args ∷ sign S.Close ∷ Act End
      ∷ Sub (Rule.Rest Form.Call) ∷ ps) (At xs (leaf N.Plain (written t.token) xs ys))
      (On b s) ys → G (Sub Rule.NewStmt ∷ ps) b s xs
  new_call_stmt t xs ys b s ps e i g = elim (split_word W.Memory t.token i) [
    | inl j ↦ expand Move.stmt_new_name (eat e j (expand Move.stmt_new_call g))
    | inr j ↦ expand Move.stmt_new_memory (eat e j (expand Move.stmt_new_plain_memory (expand Move.stmt_new_call g)))
  ]

  -- declarations
  final_plain : (xs ys : List PlacedToken) → Has Part.MaybeFinal xs ys → Plain Rule.MaybeFinal xs ys
  final_plain xs ys (inl f) b s ps g = expand Move.not_final (subst (λ l. G ps b s l) (sym f) g)
  final_plain xs ys (inr f) b s ps g = expand Move.final (eat f.1 f.2 g)

  local_by : (xs ys ms ns : List PlacedToken) (t : Tree) (v : PlacedToken) (b : Entry)
      (s : Below) (ps : List Symbol) → Has Part.MaybeFinal xs ys → Has (Part.Type_ t) ys ms
      → ms ≡ v ∷ ns → IsNameToken v.token
      → G (Sub (Rule.Declared Site.Alone) ∷ ps) (At xs (Node N.Local (written v.token) no_span (one t))) (On b s) ns → G (Sub Rule.Stmt ∷ ps) b s xs
  local_by xs ys ms ns t v b s ps (inl f) h e i g = (subst (λ z. Has (Part.Type_ t) z ms) (sym f) h).1 Site.Alone b s ps (expand Move.no_dims (eat e i g))
  local_by xs ys ms ns t v b s ps (inr f) h e i g = expand Move.stmt_final (Goes.act (eat f.1 f.2 (h.0 _ _ _ (expand Move.no_dims (Goes.act (eat e i g))))))

  declared_by : (xs ms ys : List PlacedToken) (ts : Trees) (x : List PlacedToken) (a : Tree)
      (s : Below) (ps : List Symbol) → Has (Part.MaybeInit ts) xs ms → HasSign (codes ";") ms ys
      → G ps (At x (spanned (between x ys) (adds a ts))) s ys
      → G (Sub (Rule.Declared Site.Alone) ∷ ps) (At x a) s xs
  declared_by xs ms ys ts x a s ps (inl h) q g =
      expand Move.declared (eat (h.0 ∙ q.1) q.2 (Goes.act (subst (λ z. G ps (At x (spanned (between x ys) (adds a z))) s ys) h.1 g)))
  declared_by xs ms ys ts x a s ps (inr h) q g =
      expand Move.declared_init (eat h.3.1 h.3.2 (h.4 _ _ _ (Goes.act (eat q.1 q.2 (Goes.act (subst (λ z. G ps (At x (spanned (between x ys) (adds a z))) s ys) h.2 g))))))

  field_by : (xs ms ys : List PlacedToken) (ts : Trees) (x : List PlacedToken) (a : Tree)
      (s : Below) (ps : List Symbol) → Has (Part.MaybeInit ts) xs ms → HasSign (codes ";") ms ys
      → G ps (At x (spanned (between x ys) (adds a ts))) s ys
      → G (Sub Rule.Declares ∷ ps) (At x a) s xs
  field_by xs ms ys ts x a s ps (inl h) q g =
      expand Move.declares_field (eat (h.0 ∙ q.1) q.2 (Goes.act (subst (λ z. G ps (At x (spanned (between x ys) (adds a z))) s ys) h.1 g)))
  field_by xs ms ys ts x a s ps (inr h) q g =
      expand Move.declares_value (eat h.3.1 h.3.2 (h.4 _ _ _ (Goes.act (eat q.1 q.2 (Goes.act (subst (λ z. G ps (At x (spanned (between x ys) (adds a z))) s ys) h.2 g))))))

  -- a method whose result is a type
  as_method : (i : Inside) {b : Entry} {s : Below} {ps : List Symbol} {xs : List PlacedToken}
      → G (Act Into ∷ Mark C.Name Text ∷ Act (Turn N.Method) ∷ Sub Rule.MethodRest ∷ Act Into
      ∷ Call (Y.Members i) ∷ ps) b s xs → G (and_members i ++ ps) b s xs
  as_method i (Goes.act (Goes.mark j (Goes.act g))) = Goes.act (Goes.mark j (expand Move.declares_method (Goes.act g)))

  ctor_by : (m : ClassKind) (w : List ℕ) (o : Bool) (b : Entry) (s : Below) (ps : List Symbol)
      (xs : List PlacedToken) → o ≡ true → (k : Bool) → G (Act Named ∷ Act (Turn N.Ctor)
      ∷ sign S.Open ∷ Sub (Rule.Opening m) ∷ Act Into ∷ Call (Y.Members (inside m w false))
      ∷ ps) b s xs
      → G (Call (Y.After (inside m w true) o k) ∷ ps) b s xs
  ctor_by m w o b s ps xs e k g = subst (λ z. G (Call (Y.After (inside m w true) z k) ∷ ps) b s xs) (sym e) (expand_named NamedMove.after_ctor g)

  handed_by : (m : ClassKind) (xs m1 m2 ys : List PlacedToken) (p w : List ℕ) (t : Tree)
      (x : List PlacedToken) (a : Tree) (s : Below) (ps : List Symbol) → w ≡ handed_word m
      → Has Part.MaybeFinal xs m1 → Has (Part.HandedType w t) m1 m2 → Has (Part.Id p) m2 ys
      → G (more_of m ++ sign S.Close ∷ constructing p ++ ps) (At x (add a (Node N.Param p (between xs ys) (one t)))) s ys → G (Sub (Rule.Opening m) ∷ ps) (At x a) s xs
  handed_by m xs m1 m2 ys p w t x a s ps o f h q g = by_kind m
      (h.2 ∙ ap (λ v. Token.Word v) o) n (subst (λ v. G (more_of m ++ sign S.Close
      ∷ constructing p ++ ps) (At x (add a (Node N.Param v (between xs ys)
      (one (leaf N.Plain (written h.0.token) m1 m2))))) s ys) q.3 (subst (λ z. G (more_of m
      ++ sign S.Close ∷ constructing p
      ++ ps) (At x (add a (Node N.Param p (between xs ys) (one z)))) s ys) h.3 g))
    where
      n : (q.0.token ≡ Token.Word p) × (is_name p ≡ true)
      n = (q.2.0 ∙ sym (ap (λ v. Token.Word v) q.3), subst (λ v. is_name v ≡ true) (sym q.3) q.2.1)

      by_kind : (m : ClassKind) → h.0.token ≡ Token.Word (handed_word m) → (q.0.token ≡ Token.Word p)
          × (is_name p ≡ true) → G (more_of m ++ sign S.Close ∷ constructing p
          ++ ps) (At x (add a (Node N.Param (written q.0.token) (between xs ys)
          (one (leaf N.Plain (written h.0.token) m1 m2))))) s ys
          → G (Sub (Rule.Opening m) ∷ ps) (At x a) s xs
      by_kind ClassKind.Kernel i n g =
          expand Move.kernel_opening (Goes.act (final_plain xs m1 f _ _ _
          (eat h.1 i (Goes.act (expand_named (NamedMove.first_param {m = ClassKind.Kernel} {w = p} n.1)
          (eat_name q.1 n (expand Move.kernel_opened (Goes.act (Goes.act g)))))))))
      by_kind ClassKind.Manager i n g =
          expand Move.manager_opening (Goes.act (final_plain xs m1 f _ _ _
          (eat h.1 i (Goes.act (expand_named (NamedMove.first_param {m = ClassKind.Manager} {w = p} n.1)
          (eat_name q.1 n (expand Move.manager_opened (Goes.act (Goes.act g)))))))))

  class_by : (m : ClassKind) (w : List ℕ) (ts : Trees)
      (xs m1 m2 m3 m4 m5 m6 m7 ys : List PlacedToken) → Has Part.Mods xs m1
      → HasWord (codes "class") m1 m2 → Has (Part.Id w) m2 m3 → HasWord (codes "extends") m3 m4
      → HasWord (parent m) m4 m5 → HasSign (codes "{") m5 m6
      → Has (Part.Members m w true ts) m6 m7 → HasSign (codes "}") m7 ys → Has (Part.Class_ (record { name = w; manager = is_manager m; tree = Node N.Class w (between xs ys) ts })) xs ys
  class_by m w ts xs m1 m2 m3 m4 m5 m6 m7 ys mods q id ex pa q6 mem q8 = λ b s ps g.
      let own : Token.Word w ≡ Token.Word (written id.0.token) = ap (λ v. Token.Word v) id.3 in
      let n : (id.0.token ≡ Token.Word w) × (is_name w ≡ true) = (id.2.0 ∙ sym own, subst (λ v. is_name v ≡ true) (sym id.3) id.2.1) in
      expand Move.class (Goes.act (mods _ _ _ (eat q.1 q.2 (expand_named (NamedMove.class_name {w = w} n.1) (eat_name id.1 n (eat ex.1 ex.2
      (subst (λ v. G (Call (Y.Parent w) ∷ ps) (At xs (fresh N.Class v)) (On b s) m4) id.3 (by_parent m b s ps pa mem g))))))))
    where
      by_parent : (m : ClassKind) (b : Entry) (s : Below) (ps : List Symbol) → HasWord (parent m) m4 m5 → Has (Part.Members m w true ts) m6 m7 → G ps b (add_classes s (record {
        name = w;
        manager = is_manager m;
        tree = Node N.Class w (between xs ys) ts;
      } ∷ [])) ys
          → G (Call (Y.Parent w) ∷ ps) (At xs (fresh N.Class w)) (On b s) m4
      by_parent ClassKind.Kernel b s ps pa mem g =
          expand_named NamedMove.kernel (eat pa.1 pa.2 (eat q6.1 q6.2
          (mem _ _ _ _ (eat q8.1 q8.2 (Goes.act (Goes.act
          (subst (λ z. G ps b (add_classes s (class_of ClassKind.Kernel z
          ∷ [])) ys) (sym (shut N.Class w no_span (between xs ys) Nil ts)) g)))))))
      by_parent ClassKind.Manager b s ps pa mem g =
          expand_named NamedMove.manager (eat pa.1 pa.2
          (eat q6.1 q6.2 (mem _ _ _ _ (eat q8.1 q8.2
          (Goes.act (Goes.act (subst (λ z. G ps b (add_classes s (class_of ClassKind.Manager z
          ∷ [])) ys) (sym (shut N.Class w no_span (between xs ys) Nil ts)) g)))))))

  choose : {at : Span} {p : Part} {qs : List Part} → Choice at p qs → (xs : List PlacedToken) → Known qs xs (λ ys. at ≡ between xs ys → Has p xs ys)
  choose Choice.base_name xs = λ ys h e. inl (h.0, h.1, inl h.2, let f = h.3 in cc)
  choose Choice.base_word xs = λ ys h e. inl (h.0, h.1, inr h.2, let f = h.3 in cc)
  choose Choice.base_memory xs = λ m1 q1. λ m2 q2. λ m3 q3. λ ys q4 e. inr (m1, m2, m3, q1, q2, q3, q4, ap (λ z. Node N.Plain (codes "Memory") z Nil) e)
  choose (Choice.just_base {t = base}) xs = λ ys h e. some_type base xs ys h
  choose {at = at} Choice.array_of xs = λ m h. λ m1 q1. λ ys q2 e. rw e (
    (λ b s ps g. h.0 b s ps (expand Move.dims (Goes.act (eat q1.1 q1.2 (eat q2.1 q2.2 (Goes.act g)))))),
    (λ d b s ps g. h.1 d b s ps (expand Move.dims (Goes.act (eat q1.1 q1.2 (eat q2.1 q2.2 (Goes.act g)))))),
    (λ i b s ps g. h.2 i b s ps (expand Move.dims (Goes.act (eat q1.1 q1.2 (eat q2.1 q2.2 (Goes.act g)))))),
  )
  choose {at = at} Choice.cond xs = λ m h. λ m1 q1. λ m2 h2. λ m3 q3. λ ys h4 e. rw e (
    (λ b s ps g. expand Move.expr (h.0 b s _ (expand Move.no_tail (expand Move.cond (Goes.act (eat q1.1 q1.2 (h2.0 _ _ _ (Goes.act (eat q3.1 q3.2 (h4.0 _ _ _ (Goes.act (Goes.act g)))))))))))),
    (λ d b s ps g. h.1 (Sub Rule.CondTail
        ∷ connecting) refl d b s ps (expand Move.no_tail
        (expand Move.cond (Goes.act (eat q1.1 q1.2 (h2.0 _ _ _
        (Goes.act (eat q3.1 q3.2 (h4.0 _ _ _ (Goes.act (Goes.act g))))))))))),
  )
  choose Choice.no_cond xs = λ ys h e. (
    (λ b s ps g. expand Move.expr (h.0 b s _ (expand Move.no_tail (expand Move.no_cond g)))),
    (λ d b s ps g. h.1 (Sub Rule.CondTail ∷ connecting) refl d b s ps (expand Move.no_tail (expand Move.no_cond g))),
  )
  choose {at = at} (Choice.joined {l = l} {s = w} u) xs = λ m h. λ m1 q. λ ys k e. rw e (rw q.3 (
    (λ b s ps g. h.0 b s ps (opened u _ _ _ _ (expand (Move.tail u) (eat q.1 q.2 (k.0 _ _ _ (skip l (Goes.act (Goes.act (tailed u _ _ _ _ g))))))))),
    (λ r f d b s ps g. h.1 r f d b s ps (opened u _ _ _ _ (expand (Move.tail u) (eat q.1 q.2 (k.0 _ _ _ (skip l (Goes.act (Goes.act (tailed u _ _ _ _ g))))))))),
  ))
  choose (Choice.tighter {l = l} {k = k} u) xs = λ ys h e. (
    (λ b s ps g. expand (Move.operand u) (h.0 b s _ (skip l (tailed u _ _ _ _ g)))),
    (λ r f d b s ps g. h.1 (Sub (Rule.Tail k) ∷ r) (sym (below_above u r) ∙ f) d b s ps (skip l (tailed u _ _ _ _ g))),
  )
  choose {at = at} (Choice.prefix {s = w} {a = a}) xs = λ m q. λ ys h e. rw e (rw q.3 (
    (λ b s ps g. expand Move.prefix (eat q.1 q.2 (h.0 _ _ _ (Goes.act (Goes.act g))))),
    (λ r f d b s ps g. other d b s ps xs (expand Move.other_prefix (eat q.1 q.2 (h.0 _ _ _ (Goes.act (Goes.act
        (subst (λ z. G (z ++ rest d ps) (At xs (Node N.Prefix (written q.0.token) (between xs ys) (one a))) (On b s) ys) f g))))))),
  ))
  choose (Choice.no_prefix {a = a}) xs = λ ys h e. (
    (λ b s ps g. expand Move.no_prefix (h.0 b s ps g)),
    (λ r f d b s ps g. h.2 d b s ps (subst (λ z. G (z ++ rest d ps) (At xs a) (On b s) ys) f g)),
  )
  choose Choice.open_form xs = λ ys h e. (
    (λ b s ps g. h.0 b s ps (expand Move.no_post g)),
    (λ b s ps g. h.0 b s ps (expand Move.dot g)),
    (λ d b s ps g. h.1 d b s ps (expand Move.free_onward g)),
    (λ d b s ps g. h.1 d b s ps (expand Move.free_dot g)),
  )
  choose Choice.array_form xs = λ ys h e. (
    (λ b s ps g. h.0 b s ps (expand Move.no_fresh_dot g)),
    (λ b s ps g. h.0 b s ps (expand Move.fresh_dot g)),
    (λ d b s ps g. h.1 d b s ps (expand Move.array_onward g)),
    (λ d b s ps g. h.1 d b s ps (expand Move.array_dot g)),
  )
  choose {at = at} (Choice.literal {k = k} {w = w}) xs = λ ys h e. rw e (rw h.3 (rw h.4 (
    (λ b s ps g. expand Move.literal (eat h.1 h.2 g)),
    (λ d b s ps g. other d b s ps xs (expand Move.other_literal (eat h.1 h.2 g))),
  )))
  choose {at = at} (Choice.value_word {w = w}) xs = λ ys h e. rw e (rw h.3 (
    (λ b s ps g. expand Move.value_word (eat h.1 h.2 g)),
    (λ d b s ps g. other d b s ps xs (expand Move.other_value (eat h.1 h.2 g))),
  ))
  choose {at = at} (Choice.name {w = w}) xs = λ ys h e. rw e (rw h.3 (
    (λ b s ps g. expand Move.name (eat h.1 h.2 (expand Move.not_called g))),
    (λ d b s ps g. named_place d b s ps xs ys h.0 h.1 h.2 (free_place g)),
  ))
  choose Choice.call xs = λ ys h e. (h.0, λ d b s ps g. h.1 d b s ps (free_call g))
  choose Choice.parentheses xs = λ m q. λ m1 h. λ ys q2 e. (
    (λ b s ps g. expand Move.parentheses (Goes.act (eat q.1 q.2 (h.0 _ _ _ (eat q2.1 q2.2 (Goes.act g)))))),
    (λ d b s ps g. other d b s ps xs (expand Move.other_parentheses (Goes.act (eat q.1 q.2 (h.0 _ _ _ (eat q2.1 q2.2 (Goes.act g))))))),
  )
  choose {at = at} (Choice.dot {w = w}) xs = λ m h. λ m1 q. λ ys q1 e. rw e (rw q1.3 (
    (λ b s ps g. h.1 b s ps (eat q.1 q.2 (eat q1.1 q1.2 (expand Move.dot_name (Goes.act g))))),
    (λ d b s ps g. h.3 d b s ps (eat q.1 q.2 (eat q1.1 q1.2 (expand Move.dotted_name (Goes.act g))))),
  ))
  choose {at = at} Choice.index xs = λ m h. λ m1 q. λ m2 k. λ ys q2 e. rw e (
    (λ b s ps g. h.0 b s ps (expand Move.index (Goes.act (eat q.1 q.2 (k.0 _ _ _ (Goes.act (eat q2.1 q2.2 (Goes.act g)))))))),
    (λ d b s ps g. h.1 d b s ps (expand Move.free_index (Goes.act (eat q.1 q.2 (k.0 _ _ _ (Goes.act (eat q2.1 q2.2 (Goes.act g)))))))),
  )
  choose {at = at} (Choice.call_name {w = w} {ts = ts}) xs = λ m q. λ m1 q1. λ m2 h. λ ys q3 e. rw e (rw q.3 (
    (λ b s ps g. expand Move.name (eat q.1 q.2 (expand Move.called
        (Goes.act (eat q1.1 q1.2 (h _ _ _ _ (eat q3.1 q3.2
        (Goes.act (shut_at N.Call (written q.0.token) (between xs m) (between xs ys) Nil ts xs
        (On b s) _ ys g))))))))),
    (λ d b s ps g. named_call d b s ps xs m q.0 q.1 q.2
        (Goes.act (eat q1.1 q1.2 (h _ _ _ _ (eat q3.1 q3.2
        (Goes.act (shut_at N.Call (written q.0.token) (between xs m) (between xs ys) Nil ts xs
        (On b s) _ ys g))))))),
  ))
  choose {at = at} (Choice.call_dot {w = w} {a = a} {ts = ts}) xs = λ m h. λ m1 q. λ m2 q1. λ m3 q2. λ m4 k. λ ys q3 e. rw e (rw q1.3 (
    (λ b s ps g. h.1 b s ps (eat q.1 q.2 (eat q1.1 q1.2
        (expand Move.dot_call (Goes.act (eat q2.1 q2.2 (k _ _ _ _
        (eat q3.1 q3.2 (Goes.act (shut_at N.DotCall (written q1.0.token) no_span (between xs ys)
        (one a) ts xs (On b s) _ ys g)))))))))),
    (λ d b s ps g. h.3 d b s ps (eat q.1 q.2 (eat q1.1 q1.2
        (expand Move.dotted_call (Goes.act (eat q2.1 q2.2
        (k _ _ _ _ (eat q3.1 q3.2 (Goes.act (shut_at N.DotCall (written q1.0.token) no_span
        (between xs ys) (one a) ts xs (On b s) _ ys g)))))))))),
  ))
  choose {at = at} (Choice.call_new {w = w} {ts = ts}) xs = λ m q. λ m1 q1. λ m2 q2. λ m3 k. λ ys q3 e. rw e (rw q1.3 (
    (λ b s ps g. expand Move.new (Goes.act (eat q.1 q.2
        (new_call_expr q1.0 m m1 _ _ _ q1.1 q1.2 (Goes.act
        (eat q2.1 q2.2 (k _ _ _ _ (eat q3.1 q3.2 (Goes.act
        (shut_at N.New (written q1.0.token) no_span (between xs ys) Nil ts xs
        (On b s) _ ys g)))))))))),
    (λ d b s ps g. other d b s ps xs (expand Move.other_new
        (Goes.act (eat q.1 q.2 (new_call_stmt q1.0 m m1 _ _ _ q1.1 q1.2
        (Goes.act (eat q2.1 q2.2 (k _ _ _ _ (eat q3.1 q3.2
        (Goes.act (shut_at N.New (written q1.0.token) no_span (between xs ys) Nil ts xs
        (On b s) _ ys g))))))))))),
  ))
  choose {at = at} (Choice.array {b = base} {ts = ts}) xs = λ m q. λ m1 h. λ ys k e. rw e (
    (λ b s ps g. expand Move.new (Goes.act (eat q.1 q.2 (new_array_expr base m m1 ys xs ts (On b s) _ h k g)))),
    (λ d b s ps g. other d b s ps xs (expand Move.other_new (Goes.act (eat q.1 q.2 (new_array_stmt base m m1 ys xs ts (On b s) _ h k g))))),
  )
  choose Choice.sizes xs = λ m q. λ m1 h. λ m2 q1. λ ys k e. λ x a s ps g. expand Move.sizes (eat q.1 q.2 (h.0 _ _ _ (Goes.act (eat q1.1 q1.2 (k _ _ _ _ g)))))
  choose Choice.more_sizes xs = λ ys k e. λ x a s ps g. expand Move.more_sizes (k _ _ _ _ g)
  choose Choice.no_more_sizes xs = λ e. λ x a s ps g. expand Move.no_more_sizes g
  choose Choice.args xs = λ m h. λ ys k e. λ x a s ps g. expand Move.args (h.0 _ _ _ (Goes.act (k _ _ _ _ g)))
  choose Choice.no_args xs = λ e. λ x a s ps g. expand Move.no_args g
  choose Choice.more_args xs = λ m0 q. λ m h. λ ys k e. λ x a s ps g. expand Move.more_args (eat q.1 q.2 (h.0 _ _ _ (Goes.act (k _ _ _ _ g))))
  choose Choice.no_more_args xs = λ e. λ x a s ps g. expand Move.no_more_args g
  choose {at = at} (Choice.place_name {w = w}) xs = λ ys h e. rw e (rw h.3 (λ d b s ps g. named_place d b s ps xs ys h.0 h.1 h.2 g))
  choose {at = at} Choice.place_index xs = λ m h. λ m1 q. λ m2 k. λ ys q2 e. rw e
      (λ d b s ps g. h d b s ps (expand Move.place_index
      (Goes.act (eat q.1 q.2 (k.0 _ _ _ (Goes.act (eat q2.1 q2.2 (Goes.act g))))))))
  choose {at = at} (Choice.set {s = w}) xs = λ m h. λ m1 q. λ ys k e. rw e
      (rw q.3 (λ d b s ps g. h d b s ps (expand Move.place_bare
      (expand Move.set (eat q.1 q.2 (k.0 _ _ _ (Goes.act (Goes.act g))))))))
  choose {at = at} (Choice.count {s = w}) xs = λ m h. λ ys q e. rw e (rw q.3 (λ d b s ps g. h d b s ps (expand Move.place_bare (expand Move.count (eat q.1 q.2 (Goes.act g))))))
  choose {at = at} Choice.connect xs = λ m h. λ m1 q. λ ys k e. rw e (λ d b s ps g. h.1 d b s ps (Goes.act (eat q.1 q.2 (k.0 _ _ _ (Goes.act (Goes.act g))))))
  choose {at = at} Choice.run xs = λ ys h e. rw e (λ d b s ps g. h.1 d b s ps (expand Move.run (Goes.act (Goes.act g))))
  choose Choice.init_expr xs = λ ys h e. λ b s ps g. expand Move.init (h.0 _ _ _ g)
  choose {at = at} (Choice.init_braces {ts = ts}) xs = λ m q. λ m1 h. λ ys q1 e. rw e
      (λ b s ps g. expand Move.braces (Goes.act (eat q.1 q.2
      (h _ _ _ _ (eat q1.1 q1.2 (Goes.act (shut_at N.Braces [] no_span (between xs ys) Nil ts xs
      (On b s) _ ys g)))))))
  choose Choice.inits xs = λ m h. λ ys k e. λ x a s ps g. expand Move.inits (h _ _ _ (Goes.act (k _ _ _ _ g)))
  choose Choice.no_inits xs = λ e. λ x a s ps g. expand Move.no_inits g
  choose Choice.more_inits xs = λ m0 q. λ m h. λ ys k e. λ x a s ps g. expand Move.more_inits (eat q.1 q.2 (h _ _ _ (Goes.act (k _ _ _ _ g))))
  choose Choice.no_more_inits xs = λ e. λ x a s ps g. expand Move.no_more_inits g
  choose {at = at} (Choice.block {ts = ts}) xs = λ m q. λ m1 h. λ ys q1 e. rw e
      (λ b s ps g. expand Move.block (Goes.act (eat q.1 q.2
      (h _ _ _ _ (eat q1.1 q1.2 (Goes.act (shut_at N.Block [] no_span (between xs ys) Nil ts xs
      (On b s) _ ys g)))))))
  choose Choice.stmts xs = λ m h. λ ys k e. λ x a s ps g. expand Move.stmts (h _ _ _ (Goes.act (k _ _ _ _ g)))
  choose Choice.no_stmts xs = λ e. λ x a s ps g. expand Move.no_stmts g
  choose Choice.block_stmt xs = λ ys h e. λ b s ps g. expand Move.stmt_block (h _ _ _ g)
  choose Choice.final xs = λ ys q e. inr q
  choose Choice.not_final xs = λ e. inl refl
  choose {at = at} (Choice.local {w = w} {t = t} {ts = ts}) xs = λ m o. λ m1 h. λ m2 q. λ m3 k. λ ys q1 e. rw e (rw q.3 (λ b s ps g.
      local_by xs m m1 m2 t q.0 b s _ o h q.1 q.2 (declared_by m2 m3 ys ts xs
      (Node N.Local (written q.0.token) no_span (one t)) (On b s) _ k q1
      (shut_at N.Local (written q.0.token) no_span (between xs ys) (one t) ts xs
      (On b s) _ ys g))))
  choose Choice.simple_stmt xs = λ m h. λ ys q e. λ b s ps g. h InStmt b s ps (eat q.1 q.2 g)
  choose Choice.return_stmt xs = λ ys h e. λ b s ps g. expand Move.stmt_return (h b s _ g)
  choose {at = at} Choice.return_nothing xs = λ m q. λ ys q1 e. rw e (λ b s ps g. Goes.act (eat q.1 q.2 (expand Move.return_none (eat q1.1 q1.2 (Goes.act g)))))
  choose {at = at} Choice.return_value xs = λ m q. λ m1 h. λ ys q1 e. rw e (λ b s ps g. Goes.act (eat q.1 q.2 (expand Move.return_value (h.0 _ _ _ (Goes.act (eat q1.1 q1.2 (Goes.act g)))))))
  choose {at = at} (Choice.if_stmt {c = d} {b = a} {ts = ts} {us = us}) xs = λ m1 q1. λ m2 q2. λ m3 h3. λ m4 q4. λ m5 h5. λ m6 k. λ ys l e. rw e (λ b s ps g.
      expand Move.stmt_if (Goes.act (eat q1.1 q1.2 (eat q2.1 q2.2
      (h3.0 _ _ _ (Goes.act (eat q4.1 q4.2 (h5 _ _ _
      (Goes.act (k _ _ _ _ (l _ _ _ _ (Goes.act (shut_two N.If [] no_span (between xs ys)
      (two d a) ts us xs (On b s) _ ys g)))))))))))))
  choose Choice.else_if xs = λ m0 q0. λ m1 q1. λ m2 q2. λ m3 h3. λ m4 q4. λ m5 h5. λ ys k e. λ x a s ps g.
      expand Move.else_tail (eat q0.1 q0.2 (expand Move.else_if (eat q1.1 q1.2 (eat q2.1 q2.2 (h3.0 _ _ _ (Goes.act (eat q4.1 q4.2 (h5 _ _ _ (Goes.act (k _ _ _ _ g))))))))))
  choose Choice.no_else_if xs = λ e. λ x a s ps g. g
  choose Choice.otherwise xs = λ m q. λ ys h e. λ x a s ps g. expand Move.else_tail (eat q.1 q.2 (expand Move.otherwise (h _ _ _ (Goes.act g))))
  choose Choice.no_else xs = λ e. λ x a s ps g. expand Move.no_else g
  choose {at = at} Choice.while_stmt xs = λ m1 q1. λ m2 q2. λ m3 h3. λ m4 q4. λ ys h5 e. rw e
      (λ b s ps g. expand Move.stmt_while (Goes.act (eat q1.1 q1.2
      (eat q2.1 q2.2 (h3.0 _ _ _ (Goes.act (eat q4.1 q4.2 (h5 _ _ _ (Goes.act (Goes.act g))))))))))
  choose {at = at} Choice.for_stmt xs = λ m1 q1. λ m2 q2. λ m3 h3. λ m4 q4. λ m5 h5. λ m6 q6. λ m7 h7. λ m8 q8. λ ys h9 e. rw e (λ b s ps g.
      expand Move.stmt_for (Goes.act (eat q1.1 q1.2 (eat q2.1 q2.2
      (h3 (ap from_of q4.1 ∙ q4.3) _ _ _ (Goes.act (eat q4.1 q4.2
      (h5 (ap from_of q6.1 ∙ q6.3) _ _ _ (Goes.act (eat q6.1 q6.2
      (h7 (ap from_of q8.1 ∙ q8.3) _ _ _ (Goes.act (eat q8.1 q8.2
      (h9 _ _ _ (Goes.act (Goes.act g))))))))))))))))
  choose {at = at} (Choice.first_local {w = w}) xs = λ m h. λ m1 q. λ m2 q1. λ ys k e. rw e
      (rw q.3 (λ f b s ps g. h.1 Site.Loop b s ps (expand Move.no_dims
      (eat q.1 q.2 (expand Move.declared_loop (eat q1.1 q1.2
      (k.0 _ _ _ (Goes.act (Goes.act g)))))))))
  choose Choice.first_simple xs = λ ys h e. λ f b s ps g. h InFirst b s ps g
  choose Choice.no_first xs = λ e. λ f b s ps g. expand Move.no_first (Goes.act (subst (λ z. G ps (At xs (absent z)) (On b s) xs) (sym f) g))
  choose Choice.test xs = λ ys h e. λ f b s ps g. expand Move.test (h.0 _ _ _ g)
  choose Choice.no_test xs = λ e. λ f b s ps g. expand Move.no_test (Goes.act (subst (λ z. G ps (At xs (absent z)) (On b s) xs) (sym f) g))
  choose Choice.step xs = λ ys h e. λ f b s ps g. expand Move.step (h InSimple b s ps g)
  choose Choice.no_step xs = λ e. λ f b s ps g. expand Move.no_step (Goes.act (subst (λ z. G ps (At xs (absent z)) (On b s) xs) (sym f) g))
  choose {at = at} Choice.empty_stmt xs = λ ys q e. rw e (λ b s ps g. expand Move.stmt_empty (Goes.act (eat q.1 q.2 (Goes.act g))))
  choose Choice.body_block xs = λ ys h e. λ b s ps g. expand Move.body_block (h _ _ _ g)
  choose Choice.body_simple xs = λ m h. λ ys q e. λ b s ps g. expand Move.body_simple (h InSimple _ _ _ (eat q.1 q.2 g))
  choose Choice.body_return xs = λ ys h e. λ b s ps g. expand Move.body_return (h _ _ _ g)
  -- files and classes
  choose (Choice.file {c = k}
      {cs = cs}) xs = λ m0 p. λ m1 i. λ m2 h. λ ys r e. λ b s ps g. expand Move.file
      (p _ _ _ (i _ _ _ (h _ _ _ (r _ _ _ (subst (λ z. G ps b z ys) (sym (add_twice s (k
      ∷ []) cs)) g)))))
  choose Choice.no_package xs = λ e. λ b s ps g. expand Move.no_package g
  choose Choice.package_line xs = λ m q. λ m1 h. λ ys q1 e. λ b s ps g. expand Move.package_line (eat q.1 q.2 (h.0 _ _ _ (eat q1.1 q1.2 g)))
  choose Choice.no_imports xs = λ e. λ b s ps g. expand Move.no_imports g
  choose Choice.imports xs = λ m h. λ ys k e. λ b s ps g. h b s ps (k b s ps g)
  choose Choice.import_line xs = λ m q. λ m1 st. λ m2 h. λ m3 k. λ ys q1 e. λ b s ps g. expand Move.imports (eat q.1 q.2 (st _ _ _ (h.1 _ _ _ (k _ _ _ (eat q1.1 q1.2 g)))))
  choose Choice.no_static xs = λ e. λ b s ps g. expand Move.not_static g
  choose Choice.static_import xs = λ ys q e. λ b s ps g. expand Move.static (eat q.1 q.2 g)
  choose Choice.path xs = λ m q. λ ys h e. ((λ b s ps g. expand Move.path (eat q.1 q.2 (h.0 _ _ _ g))), (λ b s ps g. eat q.1 q.2 (h.1 _ _ _ g)))
  choose Choice.no_more_path xs = λ e. ((λ b s ps g. expand Move.no_more_path g), (λ b s ps g. g))
  choose Choice.more_path xs = λ m q. λ m1 q1. λ ys h e. (
    (λ b s ps g. expand Move.more_path (eat q.1 q.2 (eat q1.1 q1.2 (h.0 _ _ _ g)))),
    (λ b s ps g. expand Move.import_more (eat q.1 q.2 (expand Move.import_name (eat q1.1 q1.2 (h.1 _ _ _ g))))),
  )
  choose Choice.not_all xs = λ e. λ b s ps g. expand Move.no_import_more g
  choose Choice.all xs = λ m q. λ ys q1 e. λ b s ps g. expand Move.import_more (eat q.1 q.2 (expand Move.import_all (eat q1.1 q1.2 g)))
  choose Choice.no_classes xs = λ e. λ b s ps g. expand Move.no_classes (subst (λ z. G ps b z xs) (sym (add_none s)) g)
  choose (Choice.more_classes {c = k} {cs = cs}) xs = λ m h. λ ys r e. λ b s ps g. expand Move.classes (h _ _ _ (r _ _ _ (subst (λ z. G ps b z ys) (sym (add_twice s (k ∷ []) cs)) g)))
  choose (Choice.one_class {name = w} {kind = m}
      {ts = ts}) xs = λ m1 h1. λ m2 h2. λ m3 h3. λ m4 h4. λ m5 h5. λ m6 h6. λ m7 h7. λ ys h8 e.
      rw e (class_by m w ts xs m1 m2 m3 m4 m5 m6 m7 ys h1 h2 h3 h4 h5 h6 h7 h8)
  choose Choice.no_mods xs = λ e. λ b s ps g. expand Move.no_mods g
  choose Choice.mods xs = λ m q. λ ys h e. λ b s ps g. expand Move.mods (eat q.1 q.2 (h _ _ _ g))
  choose Choice.no_members xs = λ e. λ x a s ps g. expand_named NamedMove.no_member g
  choose (Choice.member {kind = m} {some = u} {name = w}) xs = λ n h. λ ys k e. λ x a s ps g. h (inside m w u) x a s ps (k _ _ _ _ g)
  choose Choice.the_ctor xs = λ n h. λ ys k e. λ x a s ps g. h x a s ps (k _ _ _ _ g)
  choose {at = at} (Choice.field {w = w} {t = t} {ts = ts}) xs = λ m1 mods. λ m2 ty. λ m3 q. λ m4 k. λ ys q1 e. rw e (rw q.3 (λ i x a s ps g.
      expand_named NamedMove.member (Goes.act (mods _ _ _
      (ty.2 i _ _ _ (expand Move.no_dims (Goes.act (eat q.1 q.2
      (field_by m3 m4 ys ts xs (Node N.Field (written q.0.token) no_span (one t))
      (On (At x a) s) _ k q1
      (shut_at N.Field (written q.0.token) no_span (between xs ys) (one t) ts xs (On (At x a) s) _ ys (Goes.act g)))))))))))
  choose {at = at} (Choice.method {w = w} {r = r} {b = body} {ps = ts}) xs = λ m1 mods. λ m2 res. λ m3 q. λ m4 q4. λ m5 k. λ m6 q6. λ ys bl e. rw e (rw q.3 (λ i x a s ps g.
      expand_named NamedMove.member (Goes.act (mods _ _ _
      (res i _ _ _ (Goes.act (eat q.1 q.2 (Goes.act
      (expand Move.method_rest (eat q4.1 q4.2 (k _ _ _ _
      (eat q6.1 q6.2 (bl _ _ _ (Goes.act (Goes.act (Goes.act
      (subst (λ z. G (Call (Y.Members i) ∷ ps) (At x (add a z)) s ys) (sym (method_tree body ts (between xs ys) refl refl)) g)))))))))))))))))
  choose {at = at} (Choice.ctor {kind = m} {name = w} {p = p} {ps = ts} {b = body}) xs = λ m1 mods. λ m2 q. λ m3 q3. λ m4 op. λ m5 q5. λ ys cb e. rw e (λ x a s ps g.
      let n : (q.0.token ≡ Token.Word w) × (is_name w ≡ true) = (q.2.0 ∙ sym (ap (λ v. Token.Word v) q.3), subst (λ v. is_name v ≡ true) (sym q.3) q.2.1) in
      expand_named NamedMove.member (Goes.act (mods _ _ _
      (expand_named (NamedMove.name_member {i = inside m w true} {w = w} n.1)
      (eat_name q.1 n (ctor_by m w (is_own (inside m w true) w) _ _ _ _ (bytes_refl w) _
      (Goes.act (Goes.act (eat q3.1 q3.2
      (op _ _ _ _ (eat q5.1 q5.2 (cb _ _ _ _ (Goes.act
      (subst (λ v. G (Call (Y.Members (inside m w false)) ∷ ps) (At x (add a (spanned (between xs ys) (add (adds (fresh N.Ctor v) ts) body)))) s ys) q.3
      (subst (λ z. G (Call (Y.Members (inside m w false))
      ∷ ps) (At x (add a z)) s ys) (sym (ap (λ z. spanned (between xs ys) z)
      (add_adds (fresh N.Ctor w) ts body) ∙ shut N.Ctor w no_span (between xs ys) Nil
      (join ts (one body)))) g)))))))))))))))
  choose Choice.kernel_opening xs = λ m h. λ ys k e. λ x a s ps g. h ClassKind.Kernel refl x a s ps (k _ _ _ _ g)
  choose Choice.manager_opening xs = λ ys h e. λ x a s ps g. h ClassKind.Manager refl x a s ps g
  choose {at = at} (Choice.handed {w = w} {p = p} {t = t}) xs = λ m1 f. λ m2 h. λ ys q e. rw e (λ m o x a s ps g. handed_by m xs m1 m2 ys p w t x a s ps o f h q g)
  choose Choice.handed_type xs = λ ys q e. (q.0, q.1, q.2, rw e (ap (λ v. Node N.Plain v (between xs ys) Nil) (sym (ap written q.2))))
  choose {at = at} (Choice.ctor_block {p = p} {ts = ts}) xs = λ m1 q1. λ m2 q2. λ m3 q3. λ m4 q4. λ m5 q5. λ m6 q6. λ m7 k. λ ys q8 e. rw e (λ x a s ps g.
      let n : (q4.0.token ≡ Token.Word p) × (is_name p ≡ true) = (q4.2.0 ∙ sym (ap (λ v. Token.Word v) q4.3), subst (λ v. is_name v ≡ true) (sym q4.3) q4.2.1) in
      Goes.act (eat q1.1 q1.2 (eat q2.1 q2.2 (eat q3.1 q3.2
      (eat_name q4.1 n (expand Move.super_rest (eat q5.1 q5.2
      (eat q6.1 q6.2 (k _ _ _ _ (eat q8.1 q8.2 (Goes.act
      (shut_at N.Block [] no_span (between xs ys) Nil ts xs (On (At x a) s) _ ys
      (Goes.act (Goes.act g))))))))))))))
  choose {at = at} Choice.void_result xs = λ ys q e. rw e (λ i b s ps g. expand_named NamedMove.void_method (eat q.1 q.2 (written_word q N.Plain (between xs ys) g)))
  choose Choice.type_result xs = λ ys h e. λ i b s ps g. h.2 i b s ps (expand Move.no_dims (as_method i g))
  choose Choice.no_params xs = λ e. λ x a s ps g. expand Move.no_params g
  choose Choice.params xs = λ m h. λ ys k e. λ x a s ps g. expand Move.params (h _ _ _ (Goes.act (k _ _ _ _ g)))
  choose Choice.no_more_params xs = λ e. λ x a s ps g. expand Move.no_more_params g
  choose Choice.more_params xs = λ m0 q. λ m h. λ ys k e. λ x a s ps g. expand Move.more_params (eat q.1 q.2 (h _ _ _ (Goes.act (k _ _ _ _ g))))
  choose {at = at} (Choice.param {w = w} {t = t}) xs = λ m f. λ m1 h. λ ys q e. rw e
      (rw q.3 (λ b s ps g. expand Move.param (Goes.act (final_plain xs m f _ _ _
      (h.0 _ _ _ (expand Move.no_dims (Goes.act (eat q.1 q.2 (Goes.act g)))))))))
  choose Choice.no_init xs = λ e. inl (refl, refl)
  choose (Choice.some_init {a = a}) xs = λ m q. λ ys h e. inr (a, m, refl, q, h)

  token_has : (p : Part) (t : PlacedToken) (ys : List PlacedToken) → Is p t → Has p (t ∷ ys) ys
  token_has (Part.Sign_ k) t ys i = (t, refl, i)
  token_has (Part.SignAt k n) t ys i = (t, refl, i.0, i.1)
  token_has (Part.SignOf ss k) t ys i = let r = sign_token ss t.token i in (t, refl, r.0, r.1)
  token_has (Part.Word_ w) t ys i = (t, refl, i)
  token_has (Part.WordOf ws w) t ys i = let r = word_token ws t.token i in (t, refl, r.0, r.1)
  token_has (Part.Id w) t ys i = let r = id_token t.token i in (t, refl, r.0, r.1)
  token_has (Part.Literal k w) t ys i = let r = literal_token k w t.token i in (t, refl, r.0, r.1, r.2)
  token_has _ t ys i = elim i [ ]

  known : {ps : List Part} {xs ys : List PlacedToken} → Seg ps xs ys → (Q : List PlacedToken → Type 0) → Known ps xs Q → Q ys
  known Seg.none Q f = f
  known (Seg.token {p = p} {t = t} {xs = xs} i d) Q f = known d Q (f xs (token_has p t xs i))
  known (Seg.choice {p = p} {xs = xs} {ms = ms} v d e) Q f = known e Q (f ms (known d (λ ys. between xs ms ≡ between xs ys → Has p xs ys) (choose v xs) refl))

-- a file with its classes is what the parser reads and builds
pub complete : (v : List ClassTree) (b : Entry) (s : Below) (xs ys : List PlacedToken) → Seg (Part.File v ∷ []) xs ys → Goes (Sub Rule.File ∷ []) b s xs b (add_classes s v) ys
complete v b s xs ys d = known b (add_classes s v) ys d (λ zs. G b (add_classes s v) ys [] b (add_classes s v) zs → G b (add_classes s v) ys (Sub Rule.File ∷ []) b s xs) (λ m h. h b s []) Goes.none
