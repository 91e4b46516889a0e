-- Each rule has a choice of rules of smaller ranks, and so a list of tokens.
use Rattle.std.proofs.Common.{◌≡◌, ℕ, zero, suc, ◌<◌, List, [], ◌∷◌, ◌++◌, Bool, true, false, ◌&&◌, nat_lt, refl, sym, subst, append_assoc, arith, inl, inr, codes}
use Rattle.std.proofs.lemmas.List.{append-nil}
use Rattle.std.proofs.lemmas.Bool.{ltb-true}
use Rattle.std.specs.Str.{bytes_eq}
use Rattle.grammar.specs.Stack.{Runs}
use Rattle.maxj_syntax.specs.declared.level.Level.{Level}
use Rattle.maxj_tokens.specs.declared.sign.Sign.TheVariants as S
use Rattle.maxj_syntax.specs.declared.kind.Word.TheVariants as W
use Rattle.maxj_syntax.specs.declared.tree.NodeKind.TheVariants as N
use Rattle.maxj_syntax.specs.declared.kind.Word.{Word}
use Rattle.maxj_syntax.specs.declared.symbol.Action.{Action}
use Rattle.maxj_syntax.specs.declared.symbol.TokenClass.{TokenClass}
use Rattle.maxj_syntax.specs.declared.symbol.TokenClass.TheVariants as C
use Rattle.maxj_syntax.specs.declared.symbol.Effect.TheVariants.{Skip, Leaf, Push, Over, Text}
use Rattle.maxj_syntax.specs.declared.symbol.Action.TheVariants.{Begin, Wrap, Turn, Into, End, Named, Hole, Memory, Declare}
use Rattle.maxj_syntax.specs.declared.symbol.Form.{Form}
use Rattle.maxj_syntax.specs.declared.symbol.Site.{Site}
use Rattle.maxj_syntax.specs.declared.symbol.Rule.{Rule}
use Rattle.maxj_syntax.specs.declared.symbol.Rule.TheVariants as R
use Rattle.maxj_syntax.specs.Symbols.{Symbol, Mark, Name, Sub, Call, Act}
use Rattle.maxj_tokens.specs.declared.sign.Sign.{Sign}
use Rattle.maxj_syntax.specs.declared.symbol.Effect.{Effect}
use Rattle.maxj_tokens.specs.Tokens.{Token}
use Rattle.maxj_tokens.specs.Scanning.{PlacedToken}
use Rattle.maxj_tokens.specs.Reading.{sign_bytes}
use Rattle.maxj_syntax.specs.Kinds.{word_bytes}
use Rattle.maxj_syntax.specs.TokenClasses.{Accepts}
use Rattle.maxj_syntax.specs.Productions.{is_name}
use Rattle.maxj_syntax.specs.Table.{choices}
use Rattle.maxj_syntax.specs.Choosing.{Among, Is, Choice}
use Rattle.maxj_syntax.proofs.Fits.{and_left, and_right}
use Rattle.maxj_syntax.specs.declared.symbol.ClassKind.{ClassKind}

-- Made by tools/source_grammar.py from tools/source_grammar.txt: ranks and lowest choices.
abbrev pub rank : Rule → ℕ
rank R.File = 99
rank R.Package = 1
rank R.Path = 2
rank R.MorePath = 1
rank R.Imports = 1
rank R.MaybeStatic = 1
rank R.ImportMore = 1
rank R.ImportDot = 2
rank R.Classes = 1
rank R.Class = 99
rank R.Mods = 1
rank R.Declares = 1
rank R.MethodRest = 3
rank R.Params = 1
rank R.MoreParams = 1
rank R.Param = 3
rank R.MaybeFinal = 1
rank (R.Opening ClassKind.Kernel) = 99
rank (R.Opening ClassKind.Manager) = 99
rank (R.Opened ClassKind.Kernel) = 2
rank (R.Opened ClassKind.Manager) = 1
rank R.SuperRest = 2
rank R.TypeName = 2
rank R.MemoryType = 1
rank R.Dims = 1
rank R.Expr = 14
rank R.CondTail = 1
rank (R.Operand Level.Prefixes) = 3
rank (R.Operand Level.Products) = 4
rank (R.Operand Level.Sums) = 5
rank (R.Operand Level.Shifts) = 6
rank (R.Operand Level.Orders) = 7
rank (R.Operand Level.Equalities) = 8
rank (R.Operand Level.BitAnds) = 9
rank (R.Operand Level.BitXors) = 10
rank (R.Operand Level.BitOrs) = 11
rank (R.Operand Level.Ands) = 12
rank (R.Operand Level.Ors) = 13
rank (R.Tail Level.Prefixes) = 1
rank (R.Tail Level.Products) = 1
rank (R.Tail Level.Sums) = 1
rank (R.Tail Level.Shifts) = 1
rank (R.Tail Level.Orders) = 1
rank (R.Tail Level.Equalities) = 1
rank (R.Tail Level.BitAnds) = 1
rank (R.Tail Level.BitXors) = 1
rank (R.Tail Level.BitOrs) = 1
rank (R.Tail Level.Ands) = 1
rank (R.Tail Level.Ors) = 1
rank R.Postfix = 2
rank R.Called = 1
rank R.Args = 1
rank R.MoreArgs = 1
rank R.Post = 1
rank R.Dotted = 2
rank R.NewBase = 3
rank R.NewMemory = 3
rank R.NewRest = 2
rank R.FreshTail = 3
rank R.Sizes = 15
rank R.MoreSizes = 1
rank R.Simple = 3
rank R.NameRest = 2
rank R.Other = 4
rank R.NewStmt = 3
rank R.NewStmtMemory = 3
rank R.NewStmtRest = 2
rank (R.Rest Form.Place) = 2
rank (R.Rest Form.Call) = 1
rank (R.Rest Form.Free) = 3
rank (R.Rest Form.Fresh) = 3
rank R.Bare = 1
rank R.DottedRest = 2
rank R.Init = 2
rank R.Inits = 1
rank R.MoreInits = 1
rank R.Block = 2
rank R.Stmts = 1
rank R.Stmt = 1
rank (R.NameThen Site.Alone) = 2
rank (R.NameThen Site.Loop) = 2
rank (R.BracketThen Site.Alone) = 2
rank (R.BracketThen Site.Loop) = 15
rank (R.Declared Site.Alone) = 1
rank (R.Declared Site.Loop) = 15
rank R.ReturnRest = 1
rank R.ElseTail = 1
rank R.ElseRest = 3
rank R.Body = 2
rank R.First = 3
rank R.Test = 1
rank R.Step = 1
rank (R.MemoryThen Site.Alone) = 2
rank (R.MemoryThen Site.Loop) = 2
rank (R.LessThen Site.Alone) = 4
rank (R.LessThen Site.Loop) = 15
rank (R.DFEVarThen Site.Alone) = 3
rank (R.DFEVarThen Site.Loop) = 15
rank (R.GreaterThen Site.Alone) = 2
rank (R.GreaterThen Site.Loop) = 16
rank (R.MemoryName Site.Alone) = 2
rank (R.MemoryName Site.Loop) = 16
rank R.MemoryBare = 1
rank R.OtherOperand = 2
rank R.NamelessOperand = 2
rank R.Further = 2
rank R.Tighter = 4

-- a choice whose rules have smaller ranks
abbrev pub lowest : Rule → List Symbol
lowest R.File = []
lowest R.Package = []
lowest R.Path = (Mark C.Name Skip ∷ Sub R.MorePath ∷ [])
lowest R.MorePath = []
lowest R.Imports = []
lowest R.MaybeStatic = (Mark (C.Word W.Static) Skip ∷ [])
lowest R.ImportMore = []
lowest R.ImportDot = (Mark C.Name Skip ∷ Sub R.ImportMore ∷ [])
lowest R.Classes = []
lowest R.Class = []
lowest R.Mods = []
lowest R.Declares = (Mark (C.Sign S.Semicolon) Skip ∷ Act End ∷ [])
lowest R.MethodRest = (Mark (C.Sign S.Open) Skip ∷ Sub R.Params ∷ Mark (C.Sign S.Close) Skip ∷ Sub R.Block ∷ Act Into ∷ Act End ∷ [])
lowest R.Params = []
lowest R.MoreParams = []
lowest R.Param = (Act (Begin N.Param) ∷ Sub R.MaybeFinal ∷ Sub R.TypeName ∷ Act Into ∷ Mark C.Name Text ∷ Act End ∷ [])
lowest R.MaybeFinal = (Mark (C.Word W.Final) Skip ∷ [])
lowest (R.Opening ClassKind.Kernel) = []
lowest (R.Opening ClassKind.Manager) = []
lowest (R.Opened ClassKind.Kernel) = (Act End ∷ Act Into ∷ Sub R.MoreParams ∷ [])
lowest (R.Opened ClassKind.Manager) = (Act End ∷ Act Into ∷ [])
lowest R.SuperRest = (Mark (C.Sign S.Close) Skip ∷ Mark (C.Sign S.Semicolon) Skip ∷ Sub R.Stmts ∷ Mark (C.Sign S.CloseBrace) Skip ∷ Act End ∷ Act Into ∷ Act End ∷ [])
lowest R.TypeName = (Mark (C.NameBut W.Memory) (Push N.Plain) ∷ Sub R.Dims ∷ [])
lowest R.MemoryType = (Mark (C.Sign S.Less) Skip ∷ Mark (C.Word W.DFEVar) Skip ∷ Mark (C.Sign S.Greater) Skip ∷ Act End ∷ [])
lowest R.Dims = []
lowest R.Expr = (Sub (R.Operand Level.Ors) ∷ Sub R.CondTail ∷ [])
lowest R.CondTail = []
lowest (R.Operand Level.Prefixes) = (Sub R.Postfix ∷ [])
lowest (R.Operand Level.Products) = (Sub (R.Operand Level.Prefixes) ∷ Sub (R.Tail Level.Products) ∷ [])
lowest (R.Operand Level.Sums) = (Sub (R.Operand Level.Products) ∷ Sub (R.Tail Level.Sums) ∷ [])
lowest (R.Operand Level.Shifts) = (Sub (R.Operand Level.Sums) ∷ Sub (R.Tail Level.Shifts) ∷ [])
lowest (R.Operand Level.Orders) = (Sub (R.Operand Level.Shifts) ∷ Sub (R.Tail Level.Orders) ∷ [])
lowest (R.Operand Level.Equalities) = (Sub (R.Operand Level.Orders) ∷ Sub (R.Tail Level.Equalities) ∷ [])
lowest (R.Operand Level.BitAnds) = (Sub (R.Operand Level.Equalities) ∷ Sub (R.Tail Level.BitAnds) ∷ [])
lowest (R.Operand Level.BitXors) = (Sub (R.Operand Level.BitAnds) ∷ Sub (R.Tail Level.BitXors) ∷ [])
lowest (R.Operand Level.BitOrs) = (Sub (R.Operand Level.BitXors) ∷ Sub (R.Tail Level.BitOrs) ∷ [])
lowest (R.Operand Level.Ands) = (Sub (R.Operand Level.BitOrs) ∷ Sub (R.Tail Level.Ands) ∷ [])
lowest (R.Operand Level.Ors) = (Sub (R.Operand Level.Ands) ∷ Sub (R.Tail Level.Ors) ∷ [])
lowest (R.Tail Level.Prefixes) = []
lowest (R.Tail Level.Products) = []
lowest (R.Tail Level.Sums) = []
lowest (R.Tail Level.Shifts) = []
lowest (R.Tail Level.Orders) = []
lowest (R.Tail Level.Equalities) = []
lowest (R.Tail Level.BitAnds) = []
lowest (R.Tail Level.BitXors) = []
lowest (R.Tail Level.BitOrs) = []
lowest (R.Tail Level.Ands) = []
lowest (R.Tail Level.Ors) = []
lowest R.Postfix = (Mark C.Literal Leaf ∷ Sub R.Post ∷ [])
lowest R.Called = []
lowest R.Args = []
lowest R.MoreArgs = []
lowest R.Post = []
lowest R.Dotted = (Act (Turn N.DotCall) ∷ Mark (C.Sign S.Open) Skip ∷ Sub R.Args ∷ Mark (C.Sign S.Close) Skip ∷ Act End ∷ [])
lowest R.NewBase = (Mark (C.NameBut W.Memory) (Push N.Plain) ∷ Sub R.NewRest ∷ [])
lowest R.NewMemory = (Sub R.NewRest ∷ [])
lowest R.NewRest = (Act Named ∷ Mark (C.Sign S.Open) Skip ∷ Sub R.Args ∷ Mark (C.Sign S.Close) Skip ∷ Act End ∷ Sub R.Post ∷ [])
lowest R.FreshTail = (Mark (C.Sign S.Dot) Skip ∷ Mark C.Name (Over N.Dot) ∷ Sub R.Dotted ∷ Sub R.Post ∷ [])
lowest R.Sizes = (Mark (C.Sign S.OpenBracket) Skip ∷ Sub R.Expr ∷ Act Into ∷ Mark (C.Sign S.CloseBracket) Skip ∷ Sub R.MoreSizes ∷ [])
lowest R.MoreSizes = []
lowest R.Simple = (Mark C.Name (Push N.Name) ∷ Sub R.NameRest ∷ [])
lowest R.NameRest = (Act (Turn N.Call) ∷ Mark (C.Sign S.Open) Skip ∷ Sub R.Args ∷ Mark (C.Sign S.Close) Skip ∷ Act End ∷ Sub (R.Rest Form.Call) ∷ [])
lowest R.Other = (Mark C.Literal Leaf ∷ Sub (R.Rest Form.Free) ∷ [])
lowest R.NewStmt = (Mark (C.NameBut W.Memory) (Push N.Plain) ∷ Sub R.NewStmtRest ∷ [])
lowest R.NewStmtMemory = (Sub R.NewStmtRest ∷ [])
lowest R.NewStmtRest = (Act Named ∷ Mark (C.Sign S.Open) Skip ∷ Sub R.Args ∷ Mark (C.Sign S.Close) Skip ∷ Act End ∷ Sub (R.Rest Form.Call) ∷ [])
lowest (R.Rest Form.Place) = (Sub R.Bare ∷ [])
lowest (R.Rest Form.Call) = (Act (Wrap N.Run) ∷ Act End ∷ [])
lowest (R.Rest Form.Free) = (Mark (C.Sign S.Dot) Skip ∷ Mark C.Name (Over N.Dot) ∷ Sub R.DottedRest ∷ [])
lowest (R.Rest Form.Fresh) = (Mark (C.Sign S.Dot) Skip ∷ Mark C.Name (Over N.Dot) ∷ Sub R.DottedRest ∷ [])
lowest R.Bare = (Mark C.Counting (Over N.Set) ∷ Act End ∷ [])
lowest R.DottedRest = (Act (Turn N.DotCall) ∷ Mark (C.Sign S.Open) Skip ∷ Sub R.Args ∷ Mark (C.Sign S.Close) Skip ∷ Act End ∷ Sub (R.Rest Form.Call) ∷ [])
lowest R.Init = (Act (Begin N.Braces) ∷ Mark (C.Sign S.OpenBrace) Skip ∷ Sub R.Inits ∷ Mark (C.Sign S.CloseBrace) Skip ∷ Act End ∷ [])
lowest R.Inits = []
lowest R.MoreInits = []
lowest R.Block = (Act (Begin N.Block) ∷ Mark (C.Sign S.OpenBrace) Skip ∷ Sub R.Stmts ∷ Mark (C.Sign S.CloseBrace) Skip ∷ Act End ∷ [])
lowest R.Stmts = []
lowest R.Stmt = (Act (Begin N.Empty) ∷ Mark (C.Sign S.Semicolon) Skip ∷ Act End ∷ [])
lowest (R.NameThen Site.Alone) = (Act (Turn N.Call) ∷ Mark (C.Sign S.Open) Skip ∷ Sub R.Args ∷ Mark (C.Sign S.Close) Skip ∷ Act End ∷ Sub (R.Rest Form.Call) ∷ Mark (C.Sign S.Semicolon) Skip ∷ [])
lowest (R.NameThen Site.Loop) = (Act (Turn N.Call) ∷ Mark (C.Sign S.Open) Skip ∷ Sub R.Args ∷ Mark (C.Sign S.Close) Skip ∷ Act End ∷ Sub (R.Rest Form.Call) ∷ [])
lowest (R.BracketThen Site.Alone) =
    (Act (Turn N.Plain) ∷ Act (Wrap N.ArrayOf) ∷ Mark (C.Sign S.CloseBracket) Skip ∷ Act End
    ∷ Sub R.Dims ∷ Mark C.Name (Over N.Local) ∷ Sub (R.Declared Site.Alone) ∷ [])
lowest (R.BracketThen Site.Loop) = (Act (Wrap N.Index) ∷ Sub R.Expr ∷ Act Into ∷ Mark (C.Sign S.CloseBracket) Skip ∷ Act End ∷ Sub (R.Rest Form.Place) ∷ [])
lowest (R.Declared Site.Alone) = (Mark (C.Sign S.Semicolon) Skip ∷ Act End ∷ [])
lowest (R.Declared Site.Loop) = (Mark (C.Sign S.Assign) Skip ∷ Sub R.Expr ∷ Act Into ∷ Act End ∷ [])
lowest R.ReturnRest = (Mark (C.Sign S.Semicolon) Skip ∷ Act End ∷ [])
lowest R.ElseTail = []
lowest R.ElseRest = (Sub R.Body ∷ Act Into ∷ [])
lowest R.Body = (Act (Begin N.Return) ∷ Mark (C.Word W.Return) Skip ∷ Sub R.ReturnRest ∷ [])
lowest R.First = (Mark (C.NameBut W.Memory) (Push N.Name) ∷ Sub (R.NameThen Site.Loop) ∷ [])
lowest R.Test = (Act Hole ∷ [])
lowest R.Step = (Act Hole ∷ [])
lowest (R.MemoryThen Site.Alone) = (Act (Turn N.Plain) ∷ Mark C.Name (Over N.Local) ∷ Sub (R.Declared Site.Alone) ∷ [])
lowest (R.MemoryThen Site.Loop) = (Act (Turn N.Call) ∷ Mark (C.Sign S.Open) Skip ∷ Sub R.Args ∷ Mark (C.Sign S.Close) Skip ∷ Act End ∷ Sub (R.Rest Form.Call) ∷ [])
lowest (R.LessThen Site.Alone) = (Mark (C.Word W.DFEVar) (Push N.Name) ∷ Sub (R.DFEVarThen Site.Alone) ∷ [])
lowest (R.LessThen Site.Loop) =
    (Sub R.OtherOperand ∷ Sub (R.Tail Level.Products) ∷ Sub (R.Tail Level.Sums)
    ∷ Sub (R.Tail Level.Shifts) ∷ Act Into ∷ Act End ∷ Sub (R.Tail Level.Orders)
    ∷ Sub (R.Tail Level.Equalities) ∷ Sub (R.Tail Level.BitAnds) ∷ Sub (R.Tail Level.BitXors)
    ∷ Sub (R.Tail Level.BitOrs) ∷ Sub (R.Tail Level.Ands) ∷ Sub (R.Tail Level.Ors)
    ∷ Sub R.CondTail ∷ Act (Wrap N.Connect) ∷ Mark (C.Sign S.Connect) Skip ∷ Sub R.Expr
    ∷ Act Into ∷ Act End ∷ [])
lowest (R.DFEVarThen Site.Alone) = (Act Into ∷ Act End ∷ Mark (C.Sign S.Greater) (Over N.Binary) ∷ Sub (R.GreaterThen Site.Alone) ∷ [])
lowest (R.DFEVarThen Site.Loop) =
    (Sub R.Further ∷ Sub (R.Tail Level.Products) ∷ Sub (R.Tail Level.Sums)
    ∷ Sub (R.Tail Level.Shifts) ∷ Act Into ∷ Act End ∷ Sub (R.Tail Level.Orders)
    ∷ Sub (R.Tail Level.Equalities) ∷ Sub (R.Tail Level.BitAnds) ∷ Sub (R.Tail Level.BitXors)
    ∷ Sub (R.Tail Level.BitOrs) ∷ Sub (R.Tail Level.Ands) ∷ Sub (R.Tail Level.Ors)
    ∷ Sub R.CondTail ∷ Act (Wrap N.Connect) ∷ Mark (C.Sign S.Connect) Skip ∷ Sub R.Expr
    ∷ Act Into ∷ Act End ∷ [])
lowest (R.GreaterThen Site.Alone) =
    (Act Memory ∷ Act (Wrap N.ArrayOf) ∷ Mark (C.Sign S.OpenBracket) Skip
    ∷ Mark (C.Sign S.CloseBracket) Skip ∷ Act End ∷ Sub R.Dims ∷ Mark C.Name (Over N.Local)
    ∷ Sub (R.Declared Site.Alone) ∷ [])
lowest (R.GreaterThen Site.Loop) =
    (Act Memory ∷ Act (Wrap N.ArrayOf) ∷ Mark (C.Sign S.OpenBracket) Skip
    ∷ Mark (C.Sign S.CloseBracket) Skip ∷ Act End ∷ Sub R.Dims ∷ Mark C.Name (Over N.Local)
    ∷ Sub (R.Declared Site.Loop) ∷ [])
lowest (R.MemoryName Site.Alone) = (Act Declare ∷ Sub (R.Declared Site.Alone) ∷ [])
lowest (R.MemoryName Site.Loop) = (Act Declare ∷ Sub (R.Declared Site.Loop) ∷ [])
lowest R.MemoryBare = (Mark C.Counting (Over N.Set) ∷ Act End ∷ [])
lowest R.OtherOperand = (Mark (C.NameBut W.DFEVar) (Push N.Name) ∷ Sub R.Called ∷ Sub R.Post ∷ [])
lowest R.NamelessOperand = (Mark C.Literal Leaf ∷ Sub R.Post ∷ [])
lowest R.Further = (Act (Turn N.Call) ∷ Mark (C.Sign S.Open) Skip ∷ Sub R.Args ∷ Mark (C.Sign S.Close) Skip ∷ Act End ∷ Sub R.Post ∷ [])
lowest R.Tighter =
    (Mark (C.Operator Level.Products) (Over N.Binary) ∷ Sub (R.Operand Level.Prefixes)
    ∷ Act Into ∷ Act End ∷ Sub (R.Tail Level.Products) ∷ Sub (R.Tail Level.Sums)
    ∷ Sub (R.Tail Level.Shifts) ∷ [])

-- By hand again.

abbrev pub is_ranked : Rule → Bool
is_ranked r = nat_lt (rank r) 99

-- Made by tools/source_grammar.py from tools/source_grammar.txt: the lowest choice is a choice.
pub lowest_among : (r : Rule) → is_ranked r ≡ true → Among (lowest r) (choices r)
lowest_among R.File e = absurd (cc)
lowest_among R.Package e = inr (inl refl)
lowest_among R.Path e = inl refl
lowest_among R.MorePath e = inr (inl refl)
lowest_among R.Imports e = inr (inl refl)
lowest_among R.MaybeStatic e = inl refl
lowest_among R.ImportMore e = inr (inl refl)
lowest_among R.ImportDot e = inl refl
lowest_among R.Classes e = inr (inl refl)
lowest_among R.Class e = absurd (cc)
lowest_among R.Mods e = inr (inl refl)
lowest_among R.Declares e = inl refl
lowest_among R.MethodRest e = inl refl
lowest_among R.Params e = inr (inl refl)
lowest_among R.MoreParams e = inr (inl refl)
lowest_among R.Param e = inl refl
lowest_among R.MaybeFinal e = inl refl
lowest_among (R.Opening ClassKind.Kernel) e = absurd (cc)
lowest_among (R.Opening ClassKind.Manager) e = absurd (cc)
lowest_among (R.Opened ClassKind.Kernel) e = inl refl
lowest_among (R.Opened ClassKind.Manager) e = inl refl
lowest_among R.SuperRest e = inl refl
lowest_among R.TypeName e = inl refl
lowest_among R.MemoryType e = inl refl
lowest_among R.Dims e = inr (inl refl)
lowest_among R.Expr e = inl refl
lowest_among R.CondTail e = inr (inl refl)
lowest_among (R.Operand Level.Prefixes) e = inr (inl refl)
lowest_among (R.Operand Level.Products) e = inl refl
lowest_among (R.Operand Level.Sums) e = inl refl
lowest_among (R.Operand Level.Shifts) e = inl refl
lowest_among (R.Operand Level.Orders) e = inl refl
lowest_among (R.Operand Level.Equalities) e = inl refl
lowest_among (R.Operand Level.BitAnds) e = inl refl
lowest_among (R.Operand Level.BitXors) e = inl refl
lowest_among (R.Operand Level.BitOrs) e = inl refl
lowest_among (R.Operand Level.Ands) e = inl refl
lowest_among (R.Operand Level.Ors) e = inl refl
lowest_among (R.Tail Level.Prefixes) e = inl refl
lowest_among (R.Tail Level.Products) e = inr (inl refl)
lowest_among (R.Tail Level.Sums) e = inr (inl refl)
lowest_among (R.Tail Level.Shifts) e = inr (inl refl)
lowest_among (R.Tail Level.Orders) e = inr (inl refl)
lowest_among (R.Tail Level.Equalities) e = inr (inl refl)
lowest_among (R.Tail Level.BitAnds) e = inr (inl refl)
lowest_among (R.Tail Level.BitXors) e = inr (inl refl)
lowest_among (R.Tail Level.BitOrs) e = inr (inl refl)
lowest_among (R.Tail Level.Ands) e = inr (inl refl)
lowest_among (R.Tail Level.Ors) e = inr (inl refl)
lowest_among R.Postfix e = inl refl
lowest_among R.Called e = inr (inl refl)
lowest_among R.Args e = inr (inl refl)
lowest_among R.MoreArgs e = inr (inl refl)
lowest_among R.Post e = inr (inr (inl refl))
lowest_among R.Dotted e = inl refl
lowest_among R.NewBase e = inl refl
lowest_among R.NewMemory e = inr (inl refl)
lowest_among R.NewRest e = inl refl
lowest_among R.FreshTail e = inl refl
lowest_among R.Sizes e = inl refl
lowest_among R.MoreSizes e = inr (inl refl)
lowest_among R.Simple e = inl refl
lowest_among R.NameRest e = inl refl
lowest_among R.Other e = inr (inl refl)
lowest_among R.NewStmt e = inl refl
lowest_among R.NewStmtMemory e = inr (inl refl)
lowest_among R.NewStmtRest e = inl refl
lowest_among (R.Rest Form.Place) e = inr (inl refl)
lowest_among (R.Rest Form.Call) e = inr (inr (inr (inl refl)))
lowest_among (R.Rest Form.Free) e = inr (inl refl)
lowest_among (R.Rest Form.Fresh) e = inl refl
lowest_among R.Bare e = inr (inl refl)
lowest_among R.DottedRest e = inl refl
lowest_among R.Init e = inr (inl refl)
lowest_among R.Inits e = inr (inl refl)
lowest_among R.MoreInits e = inr (inl refl)
lowest_among R.Block e = inl refl
lowest_among R.Stmts e = inr (inl refl)
lowest_among R.Stmt e = inr (inr (inr (inr (inr (inr (inr (inr (inr (inl refl)))))))))
lowest_among (R.NameThen Site.Alone) e = inr (inr (inl refl))
lowest_among (R.NameThen Site.Loop) e = inr (inr (inl refl))
lowest_among (R.BracketThen Site.Alone) e = inl refl
lowest_among (R.BracketThen Site.Loop) e = inr (inl refl)
lowest_among (R.Declared Site.Alone) e = inl refl
lowest_among (R.Declared Site.Loop) e = inl refl
lowest_among R.ReturnRest e = inl refl
lowest_among R.ElseTail e = inr (inl refl)
lowest_among R.ElseRest e = inr (inl refl)
lowest_among R.Body e = inr (inl refl)
lowest_among R.First e = inr (inl refl)
lowest_among R.Test e = inr (inl refl)
lowest_among R.Step e = inr (inl refl)
lowest_among (R.MemoryThen Site.Alone) e = inl refl
lowest_among (R.MemoryThen Site.Loop) e = inr (inr (inl refl))
lowest_among (R.LessThen Site.Alone) e = inl refl
lowest_among (R.LessThen Site.Loop) e = inr (inl refl)
lowest_among (R.DFEVarThen Site.Alone) e = inl refl
lowest_among (R.DFEVarThen Site.Loop) e = inr (inl refl)
lowest_among (R.GreaterThen Site.Alone) e = inr (inl refl)
lowest_among (R.GreaterThen Site.Loop) e = inr (inl refl)
lowest_among (R.MemoryName Site.Alone) e = inl refl
lowest_among (R.MemoryName Site.Loop) e = inl refl
lowest_among R.MemoryBare e = inr (inl refl)
lowest_among R.OtherOperand e = inl refl
lowest_among R.NamelessOperand e = inr (inl refl)
lowest_among R.Further e = inl refl
lowest_among R.Tighter e = inl refl

-- By hand again.

abbrev pub small : ℕ → List Symbol → Bool
small n [] = true
small n (Mark k e ∷ ps) = small n ps
small n (Act a ∷ ps) = small n ps
small n (Sub r ∷ ps) = nat_lt (rank r) n && (is_ranked r && small n ps)
small n _ = false

-- Made by tools/source_grammar.py from tools/source_grammar.txt: its rules have smaller ranks.
pub lowest_small : (r : Rule) → small (rank r) (lowest r) ≡ true
lowest_small R.File = refl
lowest_small (R.Opening ClassKind.Kernel) = refl
lowest_small (R.Opening _) = refl
lowest_small (R.Opened ClassKind.Kernel) = refl
lowest_small (R.Opened _) = refl
lowest_small (R.Operand Level.Prefixes) = refl
lowest_small (R.Operand _) = refl
lowest_small (R.Tail Level.Prefixes) = refl
lowest_small (R.Tail _) = refl
lowest_small (R.Rest Form.Place) = refl
lowest_small (R.Rest _) = refl
lowest_small (R.NameThen Site.Alone) = refl
lowest_small (R.NameThen _) = refl
lowest_small (R.BracketThen Site.Alone) = refl
lowest_small (R.BracketThen _) = refl
lowest_small (R.Declared Site.Alone) = refl
lowest_small (R.Declared _) = refl
lowest_small (R.MemoryThen Site.Alone) = refl
lowest_small (R.MemoryThen _) = refl
lowest_small (R.LessThen Site.Alone) = refl
lowest_small (R.LessThen _) = refl
lowest_small (R.DFEVarThen Site.Alone) = refl
lowest_small (R.DFEVarThen _) = refl
lowest_small (R.GreaterThen Site.Alone) = refl
lowest_small (R.GreaterThen _) = refl
lowest_small (R.MemoryName Site.Alone) = refl
lowest_small (R.MemoryName _) = refl
lowest_small _ = refl

-- By hand again.

-- a token of each class
abbrev pub some_token : TokenClass → Token
some_token (C.Sign s) = Token.Sign (sign_bytes s)
some_token (C.Word w) = Token.Word (word_bytes w)
some_token C.Name = Token.Word (codes "a")
some_token (C.NameBut w) = Token.Word (codes "a")
some_token C.TypeWord = Token.Word (codes "int")
some_token C.Modifier = Token.Word (codes "public")
some_token C.ValueWord = Token.Word (codes "this")
some_token C.Literal = Token.Whole []
some_token C.Assigning = Token.Sign (codes "=")
some_token C.Counting = Token.Sign (codes "++")
some_token (C.Operator Level.Prefixes) = Token.Sign (codes "-")
some_token (C.Operator Level.Products) = Token.Sign (codes "*")
some_token (C.Operator Level.Sums) = Token.Sign (codes "+")
some_token (C.Operator Level.Shifts) = Token.Sign (codes "<<")
some_token (C.Operator Level.Orders) = Token.Sign (codes "<")
some_token (C.Operator Level.Equalities) = Token.Sign (codes "===")
some_token (C.Operator Level.BitAnds) = Token.Sign (codes "&")
some_token (C.Operator Level.BitXors) = Token.Sign (codes "^")
some_token (C.Operator Level.BitOrs) = Token.Sign (codes "|")
some_token (C.Operator Level.Ands) = Token.Sign (codes "&&")
some_token (C.Operator Level.Ors) = Token.Sign (codes "||")
some_token (C.OrderBut S.Less) = Token.Sign (codes ">")
some_token (C.OrderBut s) = Token.Sign (codes "<")

pub a_differs : (w : Word) → bytes_eq (codes "a") (word_bytes w) ≡ false
a_differs W.Package = refl
a_differs _ = refl

pub less_differs : (s : Sign) → Accepts (C.OrderBut s) (some_token (C.OrderBut s))
less_differs S.Less = ((refl, refl), refl)
less_differs S.Open = ((refl, refl), refl)
less_differs _ = ((refl, refl), refl)

pub token_fits : (k : TokenClass) → Accepts k (some_token k)
token_fits (C.Sign s) = refl
token_fits (C.Word w) = refl
token_fits C.Name = (refl, refl)
token_fits (C.NameBut w) = ((refl, refl), a_differs w)
token_fits C.TypeWord = (refl, refl)
token_fits C.Modifier = (refl, refl)
token_fits C.ValueWord = (refl, refl)
token_fits C.Literal = refl
token_fits C.Assigning = (refl, refl)
token_fits C.Counting = (refl, refl)
token_fits (C.Operator Level.Prefixes) = (refl, refl)
token_fits (C.Operator _) = (refl, refl)
token_fits (C.OrderBut s) = less_differs s

abbrev pub placed : Token → PlacedToken
placed t = record { token = t; place = 0 }

abbrev pub Listed : List Symbol → Type 0
Listed ps = (v : List PlacedToken) × Runs Is Choice ps v

pub runs_both : {ps qs : List Symbol} {a b : List PlacedToken} → Runs Is Choice ps a → Runs Is Choice qs b → Runs Is Choice (ps ++ qs) (a ++ b)
runs_both Runs.end s = s
runs_both (Runs.eat i r) s = Runs.eat i (runs_both r s)
runs_both {qs = qs} {b = b} (Runs.pick {p = p} us {ps = ps} {ts = ts} c r) s = Runs.pick us c (subst (λ l. Runs Is Choice l (ts ++ b)) (append_assoc us ps qs) (runs_both r s))

pub mark_list : (k : TokenClass) (e : Effect) (ps : List Symbol) → Listed ps → Listed (Mark k e ∷ ps)
mark_list k e ps r = (placed (some_token k) ∷ r.0, Runs.eat (token_fits k) r.1)

pub name_list : (w : List ℕ) (e : Effect) (ps : List Symbol) → is_name w ≡ true → Listed ps → Listed (Name w e ∷ ps)
name_list w e ps n r = (placed (Token.Word w) ∷ r.0, Runs.eat (refl, n) r.1)

pub act_list : (a : Action) (ps : List Symbol) → Listed ps → Listed (Act a ∷ ps)
act_list a ps r = (r.0, Runs.pick [] refl r.1)

pub before : (p : Symbol) (ps : List Symbol) → Listed (p ∷ []) → Listed ps → Listed (p ∷ ps)
before p ps a b = (a.0 ++ b.0, runs_both a.1 b.1)

pub pick_list : (p : Symbol) (qs : List Symbol) → Choice p qs → Listed qs → Listed (p ∷ [])
pick_list p qs c r = (r.0, Runs.pick qs c (subst (λ l. Runs Is Choice l r.0) (sym (append-nil qs)) r.1))

pub list_from : (n : ℕ) → ((r : Rule) → nat_lt (rank r) n ≡ true → is_ranked r ≡ true → Listed (Sub r ∷ [])) → (ps : List Symbol) → small n ps ≡ true → Listed ps
list_from n f [] e = ([], Runs.end)
list_from n f (Mark k x ∷ ps) e = mark_list k x ps (list_from n f ps e)
list_from n f (Act a ∷ ps) e = act_list a ps (list_from n f ps e)
list_from n f (Sub r ∷ ps) e =
    let g = and_right (nat_lt (rank r) n) _ e in
    before (Sub r) ps (f r (and_left (nat_lt (rank r) n) _ e) (and_left (is_ranked r) _ g)) (list_from n f ps (and_right (is_ranked r) _ g))
list_from n f (Name w x ∷ ps) e = absurd (cc)
list_from n f (Call m ∷ ps) e = absurd (cc)

pub rule_list : (n : ℕ) (r : Rule) → rank r < n → is_ranked r ≡ true → Listed (Sub r ∷ [])
rule_list zero r h e = absurd (omega (arith, h))
rule_list (suc n) r h e =
    pick_list (Sub r) (lowest r) (lowest_among r e) (list_from (rank r) (λ q d i. rule_list n q (let l = ltb-true (rank q) (rank r) d in omega (arith, l, h)) i) (lowest r) (lowest_small r))

pub ranked : (r : Rule) → is_ranked r ≡ true → Listed (Sub r ∷ [])
ranked r e = rule_list (suc (rank r)) r (omega arith) e
