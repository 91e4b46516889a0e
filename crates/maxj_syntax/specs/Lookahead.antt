-- Made by tools/source_grammar.py from tools/source_grammar.txt.
-- What the parser knows of a rule: the tokens with which it may begin and go on, and whether it may be empty.
use Rattle.std.specs.Prelude.{List, [], ◌∷◌, ℕ, Bool, true, false}
use Rattle.maxj_syntax.specs.declared.level.Level.{Level}
use Rattle.maxj_tokens.specs.declared.sign.Sign.TheVariants as S
use Rattle.maxj_syntax.specs.declared.kind.Word.TheVariants as W
use Rattle.maxj_syntax.specs.declared.symbol.TokenClass.{TokenClass}
use Rattle.maxj_syntax.specs.declared.symbol.TokenClass.TheVariants as C
use Rattle.maxj_syntax.specs.declared.symbol.ClassKind.{ClassKind}
use Rattle.maxj_syntax.specs.declared.symbol.Form.{Form}
use Rattle.maxj_syntax.specs.declared.symbol.Site.{Site}
use Rattle.maxj_syntax.specs.declared.symbol.Rule.{Rule}
use Rattle.maxj_syntax.specs.declared.symbol.Rule.TheVariants as R

-- the classes of tokens with which a rule may begin
abbrev pub first : Rule → List TokenClass
first R.File = (C.Word W.Package ∷ C.Word W.Import ∷ C.Modifier ∷ C.Word W.Class ∷ [])
first R.Package = (C.Word W.Package ∷ [])
first R.Path = (C.Name ∷ [])
first R.MorePath = (C.Sign S.Dot ∷ [])
first R.Imports = (C.Word W.Import ∷ [])
first R.MaybeStatic = (C.Word W.Static ∷ [])
first R.ImportMore = (C.Sign S.Dot ∷ [])
first R.ImportDot = (C.Name ∷ C.Sign S.Star ∷ [])
first R.Classes = (C.Modifier ∷ C.Word W.Class ∷ [])
first R.Class = (C.Modifier ∷ C.Word W.Class ∷ [])
first R.Mods = (C.Modifier ∷ [])
first R.Declares = (C.Sign S.Semicolon ∷ C.Sign S.Assign ∷ C.Sign S.Open ∷ [])
first R.MethodRest = (C.Sign S.Open ∷ [])
first R.Params = (C.Word W.Final ∷ C.Name ∷ C.TypeWord ∷ [])
first R.MoreParams = (C.Sign S.Comma ∷ [])
first R.Param = (C.Word W.Final ∷ C.Name ∷ C.TypeWord ∷ [])
first R.MaybeFinal = (C.Word W.Final ∷ [])
first (R.Opening ClassKind.Kernel) = (C.Word W.Final ∷ C.Word W.KernelParameters ∷ [])
first (R.Opening ClassKind.Manager) = (C.Word W.Final ∷ C.Word W.EngineParameters ∷ [])
first (R.Opened ClassKind.Kernel) = (C.Sign S.Comma ∷ [])
first (R.Opened ClassKind.Manager) = []
first R.SuperRest = (C.Sign S.Close ∷ [])
first R.TypeName = (C.Name ∷ C.TypeWord ∷ [])
first R.MemoryType = (C.Sign S.Less ∷ [])
first R.Dims = (C.Sign S.OpenBracket ∷ [])
first R.Expr = (C.Operator Level.Prefixes ∷ C.Literal ∷ C.ValueWord ∷ C.Name ∷ C.Sign S.Open ∷ C.Word W.New ∷ [])
first R.CondTail = (C.Sign S.Question ∷ [])
first (R.Operand Level.Prefixes) = (C.Operator Level.Prefixes ∷ C.Literal ∷ C.ValueWord ∷ C.Name ∷ C.Sign S.Open ∷ C.Word W.New ∷ [])
first (R.Operand Level.Products) = (C.Operator Level.Prefixes ∷ C.Literal ∷ C.ValueWord ∷ C.Name ∷ C.Sign S.Open ∷ C.Word W.New ∷ [])
first (R.Operand Level.Sums) = (C.Operator Level.Prefixes ∷ C.Literal ∷ C.ValueWord ∷ C.Name ∷ C.Sign S.Open ∷ C.Word W.New ∷ [])
first (R.Operand Level.Shifts) = (C.Operator Level.Prefixes ∷ C.Literal ∷ C.ValueWord ∷ C.Name ∷ C.Sign S.Open ∷ C.Word W.New ∷ [])
first (R.Operand Level.Orders) = (C.Operator Level.Prefixes ∷ C.Literal ∷ C.ValueWord ∷ C.Name ∷ C.Sign S.Open ∷ C.Word W.New ∷ [])
first (R.Operand Level.Equalities) = (C.Operator Level.Prefixes ∷ C.Literal ∷ C.ValueWord ∷ C.Name ∷ C.Sign S.Open ∷ C.Word W.New ∷ [])
first (R.Operand Level.BitAnds) = (C.Operator Level.Prefixes ∷ C.Literal ∷ C.ValueWord ∷ C.Name ∷ C.Sign S.Open ∷ C.Word W.New ∷ [])
first (R.Operand Level.BitXors) = (C.Operator Level.Prefixes ∷ C.Literal ∷ C.ValueWord ∷ C.Name ∷ C.Sign S.Open ∷ C.Word W.New ∷ [])
first (R.Operand Level.BitOrs) = (C.Operator Level.Prefixes ∷ C.Literal ∷ C.ValueWord ∷ C.Name ∷ C.Sign S.Open ∷ C.Word W.New ∷ [])
first (R.Operand Level.Ands) = (C.Operator Level.Prefixes ∷ C.Literal ∷ C.ValueWord ∷ C.Name ∷ C.Sign S.Open ∷ C.Word W.New ∷ [])
first (R.Operand Level.Ors) = (C.Operator Level.Prefixes ∷ C.Literal ∷ C.ValueWord ∷ C.Name ∷ C.Sign S.Open ∷ C.Word W.New ∷ [])
first (R.Tail Level.Prefixes) = []
first (R.Tail Level.Products) = (C.Operator Level.Products ∷ [])
first (R.Tail Level.Sums) = (C.Operator Level.Sums ∷ [])
first (R.Tail Level.Shifts) = (C.Operator Level.Shifts ∷ [])
first (R.Tail Level.Orders) = (C.Operator Level.Orders ∷ [])
first (R.Tail Level.Equalities) = (C.Operator Level.Equalities ∷ [])
first (R.Tail Level.BitAnds) = (C.Operator Level.BitAnds ∷ [])
first (R.Tail Level.BitXors) = (C.Operator Level.BitXors ∷ [])
first (R.Tail Level.BitOrs) = (C.Operator Level.BitOrs ∷ [])
first (R.Tail Level.Ands) = (C.Operator Level.Ands ∷ [])
first (R.Tail Level.Ors) = (C.Operator Level.Ors ∷ [])
first R.Postfix = (C.Literal ∷ C.ValueWord ∷ C.Name ∷ C.Sign S.Open ∷ C.Word W.New ∷ [])
first R.Called = (C.Sign S.Open ∷ [])
first R.Args = (C.Operator Level.Prefixes ∷ C.Literal ∷ C.ValueWord ∷ C.Name ∷ C.Sign S.Open ∷ C.Word W.New ∷ [])
first R.MoreArgs = (C.Sign S.Comma ∷ [])
first R.Post = (C.Sign S.Dot ∷ C.Sign S.OpenBracket ∷ [])
first R.Dotted = (C.Sign S.Open ∷ [])
first R.NewBase = (C.Name ∷ C.TypeWord ∷ [])
first R.NewMemory = (C.Sign S.Less ∷ C.Sign S.Open ∷ C.Sign S.OpenBracket ∷ [])
first R.NewRest = (C.Sign S.Open ∷ C.Sign S.OpenBracket ∷ [])
first R.FreshTail = (C.Sign S.Dot ∷ [])
first R.Sizes = (C.Sign S.OpenBracket ∷ [])
first R.MoreSizes = (C.Sign S.OpenBracket ∷ [])
first R.Simple = (C.Name ∷ C.Operator Level.Prefixes ∷ C.Literal ∷ C.ValueWord ∷ C.Sign S.Open ∷ C.Word W.New ∷ [])
first R.NameRest =
    (C.Sign S.Open ∷ C.Sign S.OpenBracket ∷ C.Assigning ∷ C.Counting ∷ C.Sign S.Dot ∷ C.Operator Level.Products ∷ C.Operator Level.Sums
    ∷ C.Operator Level.Shifts ∷ C.Operator Level.Orders ∷ C.Operator Level.Equalities ∷ C.Operator Level.BitAnds ∷ C.Operator Level.BitXors
    ∷ C.Operator Level.BitOrs ∷ C.Operator Level.Ands ∷ C.Operator Level.Ors ∷ C.Sign S.Question ∷ C.Sign S.Connect ∷ [])
first R.Other = (C.Operator Level.Prefixes ∷ C.Literal ∷ C.ValueWord ∷ C.Sign S.Open ∷ C.Word W.New ∷ [])
first R.NewStmt = (C.Name ∷ C.TypeWord ∷ [])
first R.NewStmtMemory = (C.Sign S.Less ∷ C.Sign S.Open ∷ C.Sign S.OpenBracket ∷ [])
first R.NewStmtRest = (C.Sign S.Open ∷ C.Sign S.OpenBracket ∷ [])
first (R.Rest Form.Place) =
    (C.Sign S.OpenBracket ∷ C.Assigning ∷ C.Counting ∷ C.Sign S.Dot ∷ C.Operator Level.Products ∷ C.Operator Level.Sums ∷ C.Operator Level.Shifts
    ∷ C.Operator Level.Orders ∷ C.Operator Level.Equalities ∷ C.Operator Level.BitAnds ∷ C.Operator Level.BitXors ∷ C.Operator Level.BitOrs
    ∷ C.Operator Level.Ands ∷ C.Operator Level.Ors ∷ C.Sign S.Question ∷ C.Sign S.Connect ∷ [])
first (R.Rest Form.Call) =
    (C.Sign S.OpenBracket ∷ C.Sign S.Dot ∷ C.Operator Level.Products ∷ C.Operator Level.Sums ∷ C.Operator Level.Shifts ∷ C.Operator Level.Orders
    ∷ C.Operator Level.Equalities ∷ C.Operator Level.BitAnds ∷ C.Operator Level.BitXors ∷ C.Operator Level.BitOrs ∷ C.Operator Level.Ands
    ∷ C.Operator Level.Ors ∷ C.Sign S.Question ∷ C.Sign S.Connect ∷ [])
first (R.Rest Form.Free) =
    (C.Sign S.OpenBracket ∷ C.Sign S.Dot ∷ C.Operator Level.Products ∷ C.Operator Level.Sums ∷ C.Operator Level.Shifts ∷ C.Operator Level.Orders
    ∷ C.Operator Level.Equalities ∷ C.Operator Level.BitAnds ∷ C.Operator Level.BitXors ∷ C.Operator Level.BitOrs ∷ C.Operator Level.Ands
    ∷ C.Operator Level.Ors ∷ C.Sign S.Question ∷ C.Sign S.Connect ∷ [])
first (R.Rest Form.Fresh) =
    (C.Sign S.Dot ∷ C.Operator Level.Products ∷ C.Operator Level.Sums ∷ C.Operator Level.Shifts ∷ C.Operator Level.Orders ∷ C.Operator Level.Equalities
    ∷ C.Operator Level.BitAnds ∷ C.Operator Level.BitXors ∷ C.Operator Level.BitOrs ∷ C.Operator Level.Ands ∷ C.Operator Level.Ors ∷ C.Sign S.Question
    ∷ C.Sign S.Connect ∷ [])
first R.Bare =
    (C.Assigning ∷ C.Counting ∷ C.Sign S.Dot ∷ C.Operator Level.Products ∷ C.Operator Level.Sums ∷ C.Operator Level.Shifts ∷ C.Operator Level.Orders
    ∷ C.Operator Level.Equalities ∷ C.Operator Level.BitAnds ∷ C.Operator Level.BitXors ∷ C.Operator Level.BitOrs ∷ C.Operator Level.Ands
    ∷ C.Operator Level.Ors ∷ C.Sign S.Question ∷ C.Sign S.Connect ∷ [])
first R.DottedRest =
    (C.Sign S.Open ∷ C.Sign S.OpenBracket ∷ C.Sign S.Dot ∷ C.Operator Level.Products ∷ C.Operator Level.Sums ∷ C.Operator Level.Shifts
    ∷ C.Operator Level.Orders ∷ C.Operator Level.Equalities ∷ C.Operator Level.BitAnds ∷ C.Operator Level.BitXors ∷ C.Operator Level.BitOrs
    ∷ C.Operator Level.Ands ∷ C.Operator Level.Ors ∷ C.Sign S.Question ∷ C.Sign S.Connect ∷ [])
first R.Init = (C.Sign S.OpenBrace ∷ C.Operator Level.Prefixes ∷ C.Literal ∷ C.ValueWord ∷ C.Name ∷ C.Sign S.Open ∷ C.Word W.New ∷ [])
first R.Inits = (C.Sign S.OpenBrace ∷ C.Operator Level.Prefixes ∷ C.Literal ∷ C.ValueWord ∷ C.Name ∷ C.Sign S.Open ∷ C.Word W.New ∷ [])
first R.MoreInits = (C.Sign S.Comma ∷ [])
first R.Block = (C.Sign S.OpenBrace ∷ [])
first R.Stmts =
    (C.Sign S.OpenBrace ∷ C.Word W.Final ∷ C.TypeWord ∷ C.Name ∷ C.Word W.Return ∷ C.Word W.If ∷ C.Word W.While ∷ C.Word W.For ∷ C.Sign S.Semicolon
    ∷ C.Operator Level.Prefixes ∷ C.Literal ∷ C.ValueWord ∷ C.Sign S.Open ∷ C.Word W.New ∷ [])
first R.Stmt =
    (C.Sign S.OpenBrace ∷ C.Word W.Final ∷ C.TypeWord ∷ C.Name ∷ C.Word W.Return ∷ C.Word W.If ∷ C.Word W.While ∷ C.Word W.For ∷ C.Sign S.Semicolon
    ∷ C.Operator Level.Prefixes ∷ C.Literal ∷ C.ValueWord ∷ C.Sign S.Open ∷ C.Word W.New ∷ [])
first (R.NameThen Site.Alone) =
    (C.Name ∷ C.Sign S.OpenBracket ∷ C.Sign S.Open ∷ C.Assigning ∷ C.Counting ∷ C.Sign S.Dot ∷ C.Operator Level.Products ∷ C.Operator Level.Sums
    ∷ C.Operator Level.Shifts ∷ C.Operator Level.Orders ∷ C.Operator Level.Equalities ∷ C.Operator Level.BitAnds ∷ C.Operator Level.BitXors
    ∷ C.Operator Level.BitOrs ∷ C.Operator Level.Ands ∷ C.Operator Level.Ors ∷ C.Sign S.Question ∷ C.Sign S.Connect ∷ [])
first (R.NameThen Site.Loop) =
    (C.Name ∷ C.Sign S.OpenBracket ∷ C.Sign S.Open ∷ C.Assigning ∷ C.Counting ∷ C.Sign S.Dot ∷ C.Operator Level.Products ∷ C.Operator Level.Sums
    ∷ C.Operator Level.Shifts ∷ C.Operator Level.Orders ∷ C.Operator Level.Equalities ∷ C.Operator Level.BitAnds ∷ C.Operator Level.BitXors
    ∷ C.Operator Level.BitOrs ∷ C.Operator Level.Ands ∷ C.Operator Level.Ors ∷ C.Sign S.Question ∷ C.Sign S.Connect ∷ [])
first (R.BracketThen Site.Alone) = (C.Sign S.CloseBracket ∷ C.Operator Level.Prefixes ∷ C.Literal ∷ C.ValueWord ∷ C.Name ∷ C.Sign S.Open ∷ C.Word W.New ∷ [])
first (R.BracketThen Site.Loop) = (C.Sign S.CloseBracket ∷ C.Operator Level.Prefixes ∷ C.Literal ∷ C.ValueWord ∷ C.Name ∷ C.Sign S.Open ∷ C.Word W.New ∷ [])
first (R.Declared Site.Alone) = (C.Sign S.Semicolon ∷ C.Sign S.Assign ∷ [])
first (R.Declared Site.Loop) = (C.Sign S.Assign ∷ [])
first R.ReturnRest = (C.Sign S.Semicolon ∷ C.Operator Level.Prefixes ∷ C.Literal ∷ C.ValueWord ∷ C.Name ∷ C.Sign S.Open ∷ C.Word W.New ∷ [])
first R.ElseTail = (C.Word W.Else ∷ [])
first R.ElseRest =
    (C.Word W.If ∷ C.Sign S.OpenBrace ∷ C.Word W.Return ∷ C.Name ∷ C.Operator Level.Prefixes ∷ C.Literal ∷ C.ValueWord ∷ C.Sign S.Open ∷ C.Word W.New
    ∷ [])
first R.Body = (C.Sign S.OpenBrace ∷ C.Word W.Return ∷ C.Name ∷ C.Operator Level.Prefixes ∷ C.Literal ∷ C.ValueWord ∷ C.Sign S.Open ∷ C.Word W.New ∷ [])
first R.First = (C.TypeWord ∷ C.Name ∷ C.Operator Level.Prefixes ∷ C.Literal ∷ C.ValueWord ∷ C.Sign S.Open ∷ C.Word W.New ∷ [])
first R.Test = (C.Operator Level.Prefixes ∷ C.Literal ∷ C.ValueWord ∷ C.Name ∷ C.Sign S.Open ∷ C.Word W.New ∷ [])
first R.Step = (C.Name ∷ C.Operator Level.Prefixes ∷ C.Literal ∷ C.ValueWord ∷ C.Sign S.Open ∷ C.Word W.New ∷ [])
first (R.MemoryThen Site.Alone) =
    (C.Name ∷ C.Sign S.OpenBracket ∷ C.Sign S.Open ∷ C.Assigning ∷ C.Counting ∷ C.Sign S.Dot ∷ C.Operator Level.Orders ∷ C.Operator Level.Equalities
    ∷ C.Operator Level.BitAnds ∷ C.Operator Level.BitXors ∷ C.Operator Level.BitOrs ∷ C.Operator Level.Ands ∷ C.Operator Level.Ors ∷ C.Sign S.Question
    ∷ C.Sign S.Connect ∷ C.Operator Level.Products ∷ C.Operator Level.Sums ∷ C.Operator Level.Shifts ∷ [])
first (R.MemoryThen Site.Loop) =
    (C.Name ∷ C.Sign S.OpenBracket ∷ C.Sign S.Open ∷ C.Assigning ∷ C.Counting ∷ C.Sign S.Dot ∷ C.Operator Level.Orders ∷ C.Operator Level.Equalities
    ∷ C.Operator Level.BitAnds ∷ C.Operator Level.BitXors ∷ C.Operator Level.BitOrs ∷ C.Operator Level.Ands ∷ C.Operator Level.Ors ∷ C.Sign S.Question
    ∷ C.Sign S.Connect ∷ C.Operator Level.Products ∷ C.Operator Level.Sums ∷ C.Operator Level.Shifts ∷ [])
first (R.LessThen Site.Alone) = (C.Name ∷ C.Operator Level.Prefixes ∷ C.Literal ∷ C.ValueWord ∷ C.Sign S.Open ∷ C.Word W.New ∷ [])
first (R.LessThen Site.Loop) = (C.Name ∷ C.Operator Level.Prefixes ∷ C.Literal ∷ C.ValueWord ∷ C.Sign S.Open ∷ C.Word W.New ∷ [])
first (R.DFEVarThen Site.Alone) =
    (C.Operator Level.Orders ∷ C.Operator Level.Equalities ∷ C.Operator Level.BitAnds ∷ C.Operator Level.BitXors ∷ C.Operator Level.BitOrs
    ∷ C.Operator Level.Ands ∷ C.Operator Level.Ors ∷ C.Sign S.Question ∷ C.Sign S.Connect ∷ C.Sign S.Open ∷ C.Sign S.Dot ∷ C.Sign S.OpenBracket
    ∷ C.Operator Level.Products ∷ C.Operator Level.Sums ∷ C.Operator Level.Shifts ∷ [])
first (R.DFEVarThen Site.Loop) =
    (C.Operator Level.Orders ∷ C.Operator Level.Equalities ∷ C.Operator Level.BitAnds ∷ C.Operator Level.BitXors ∷ C.Operator Level.BitOrs
    ∷ C.Operator Level.Ands ∷ C.Operator Level.Ors ∷ C.Sign S.Question ∷ C.Sign S.Connect ∷ C.Sign S.Open ∷ C.Sign S.Dot ∷ C.Sign S.OpenBracket
    ∷ C.Operator Level.Products ∷ C.Operator Level.Sums ∷ C.Operator Level.Shifts ∷ [])
first (R.GreaterThen Site.Alone) = (C.Name ∷ C.Sign S.OpenBracket ∷ C.Operator Level.Prefixes ∷ C.Literal ∷ C.ValueWord ∷ C.Sign S.Open ∷ C.Word W.New ∷ [])
first (R.GreaterThen Site.Loop) = (C.Name ∷ C.Sign S.OpenBracket ∷ C.Operator Level.Prefixes ∷ C.Literal ∷ C.ValueWord ∷ C.Sign S.Open ∷ C.Word W.New ∷ [])
first (R.MemoryName Site.Alone) =
    (C.Sign S.Semicolon ∷ C.Sign S.Assign ∷ C.Sign S.Open ∷ C.Sign S.Dot ∷ C.Sign S.OpenBracket ∷ C.Operator Level.Products ∷ C.Operator Level.Sums
    ∷ C.Operator Level.Shifts ∷ C.Operator Level.Orders ∷ C.Operator Level.Equalities ∷ C.Operator Level.BitAnds ∷ C.Operator Level.BitXors
    ∷ C.Operator Level.BitOrs ∷ C.Operator Level.Ands ∷ C.Operator Level.Ors ∷ C.Sign S.Question ∷ C.Sign S.Connect ∷ [])
first (R.MemoryName Site.Loop) =
    (C.Sign S.Assign ∷ C.Sign S.Open ∷ C.Sign S.Dot ∷ C.Sign S.OpenBracket ∷ C.Operator Level.Products ∷ C.Operator Level.Sums ∷ C.Operator Level.Shifts
    ∷ C.Operator Level.Orders ∷ C.Operator Level.Equalities ∷ C.Operator Level.BitAnds ∷ C.Operator Level.BitXors ∷ C.Operator Level.BitOrs
    ∷ C.Operator Level.Ands ∷ C.Operator Level.Ors ∷ C.Sign S.Question ∷ C.Sign S.Connect ∷ [])
first R.MemoryBare =
    (C.Assigning ∷ C.Counting ∷ C.Sign S.Dot ∷ C.OrderBut S.Less ∷ C.Operator Level.Equalities ∷ C.Operator Level.BitAnds ∷ C.Operator Level.BitXors
    ∷ C.Operator Level.BitOrs ∷ C.Operator Level.Ands ∷ C.Operator Level.Ors ∷ C.Sign S.Question ∷ C.Sign S.Connect ∷ C.Operator Level.Products
    ∷ C.Operator Level.Sums ∷ C.Operator Level.Shifts ∷ [])
first R.OtherOperand = (C.NameBut W.DFEVar ∷ C.Operator Level.Prefixes ∷ C.Literal ∷ C.ValueWord ∷ C.Sign S.Open ∷ C.Word W.New ∷ [])
first R.NamelessOperand = (C.Operator Level.Prefixes ∷ C.Literal ∷ C.ValueWord ∷ C.Sign S.Open ∷ C.Word W.New ∷ [])
first R.Further = (C.Sign S.Open ∷ C.Sign S.Dot ∷ C.Sign S.OpenBracket ∷ [])
first R.Tighter = (C.Operator Level.Products ∷ C.Operator Level.Sums ∷ C.Operator Level.Shifts ∷ [])

-- whether it may be empty
abbrev pub nullable : Rule → Bool
nullable R.File = false
nullable R.Package = true
nullable R.Path = false
nullable R.MorePath = true
nullable R.Imports = true
nullable R.MaybeStatic = true
nullable R.ImportMore = true
nullable R.ImportDot = false
nullable R.Classes = true
nullable R.Class = false
nullable R.Mods = true
nullable R.Declares = false
nullable R.MethodRest = false
nullable R.Params = true
nullable R.MoreParams = true
nullable R.Param = false
nullable R.MaybeFinal = true
nullable (R.Opening ClassKind.Kernel) = false
nullable (R.Opening ClassKind.Manager) = false
nullable (R.Opened ClassKind.Kernel) = true
nullable (R.Opened ClassKind.Manager) = true
nullable R.SuperRest = false
nullable R.TypeName = false
nullable R.MemoryType = true
nullable R.Dims = true
nullable R.Expr = false
nullable R.CondTail = true
nullable (R.Operand Level.Prefixes) = false
nullable (R.Operand Level.Products) = false
nullable (R.Operand Level.Sums) = false
nullable (R.Operand Level.Shifts) = false
nullable (R.Operand Level.Orders) = false
nullable (R.Operand Level.Equalities) = false
nullable (R.Operand Level.BitAnds) = false
nullable (R.Operand Level.BitXors) = false
nullable (R.Operand Level.BitOrs) = false
nullable (R.Operand Level.Ands) = false
nullable (R.Operand Level.Ors) = false
nullable (R.Tail Level.Prefixes) = true
nullable (R.Tail Level.Products) = true
nullable (R.Tail Level.Sums) = true
nullable (R.Tail Level.Shifts) = true
nullable (R.Tail Level.Orders) = true
nullable (R.Tail Level.Equalities) = true
nullable (R.Tail Level.BitAnds) = true
nullable (R.Tail Level.BitXors) = true
nullable (R.Tail Level.BitOrs) = true
nullable (R.Tail Level.Ands) = true
nullable (R.Tail Level.Ors) = true
nullable R.Postfix = false
nullable R.Called = true
nullable R.Args = true
nullable R.MoreArgs = true
nullable R.Post = true
nullable R.Dotted = true
nullable R.NewBase = false
nullable R.NewMemory = false
nullable R.NewRest = false
nullable R.FreshTail = true
nullable R.Sizes = false
nullable R.MoreSizes = true
nullable R.Simple = false
nullable R.NameRest = false
nullable R.Other = false
nullable R.NewStmt = false
nullable R.NewStmtMemory = false
nullable R.NewStmtRest = false
nullable (R.Rest Form.Place) = false
nullable (R.Rest Form.Call) = true
nullable (R.Rest Form.Free) = false
nullable (R.Rest Form.Fresh) = false
nullable R.Bare = false
nullable R.DottedRest = false
nullable R.Init = false
nullable R.Inits = true
nullable R.MoreInits = true
nullable R.Block = false
nullable R.Stmts = true
nullable R.Stmt = false
nullable (R.NameThen Site.Alone) = false
nullable (R.NameThen Site.Loop) = false
nullable (R.BracketThen Site.Alone) = false
nullable (R.BracketThen Site.Loop) = false
nullable (R.Declared Site.Alone) = false
nullable (R.Declared Site.Loop) = false
nullable R.ReturnRest = false
nullable R.ElseTail = true
nullable R.ElseRest = false
nullable R.Body = false
nullable R.First = true
nullable R.Test = true
nullable R.Step = true
nullable (R.MemoryThen Site.Alone) = false
nullable (R.MemoryThen Site.Loop) = false
nullable (R.LessThen Site.Alone) = false
nullable (R.LessThen Site.Loop) = false
nullable (R.DFEVarThen Site.Alone) = false
nullable (R.DFEVarThen Site.Loop) = false
nullable (R.GreaterThen Site.Alone) = false
nullable (R.GreaterThen Site.Loop) = false
nullable (R.MemoryName Site.Alone) = false
nullable (R.MemoryName Site.Loop) = false
nullable R.MemoryBare = false
nullable R.OtherOperand = false
nullable R.NamelessOperand = false
nullable R.Further = false
nullable R.Tighter = false

-- the classes of tokens with which it may go on where it could end
abbrev pub peek : Rule → List TokenClass
peek R.File = (C.Modifier ∷ C.Word W.Class ∷ [])
peek R.Package = (C.Word W.Package ∷ [])
peek R.Path = (C.Sign S.Dot ∷ [])
peek R.MorePath = (C.Sign S.Dot ∷ [])
peek R.Imports = (C.Word W.Import ∷ [])
peek R.MaybeStatic = (C.Word W.Static ∷ [])
peek R.ImportMore = (C.Sign S.Dot ∷ [])
peek R.ImportDot = (C.Sign S.Dot ∷ [])
peek R.Classes = (C.Modifier ∷ C.Word W.Class ∷ [])
peek R.Class = []
peek R.Mods = (C.Modifier ∷ [])
peek R.Declares = []
peek R.MethodRest = []
peek R.Params = (C.Word W.Final ∷ C.Name ∷ C.TypeWord ∷ C.Sign S.Comma ∷ [])
peek R.MoreParams = (C.Sign S.Comma ∷ [])
peek R.Param = []
peek R.MaybeFinal = (C.Word W.Final ∷ [])
peek (R.Opening ClassKind.Kernel) = []
peek (R.Opening ClassKind.Manager) = []
peek (R.Opened ClassKind.Kernel) = (C.Sign S.Comma ∷ [])
peek (R.Opened ClassKind.Manager) = []
peek R.SuperRest = []
peek R.TypeName = (C.Sign S.OpenBracket ∷ C.Sign S.Less ∷ [])
peek R.MemoryType = (C.Sign S.Less ∷ [])
peek R.Dims = (C.Sign S.OpenBracket ∷ [])
peek R.Expr =
    (C.Sign S.Question ∷ C.Operator Level.Products ∷ C.Operator Level.Sums ∷ C.Operator Level.Shifts ∷ C.Operator Level.Orders
    ∷ C.Operator Level.Equalities ∷ C.Operator Level.BitAnds ∷ C.Operator Level.BitXors ∷ C.Operator Level.BitOrs ∷ C.Operator Level.Ands
    ∷ C.Operator Level.Ors ∷ C.Sign S.Dot ∷ C.Sign S.OpenBracket ∷ C.Sign S.Open ∷ [])
peek R.CondTail =
    (C.Sign S.Question ∷ C.Operator Level.Products ∷ C.Operator Level.Sums ∷ C.Operator Level.Shifts ∷ C.Operator Level.Orders
    ∷ C.Operator Level.Equalities ∷ C.Operator Level.BitAnds ∷ C.Operator Level.BitXors ∷ C.Operator Level.BitOrs ∷ C.Operator Level.Ands
    ∷ C.Operator Level.Ors ∷ C.Sign S.Dot ∷ C.Sign S.OpenBracket ∷ C.Sign S.Open ∷ [])
peek (R.Operand Level.Prefixes) = (C.Sign S.Dot ∷ C.Sign S.OpenBracket ∷ C.Sign S.Open ∷ [])
peek (R.Operand Level.Products) = (C.Operator Level.Products ∷ C.Sign S.Dot ∷ C.Sign S.OpenBracket ∷ C.Sign S.Open ∷ [])
peek (R.Operand Level.Sums) = (C.Operator Level.Products ∷ C.Operator Level.Sums ∷ C.Sign S.Dot ∷ C.Sign S.OpenBracket ∷ C.Sign S.Open ∷ [])
peek (R.Operand Level.Shifts) =
    (C.Operator Level.Products ∷ C.Operator Level.Sums ∷ C.Operator Level.Shifts ∷ C.Sign S.Dot ∷ C.Sign S.OpenBracket ∷ C.Sign S.Open ∷ [])
peek (R.Operand Level.Orders) =
    (C.Operator Level.Products ∷ C.Operator Level.Sums ∷ C.Operator Level.Shifts ∷ C.Operator Level.Orders ∷ C.Sign S.Dot ∷ C.Sign S.OpenBracket
    ∷ C.Sign S.Open ∷ [])
peek (R.Operand Level.Equalities) =
    (C.Operator Level.Products ∷ C.Operator Level.Sums ∷ C.Operator Level.Shifts ∷ C.Operator Level.Orders ∷ C.Operator Level.Equalities ∷ C.Sign S.Dot
    ∷ C.Sign S.OpenBracket ∷ C.Sign S.Open ∷ [])
peek (R.Operand Level.BitAnds) =
    (C.Operator Level.Products ∷ C.Operator Level.Sums ∷ C.Operator Level.Shifts ∷ C.Operator Level.Orders ∷ C.Operator Level.Equalities
    ∷ C.Operator Level.BitAnds ∷ C.Sign S.Dot ∷ C.Sign S.OpenBracket ∷ C.Sign S.Open ∷ [])
peek (R.Operand Level.BitXors) =
    (C.Operator Level.Products ∷ C.Operator Level.Sums ∷ C.Operator Level.Shifts ∷ C.Operator Level.Orders ∷ C.Operator Level.Equalities
    ∷ C.Operator Level.BitAnds ∷ C.Operator Level.BitXors ∷ C.Sign S.Dot ∷ C.Sign S.OpenBracket ∷ C.Sign S.Open ∷ [])
peek (R.Operand Level.BitOrs) =
    (C.Operator Level.Products ∷ C.Operator Level.Sums ∷ C.Operator Level.Shifts ∷ C.Operator Level.Orders ∷ C.Operator Level.Equalities
    ∷ C.Operator Level.BitAnds ∷ C.Operator Level.BitXors ∷ C.Operator Level.BitOrs ∷ C.Sign S.Dot ∷ C.Sign S.OpenBracket ∷ C.Sign S.Open ∷ [])
peek (R.Operand Level.Ands) =
    (C.Operator Level.Products ∷ C.Operator Level.Sums ∷ C.Operator Level.Shifts ∷ C.Operator Level.Orders ∷ C.Operator Level.Equalities
    ∷ C.Operator Level.BitAnds ∷ C.Operator Level.BitXors ∷ C.Operator Level.BitOrs ∷ C.Operator Level.Ands ∷ C.Sign S.Dot ∷ C.Sign S.OpenBracket
    ∷ C.Sign S.Open ∷ [])
peek (R.Operand Level.Ors) =
    (C.Operator Level.Products ∷ C.Operator Level.Sums ∷ C.Operator Level.Shifts ∷ C.Operator Level.Orders ∷ C.Operator Level.Equalities
    ∷ C.Operator Level.BitAnds ∷ C.Operator Level.BitXors ∷ C.Operator Level.BitOrs ∷ C.Operator Level.Ands ∷ C.Operator Level.Ors ∷ C.Sign S.Dot
    ∷ C.Sign S.OpenBracket ∷ C.Sign S.Open ∷ [])
peek (R.Tail Level.Prefixes) = []
peek (R.Tail Level.Products) = (C.Operator Level.Products ∷ C.Sign S.Dot ∷ C.Sign S.OpenBracket ∷ C.Sign S.Open ∷ [])
peek (R.Tail Level.Sums) = (C.Operator Level.Sums ∷ C.Operator Level.Products ∷ C.Sign S.Dot ∷ C.Sign S.OpenBracket ∷ C.Sign S.Open ∷ [])
peek (R.Tail Level.Shifts) =
    (C.Operator Level.Shifts ∷ C.Operator Level.Products ∷ C.Operator Level.Sums ∷ C.Sign S.Dot ∷ C.Sign S.OpenBracket ∷ C.Sign S.Open ∷ [])
peek (R.Tail Level.Orders) =
    (C.Operator Level.Orders ∷ C.Operator Level.Products ∷ C.Operator Level.Sums ∷ C.Operator Level.Shifts ∷ C.Sign S.Dot ∷ C.Sign S.OpenBracket
    ∷ C.Sign S.Open ∷ [])
peek (R.Tail Level.Equalities) =
    (C.Operator Level.Equalities ∷ C.Operator Level.Products ∷ C.Operator Level.Sums ∷ C.Operator Level.Shifts ∷ C.Operator Level.Orders ∷ C.Sign S.Dot
    ∷ C.Sign S.OpenBracket ∷ C.Sign S.Open ∷ [])
peek (R.Tail Level.BitAnds) =
    (C.Operator Level.BitAnds ∷ C.Operator Level.Products ∷ C.Operator Level.Sums ∷ C.Operator Level.Shifts ∷ C.Operator Level.Orders
    ∷ C.Operator Level.Equalities ∷ C.Sign S.Dot ∷ C.Sign S.OpenBracket ∷ C.Sign S.Open ∷ [])
peek (R.Tail Level.BitXors) =
    (C.Operator Level.BitXors ∷ C.Operator Level.Products ∷ C.Operator Level.Sums ∷ C.Operator Level.Shifts ∷ C.Operator Level.Orders
    ∷ C.Operator Level.Equalities ∷ C.Operator Level.BitAnds ∷ C.Sign S.Dot ∷ C.Sign S.OpenBracket ∷ C.Sign S.Open ∷ [])
peek (R.Tail Level.BitOrs) =
    (C.Operator Level.BitOrs ∷ C.Operator Level.Products ∷ C.Operator Level.Sums ∷ C.Operator Level.Shifts ∷ C.Operator Level.Orders
    ∷ C.Operator Level.Equalities ∷ C.Operator Level.BitAnds ∷ C.Operator Level.BitXors ∷ C.Sign S.Dot ∷ C.Sign S.OpenBracket ∷ C.Sign S.Open ∷ [])
peek (R.Tail Level.Ands) =
    (C.Operator Level.Ands ∷ C.Operator Level.Products ∷ C.Operator Level.Sums ∷ C.Operator Level.Shifts ∷ C.Operator Level.Orders
    ∷ C.Operator Level.Equalities ∷ C.Operator Level.BitAnds ∷ C.Operator Level.BitXors ∷ C.Operator Level.BitOrs ∷ C.Sign S.Dot ∷ C.Sign S.OpenBracket
    ∷ C.Sign S.Open ∷ [])
peek (R.Tail Level.Ors) =
    (C.Operator Level.Ors ∷ C.Operator Level.Products ∷ C.Operator Level.Sums ∷ C.Operator Level.Shifts ∷ C.Operator Level.Orders
    ∷ C.Operator Level.Equalities ∷ C.Operator Level.BitAnds ∷ C.Operator Level.BitXors ∷ C.Operator Level.BitOrs ∷ C.Operator Level.Ands ∷ C.Sign S.Dot
    ∷ C.Sign S.OpenBracket ∷ C.Sign S.Open ∷ [])
peek R.Postfix = (C.Sign S.Dot ∷ C.Sign S.OpenBracket ∷ C.Sign S.Open ∷ [])
peek R.Called = (C.Sign S.Open ∷ [])
peek R.Args =
    (C.Operator Level.Prefixes ∷ C.Literal ∷ C.ValueWord ∷ C.Name ∷ C.Sign S.Open ∷ C.Word W.New ∷ C.Sign S.Question ∷ C.Sign S.Comma
    ∷ C.Operator Level.Products ∷ C.Operator Level.Sums ∷ C.Operator Level.Shifts ∷ C.Operator Level.Orders ∷ C.Operator Level.Equalities
    ∷ C.Operator Level.BitAnds ∷ C.Operator Level.BitXors ∷ C.Operator Level.BitOrs ∷ C.Operator Level.Ands ∷ C.Operator Level.Ors ∷ C.Sign S.Dot
    ∷ C.Sign S.OpenBracket ∷ [])
peek R.MoreArgs =
    (C.Sign S.Comma ∷ C.Sign S.Question ∷ C.Operator Level.Products ∷ C.Operator Level.Sums ∷ C.Operator Level.Shifts ∷ C.Operator Level.Orders
    ∷ C.Operator Level.Equalities ∷ C.Operator Level.BitAnds ∷ C.Operator Level.BitXors ∷ C.Operator Level.BitOrs ∷ C.Operator Level.Ands
    ∷ C.Operator Level.Ors ∷ C.Sign S.Dot ∷ C.Sign S.OpenBracket ∷ C.Sign S.Open ∷ [])
peek R.Post = (C.Sign S.Dot ∷ C.Sign S.OpenBracket ∷ C.Sign S.Open ∷ [])
peek R.Dotted = (C.Sign S.Open ∷ [])
peek R.NewBase = (C.Sign S.Dot ∷ C.Sign S.OpenBracket ∷ C.Sign S.Open ∷ [])
peek R.NewMemory = (C.Sign S.Open ∷ C.Sign S.Dot ∷ C.Sign S.OpenBracket ∷ [])
peek R.NewRest = (C.Sign S.Dot ∷ C.Sign S.OpenBracket ∷ C.Sign S.Open ∷ [])
peek R.FreshTail = (C.Sign S.Open ∷ C.Sign S.Dot ∷ C.Sign S.OpenBracket ∷ [])
peek R.Sizes = (C.Sign S.OpenBracket ∷ [])
peek R.MoreSizes = (C.Sign S.OpenBracket ∷ [])
peek R.Simple =
    (C.Sign S.OpenBracket ∷ C.Sign S.Dot ∷ C.Operator Level.Products ∷ C.Operator Level.Sums ∷ C.Operator Level.Shifts ∷ C.Operator Level.Orders
    ∷ C.Operator Level.Equalities ∷ C.Operator Level.BitAnds ∷ C.Operator Level.BitXors ∷ C.Operator Level.BitOrs ∷ C.Operator Level.Ands
    ∷ C.Operator Level.Ors ∷ C.Sign S.Question ∷ C.Sign S.Connect ∷ C.Sign S.Open ∷ [])
peek R.NameRest =
    (C.Sign S.OpenBracket ∷ C.Sign S.Dot ∷ C.Operator Level.Products ∷ C.Operator Level.Sums ∷ C.Operator Level.Shifts ∷ C.Operator Level.Orders
    ∷ C.Operator Level.Equalities ∷ C.Operator Level.BitAnds ∷ C.Operator Level.BitXors ∷ C.Operator Level.BitOrs ∷ C.Operator Level.Ands
    ∷ C.Operator Level.Ors ∷ C.Sign S.Question ∷ C.Sign S.Connect ∷ C.Sign S.Open ∷ [])
peek R.Other =
    (C.Sign S.Question ∷ C.Operator Level.Products ∷ C.Operator Level.Sums ∷ C.Operator Level.Shifts ∷ C.Operator Level.Orders
    ∷ C.Operator Level.Equalities ∷ C.Operator Level.BitAnds ∷ C.Operator Level.BitXors ∷ C.Operator Level.BitOrs ∷ C.Operator Level.Ands
    ∷ C.Operator Level.Ors ∷ C.Sign S.OpenBracket ∷ C.Sign S.Dot ∷ C.Sign S.Connect ∷ C.Sign S.Open ∷ [])
peek R.NewStmt =
    (C.Sign S.OpenBracket ∷ C.Sign S.Dot ∷ C.Operator Level.Products ∷ C.Operator Level.Sums ∷ C.Operator Level.Shifts ∷ C.Operator Level.Orders
    ∷ C.Operator Level.Equalities ∷ C.Operator Level.BitAnds ∷ C.Operator Level.BitXors ∷ C.Operator Level.BitOrs ∷ C.Operator Level.Ands
    ∷ C.Operator Level.Ors ∷ C.Sign S.Question ∷ C.Sign S.Connect ∷ C.Sign S.Open ∷ [])
peek R.NewStmtMemory =
    (C.Sign S.OpenBracket ∷ C.Sign S.Dot ∷ C.Operator Level.Products ∷ C.Operator Level.Sums ∷ C.Operator Level.Shifts ∷ C.Operator Level.Orders
    ∷ C.Operator Level.Equalities ∷ C.Operator Level.BitAnds ∷ C.Operator Level.BitXors ∷ C.Operator Level.BitOrs ∷ C.Operator Level.Ands
    ∷ C.Operator Level.Ors ∷ C.Sign S.Question ∷ C.Sign S.Connect ∷ C.Sign S.Open ∷ [])
peek R.NewStmtRest =
    (C.Sign S.OpenBracket ∷ C.Sign S.Dot ∷ C.Operator Level.Products ∷ C.Operator Level.Sums ∷ C.Operator Level.Shifts ∷ C.Operator Level.Orders
    ∷ C.Operator Level.Equalities ∷ C.Operator Level.BitAnds ∷ C.Operator Level.BitXors ∷ C.Operator Level.BitOrs ∷ C.Operator Level.Ands
    ∷ C.Operator Level.Ors ∷ C.Sign S.Question ∷ C.Sign S.Connect ∷ C.Sign S.Open ∷ [])
peek (R.Rest Form.Place) =
    (C.Sign S.Question ∷ C.Sign S.OpenBracket ∷ C.Sign S.Dot ∷ C.Operator Level.Products ∷ C.Operator Level.Sums ∷ C.Operator Level.Shifts
    ∷ C.Operator Level.Orders ∷ C.Operator Level.Equalities ∷ C.Operator Level.BitAnds ∷ C.Operator Level.BitXors ∷ C.Operator Level.BitOrs
    ∷ C.Operator Level.Ands ∷ C.Operator Level.Ors ∷ C.Sign S.Connect ∷ C.Sign S.Open ∷ [])
peek (R.Rest Form.Call) =
    (C.Sign S.OpenBracket ∷ C.Sign S.Dot ∷ C.Operator Level.Products ∷ C.Operator Level.Sums ∷ C.Operator Level.Shifts ∷ C.Operator Level.Orders
    ∷ C.Operator Level.Equalities ∷ C.Operator Level.BitAnds ∷ C.Operator Level.BitXors ∷ C.Operator Level.BitOrs ∷ C.Operator Level.Ands
    ∷ C.Operator Level.Ors ∷ C.Sign S.Question ∷ C.Sign S.Connect ∷ C.Sign S.Open ∷ [])
peek (R.Rest Form.Free) =
    (C.Sign S.OpenBracket ∷ C.Sign S.Dot ∷ C.Operator Level.Products ∷ C.Operator Level.Sums ∷ C.Operator Level.Shifts ∷ C.Operator Level.Orders
    ∷ C.Operator Level.Equalities ∷ C.Operator Level.BitAnds ∷ C.Operator Level.BitXors ∷ C.Operator Level.BitOrs ∷ C.Operator Level.Ands
    ∷ C.Operator Level.Ors ∷ C.Sign S.Question ∷ C.Sign S.Connect ∷ C.Sign S.Open ∷ [])
peek (R.Rest Form.Fresh) =
    (C.Sign S.OpenBracket ∷ C.Sign S.Dot ∷ C.Operator Level.Products ∷ C.Operator Level.Sums ∷ C.Operator Level.Shifts ∷ C.Operator Level.Orders
    ∷ C.Operator Level.Equalities ∷ C.Operator Level.BitAnds ∷ C.Operator Level.BitXors ∷ C.Operator Level.BitOrs ∷ C.Operator Level.Ands
    ∷ C.Operator Level.Ors ∷ C.Sign S.Question ∷ C.Sign S.Connect ∷ C.Sign S.Open ∷ [])
peek R.Bare =
    (C.Sign S.Question ∷ C.Sign S.OpenBracket ∷ C.Sign S.Dot ∷ C.Operator Level.Products ∷ C.Operator Level.Sums ∷ C.Operator Level.Shifts
    ∷ C.Operator Level.Orders ∷ C.Operator Level.Equalities ∷ C.Operator Level.BitAnds ∷ C.Operator Level.BitXors ∷ C.Operator Level.BitOrs
    ∷ C.Operator Level.Ands ∷ C.Operator Level.Ors ∷ C.Sign S.Connect ∷ C.Sign S.Open ∷ [])
peek R.DottedRest =
    (C.Sign S.OpenBracket ∷ C.Sign S.Dot ∷ C.Operator Level.Products ∷ C.Operator Level.Sums ∷ C.Operator Level.Shifts ∷ C.Operator Level.Orders
    ∷ C.Operator Level.Equalities ∷ C.Operator Level.BitAnds ∷ C.Operator Level.BitXors ∷ C.Operator Level.BitOrs ∷ C.Operator Level.Ands
    ∷ C.Operator Level.Ors ∷ C.Sign S.Question ∷ C.Sign S.Connect ∷ C.Sign S.Open ∷ [])
peek R.Init =
    (C.Sign S.Question ∷ C.Operator Level.Products ∷ C.Operator Level.Sums ∷ C.Operator Level.Shifts ∷ C.Operator Level.Orders
    ∷ C.Operator Level.Equalities ∷ C.Operator Level.BitAnds ∷ C.Operator Level.BitXors ∷ C.Operator Level.BitOrs ∷ C.Operator Level.Ands
    ∷ C.Operator Level.Ors ∷ C.Sign S.Dot ∷ C.Sign S.OpenBracket ∷ C.Sign S.Open ∷ [])
peek R.Inits =
    (C.Sign S.OpenBrace ∷ C.Operator Level.Prefixes ∷ C.Literal ∷ C.ValueWord ∷ C.Name ∷ C.Sign S.Open ∷ C.Word W.New ∷ C.Sign S.Question
    ∷ C.Sign S.Comma ∷ C.Operator Level.Products ∷ C.Operator Level.Sums ∷ C.Operator Level.Shifts ∷ C.Operator Level.Orders
    ∷ C.Operator Level.Equalities ∷ C.Operator Level.BitAnds ∷ C.Operator Level.BitXors ∷ C.Operator Level.BitOrs ∷ C.Operator Level.Ands
    ∷ C.Operator Level.Ors ∷ C.Sign S.Dot ∷ C.Sign S.OpenBracket ∷ [])
peek R.MoreInits =
    (C.Sign S.Comma ∷ C.Sign S.Question ∷ C.Operator Level.Products ∷ C.Operator Level.Sums ∷ C.Operator Level.Shifts ∷ C.Operator Level.Orders
    ∷ C.Operator Level.Equalities ∷ C.Operator Level.BitAnds ∷ C.Operator Level.BitXors ∷ C.Operator Level.BitOrs ∷ C.Operator Level.Ands
    ∷ C.Operator Level.Ors ∷ C.Sign S.Dot ∷ C.Sign S.OpenBracket ∷ C.Sign S.Open ∷ [])
peek R.Block = []
peek R.Stmts =
    (C.Sign S.OpenBrace ∷ C.Word W.Final ∷ C.TypeWord ∷ C.Name ∷ C.Word W.Return ∷ C.Word W.If ∷ C.Word W.While ∷ C.Word W.For ∷ C.Sign S.Semicolon
    ∷ C.Operator Level.Prefixes ∷ C.Literal ∷ C.ValueWord ∷ C.Sign S.Open ∷ C.Word W.New ∷ C.Word W.Else ∷ [])
peek R.Stmt = (C.Word W.Else ∷ [])
peek (R.NameThen Site.Alone) = []
peek (R.NameThen Site.Loop) =
    (C.Sign S.OpenBracket ∷ C.Sign S.Dot ∷ C.Operator Level.Products ∷ C.Operator Level.Sums ∷ C.Operator Level.Shifts ∷ C.Operator Level.Orders
    ∷ C.Operator Level.Equalities ∷ C.Operator Level.BitAnds ∷ C.Operator Level.BitXors ∷ C.Operator Level.BitOrs ∷ C.Operator Level.Ands
    ∷ C.Operator Level.Ors ∷ C.Sign S.Question ∷ C.Sign S.Connect ∷ C.Sign S.Open ∷ [])
peek (R.BracketThen Site.Alone) = []
peek (R.BracketThen Site.Loop) =
    (C.Sign S.Question ∷ C.Sign S.OpenBracket ∷ C.Sign S.Dot ∷ C.Operator Level.Products ∷ C.Operator Level.Sums ∷ C.Operator Level.Shifts
    ∷ C.Operator Level.Orders ∷ C.Operator Level.Equalities ∷ C.Operator Level.BitAnds ∷ C.Operator Level.BitXors ∷ C.Operator Level.BitOrs
    ∷ C.Operator Level.Ands ∷ C.Operator Level.Ors ∷ C.Sign S.Connect ∷ C.Sign S.Open ∷ [])
peek (R.Declared Site.Alone) = []
peek (R.Declared Site.Loop) =
    (C.Sign S.Question ∷ C.Operator Level.Products ∷ C.Operator Level.Sums ∷ C.Operator Level.Shifts ∷ C.Operator Level.Orders
    ∷ C.Operator Level.Equalities ∷ C.Operator Level.BitAnds ∷ C.Operator Level.BitXors ∷ C.Operator Level.BitOrs ∷ C.Operator Level.Ands
    ∷ C.Operator Level.Ors ∷ C.Sign S.Dot ∷ C.Sign S.OpenBracket ∷ C.Sign S.Open ∷ [])
peek R.ReturnRest = []
peek R.ElseTail = (C.Word W.Else ∷ [])
peek R.ElseRest = (C.Word W.Else ∷ [])
peek R.Body = []
peek R.First =
    (C.Sign S.OpenBracket ∷ C.Sign S.Dot ∷ C.Operator Level.Products ∷ C.Operator Level.Sums ∷ C.Operator Level.Shifts ∷ C.Operator Level.Orders
    ∷ C.Operator Level.Equalities ∷ C.Operator Level.BitAnds ∷ C.Operator Level.BitXors ∷ C.Operator Level.BitOrs ∷ C.Operator Level.Ands
    ∷ C.Operator Level.Ors ∷ C.Sign S.Question ∷ C.Sign S.Connect ∷ C.TypeWord ∷ C.Name ∷ C.Operator Level.Prefixes ∷ C.Literal ∷ C.ValueWord
    ∷ C.Sign S.Open ∷ C.Word W.New ∷ [])
peek R.Test =
    (C.Operator Level.Prefixes ∷ C.Literal ∷ C.ValueWord ∷ C.Name ∷ C.Sign S.Open ∷ C.Word W.New ∷ C.Sign S.Question ∷ C.Operator Level.Products
    ∷ C.Operator Level.Sums ∷ C.Operator Level.Shifts ∷ C.Operator Level.Orders ∷ C.Operator Level.Equalities ∷ C.Operator Level.BitAnds
    ∷ C.Operator Level.BitXors ∷ C.Operator Level.BitOrs ∷ C.Operator Level.Ands ∷ C.Operator Level.Ors ∷ C.Sign S.Dot ∷ C.Sign S.OpenBracket ∷ [])
peek R.Step =
    (C.Name ∷ C.Operator Level.Prefixes ∷ C.Literal ∷ C.ValueWord ∷ C.Sign S.Open ∷ C.Word W.New ∷ C.Sign S.OpenBracket ∷ C.Sign S.Dot
    ∷ C.Operator Level.Products ∷ C.Operator Level.Sums ∷ C.Operator Level.Shifts ∷ C.Operator Level.Orders ∷ C.Operator Level.Equalities
    ∷ C.Operator Level.BitAnds ∷ C.Operator Level.BitXors ∷ C.Operator Level.BitOrs ∷ C.Operator Level.Ands ∷ C.Operator Level.Ors ∷ C.Sign S.Question
    ∷ C.Sign S.Connect ∷ [])
peek (R.MemoryThen Site.Alone) = []
peek (R.MemoryThen Site.Loop) =
    (C.Sign S.OpenBracket ∷ C.Sign S.Dot ∷ C.Operator Level.Products ∷ C.Operator Level.Sums ∷ C.Operator Level.Shifts ∷ C.Operator Level.Orders
    ∷ C.Operator Level.Equalities ∷ C.Operator Level.BitAnds ∷ C.Operator Level.BitXors ∷ C.Operator Level.BitOrs ∷ C.Operator Level.Ands
    ∷ C.Operator Level.Ors ∷ C.Sign S.Question ∷ C.Sign S.Connect ∷ C.Sign S.Open ∷ [])
peek (R.LessThen Site.Alone) = []
peek (R.LessThen Site.Loop) =
    (C.Sign S.Question ∷ C.Operator Level.Products ∷ C.Operator Level.Sums ∷ C.Operator Level.Shifts ∷ C.Operator Level.Orders
    ∷ C.Operator Level.Equalities ∷ C.Operator Level.BitAnds ∷ C.Operator Level.BitXors ∷ C.Operator Level.BitOrs ∷ C.Operator Level.Ands
    ∷ C.Operator Level.Ors ∷ C.Sign S.Dot ∷ C.Sign S.OpenBracket ∷ C.Sign S.Open ∷ [])
peek (R.DFEVarThen Site.Alone) = []
peek (R.DFEVarThen Site.Loop) =
    (C.Sign S.Question ∷ C.Operator Level.Products ∷ C.Operator Level.Sums ∷ C.Operator Level.Shifts ∷ C.Operator Level.Orders
    ∷ C.Operator Level.Equalities ∷ C.Operator Level.BitAnds ∷ C.Operator Level.BitXors ∷ C.Operator Level.BitOrs ∷ C.Operator Level.Ands
    ∷ C.Operator Level.Ors ∷ C.Sign S.Dot ∷ C.Sign S.OpenBracket ∷ C.Sign S.Open ∷ [])
peek (R.GreaterThen Site.Alone) = []
peek (R.GreaterThen Site.Loop) =
    (C.Sign S.Question ∷ C.Operator Level.Products ∷ C.Operator Level.Sums ∷ C.Operator Level.Shifts ∷ C.Operator Level.Orders
    ∷ C.Operator Level.Equalities ∷ C.Operator Level.BitAnds ∷ C.Operator Level.BitXors ∷ C.Operator Level.BitOrs ∷ C.Operator Level.Ands
    ∷ C.Operator Level.Ors ∷ C.Sign S.Dot ∷ C.Sign S.OpenBracket ∷ C.Sign S.Open ∷ [])
peek (R.MemoryName Site.Alone) = []
peek (R.MemoryName Site.Loop) =
    (C.Sign S.Question ∷ C.Operator Level.Products ∷ C.Operator Level.Sums ∷ C.Operator Level.Shifts ∷ C.Operator Level.Orders
    ∷ C.Operator Level.Equalities ∷ C.Operator Level.BitAnds ∷ C.Operator Level.BitXors ∷ C.Operator Level.BitOrs ∷ C.Operator Level.Ands
    ∷ C.Operator Level.Ors ∷ C.Sign S.Dot ∷ C.Sign S.OpenBracket ∷ C.Sign S.Open ∷ [])
peek R.MemoryBare =
    (C.Sign S.OpenBracket ∷ C.Sign S.Dot ∷ C.Operator Level.Products ∷ C.Operator Level.Sums ∷ C.Operator Level.Shifts ∷ C.Operator Level.Orders
    ∷ C.Operator Level.Equalities ∷ C.Operator Level.BitAnds ∷ C.Operator Level.BitXors ∷ C.Operator Level.BitOrs ∷ C.Operator Level.Ands
    ∷ C.Operator Level.Ors ∷ C.Sign S.Question ∷ C.Sign S.Connect ∷ C.Sign S.Open ∷ [])
peek R.OtherOperand = (C.Sign S.Open ∷ C.Sign S.Dot ∷ C.Sign S.OpenBracket ∷ [])
peek R.NamelessOperand = (C.Sign S.Dot ∷ C.Sign S.OpenBracket ∷ C.Sign S.Open ∷ [])
peek R.Further = (C.Sign S.Dot ∷ C.Sign S.OpenBracket ∷ C.Sign S.Open ∷ [])
peek R.Tighter = (C.Operator Level.Products ∷ C.Operator Level.Sums ∷ C.Operator Level.Shifts ∷ C.Sign S.Dot ∷ C.Sign S.OpenBracket ∷ C.Sign S.Open ∷ [])

-- more than what may come before the next token in each of its choices
abbrev pub weight : Rule → ℕ
weight R.File = 6
weight R.Package = 1
weight R.Path = 1
weight R.MorePath = 1
weight R.Imports = 1
weight R.MaybeStatic = 1
weight R.ImportMore = 1
weight R.ImportDot = 1
weight R.Classes = 4
weight R.Class = 3
weight R.Mods = 1
weight R.Declares = 3
weight R.MethodRest = 1
weight R.Params = 5
weight R.MoreParams = 1
weight R.Param = 4
weight R.MaybeFinal = 1
weight (R.Opening ClassKind.Kernel) = 3
weight (R.Opening ClassKind.Manager) = 3
weight (R.Opened ClassKind.Kernel) = 4
weight (R.Opened ClassKind.Manager) = 3
weight R.SuperRest = 1
weight R.TypeName = 1
weight R.MemoryType = 1
weight R.Dims = 2
weight R.Expr = 14
weight R.CondTail = 2
weight (R.Operand Level.Prefixes) = 3
weight (R.Operand Level.Products) = 4
weight (R.Operand Level.Sums) = 5
weight (R.Operand Level.Shifts) = 6
weight (R.Operand Level.Orders) = 7
weight (R.Operand Level.Equalities) = 8
weight (R.Operand Level.BitAnds) = 9
weight (R.Operand Level.BitXors) = 10
weight (R.Operand Level.BitOrs) = 11
weight (R.Operand Level.Ands) = 12
weight (R.Operand Level.Ors) = 13
weight (R.Tail Level.Prefixes) = 1
weight (R.Tail Level.Products) = 1
weight (R.Tail Level.Sums) = 1
weight (R.Tail Level.Shifts) = 1
weight (R.Tail Level.Orders) = 1
weight (R.Tail Level.Equalities) = 1
weight (R.Tail Level.BitAnds) = 1
weight (R.Tail Level.BitXors) = 1
weight (R.Tail Level.BitOrs) = 1
weight (R.Tail Level.Ands) = 1
weight (R.Tail Level.Ors) = 1
weight R.Postfix = 2
weight R.Called = 2
weight R.Args = 15
weight R.MoreArgs = 1
weight R.Post = 2
weight R.Dotted = 2
weight R.NewBase = 1
weight R.NewMemory = 5
weight R.NewRest = 4
weight R.FreshTail = 1
weight R.Sizes = 1
weight R.MoreSizes = 2
weight R.Simple = 3
weight R.NameRest = 16
weight R.Other = 2
weight R.NewStmt = 1
weight R.NewStmtMemory = 5
weight R.NewStmtRest = 4
weight (R.Rest Form.Place) = 15
weight (R.Rest Form.Call) = 14
weight (R.Rest Form.Free) = 14
weight (R.Rest Form.Fresh) = 14
weight R.Bare = 14
weight R.DottedRest = 16
weight R.Init = 15
weight R.Inits = 16
weight R.MoreInits = 1
weight R.Block = 2
weight R.Stmts = 4
weight R.Stmt = 3
weight (R.NameThen Site.Alone) = 15
weight (R.NameThen Site.Loop) = 15
weight (R.BracketThen Site.Alone) = 16
weight (R.BracketThen Site.Loop) = 16
weight (R.Declared Site.Alone) = 1
weight (R.Declared Site.Loop) = 1
weight R.ReturnRest = 15
weight R.ElseTail = 1
weight R.ElseRest = 5
weight R.Body = 4
weight R.First = 3
weight R.Test = 15
weight R.Step = 4
weight (R.MemoryThen Site.Alone) = 11
weight (R.MemoryThen Site.Loop) = 11
weight (R.LessThen Site.Alone) = 4
weight (R.LessThen Site.Loop) = 4
weight (R.DFEVarThen Site.Alone) = 12
weight (R.DFEVarThen Site.Loop) = 12
weight (R.GreaterThen Site.Alone) = 3
weight (R.GreaterThen Site.Loop) = 3
weight (R.MemoryName Site.Alone) = 20
weight (R.MemoryName Site.Loop) = 20
weight R.MemoryBare = 10
weight R.OtherOperand = 3
weight R.NamelessOperand = 2
weight R.Further = 2
weight R.Tighter = 1
