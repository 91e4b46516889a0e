-- Made by tools/source_grammar.py from tools/source_grammar.txt.
-- The table of the parser: the choices of each rule, and the tokens with which each is taken.
use Rattle.std.specs.Prelude.{List, [], ◌∷◌, ◌++◌}
use Rattle.maxj_syntax.specs.declared.level.Level.{Level}
use Rattle.maxj_tokens.specs.declared.sign.Sign.TheVariants as S
use Rattle.maxj_syntax.specs.declared.kind.Word.TheVariants as W
use Rattle.maxj_syntax.specs.declared.tree.NodeKind.TheVariants as N
use Rattle.maxj_syntax.specs.declared.symbol.TokenClass.{TokenClass}
use Rattle.maxj_syntax.specs.declared.symbol.TokenClass.TheVariants as C
use Rattle.maxj_syntax.specs.declared.symbol.Effect.TheVariants.{Skip, Leaf, Push, Over, Text}
use Rattle.maxj_syntax.specs.declared.symbol.Action.TheVariants.{Begin, Wrap, Turn, Into, End, Inner, Named, Hole, Memory, Declare}
use Rattle.maxj_syntax.specs.declared.symbol.ClassKind.{ClassKind}
use Rattle.maxj_syntax.specs.declared.symbol.Form.{Form}
use Rattle.maxj_syntax.specs.declared.symbol.Site.{Site}
use Rattle.maxj_syntax.specs.declared.symbol.Rule.{Rule}
use Rattle.maxj_syntax.specs.declared.symbol.Rule.TheVariants as R
use Rattle.maxj_syntax.specs.Symbols.{Inside, Symbol, Mark, Name, Sub, Call, Act}
use Rattle.maxj_syntax.specs.Symbols as Y
use Rattle.maxj_syntax.specs.Moves.{sign, word, onward, ordered, looser, close}

-- the choices of a rule; the last one is taken where no other is
abbrev pub choices : Rule → List (List Symbol)
choices R.File = (Sub R.Package ∷ Sub R.Imports ∷ Sub R.Class ∷ Sub R.Classes ∷ []) ∷ []
choices R.Package = (word W.Package ∷ Sub R.Path ∷ sign S.Semicolon ∷ []) ∷ [] ∷ []
choices R.Path = (Mark C.Name Skip ∷ Sub R.MorePath ∷ []) ∷ []
choices R.MorePath = (sign S.Dot ∷ Mark C.Name Skip ∷ Sub R.MorePath ∷ []) ∷ [] ∷ []
choices R.Imports = (word W.Import ∷ Sub R.MaybeStatic ∷ Mark C.Name Skip ∷ Sub R.ImportMore ∷ sign S.Semicolon ∷ Sub R.Imports ∷ []) ∷ [] ∷ []
choices R.MaybeStatic = (word W.Static ∷ []) ∷ [] ∷ []
choices R.ImportMore = (sign S.Dot ∷ Sub R.ImportDot ∷ []) ∷ [] ∷ []
choices R.ImportDot = (Mark C.Name Skip ∷ Sub R.ImportMore ∷ []) ∷ (sign S.Star ∷ []) ∷ []
choices R.Classes = (Sub R.Class ∷ Sub R.Classes ∷ []) ∷ [] ∷ []
choices R.Class = (Act (Begin N.Class) ∷ Sub R.Mods ∷ word W.Class ∷ Call Y.ClassName ∷ []) ∷ []
choices R.Mods = (Mark C.Modifier Skip ∷ Sub R.Mods ∷ []) ∷ [] ∷ []
choices R.Declares =
    (sign S.Semicolon ∷ Act End ∷ [])
    ∷ (sign S.Assign ∷ Sub R.Init ∷ Act Into ∷ sign S.Semicolon ∷ Act End ∷ [])
    ∷ (Act (Turn N.Method) ∷ Sub R.MethodRest ∷ []) ∷ []
choices R.MethodRest = (sign S.Open ∷ Sub R.Params ∷ sign S.Close ∷ Sub R.Block ∷ Act Into ∷ Act End ∷ []) ∷ []
choices R.Params = (Sub R.Param ∷ Act Into ∷ Sub R.MoreParams ∷ []) ∷ [] ∷ []
choices R.MoreParams = (sign S.Comma ∷ Sub R.Param ∷ Act Into ∷ Sub R.MoreParams ∷ []) ∷ [] ∷ []
choices R.Param = (Act (Begin N.Param) ∷ Sub R.MaybeFinal ∷ Sub R.TypeName ∷ Act Into ∷ Mark C.Name Text ∷ Act End ∷ []) ∷ []
choices R.MaybeFinal = (word W.Final ∷ []) ∷ [] ∷ []
choices (R.Opening ClassKind.Kernel) =
    (Act (Begin N.Param) ∷ Sub R.MaybeFinal ∷ Mark (C.Word W.KernelParameters) (Push N.Plain) ∷ Act Into ∷ Call (Y.FirstParam ClassKind.Kernel) ∷ []) ∷ []
choices (R.Opening ClassKind.Manager) =
    (Act (Begin N.Param) ∷ Sub R.MaybeFinal ∷ Mark (C.Word W.EngineParameters) (Push N.Plain) ∷ Act Into ∷ Call (Y.FirstParam ClassKind.Manager) ∷ []) ∷ []
choices (R.Opened ClassKind.Kernel) = (Act End ∷ Act Into ∷ Sub R.MoreParams ∷ []) ∷ []
choices (R.Opened ClassKind.Manager) = (Act End ∷ Act Into ∷ []) ∷ []
choices R.SuperRest = (sign S.Close ∷ sign S.Semicolon ∷ Sub R.Stmts ∷ sign S.CloseBrace ∷ Act End ∷ Act Into ∷ Act End ∷ []) ∷ []
choices R.TypeName =
    (Mark (C.NameBut W.Memory) (Push N.Plain) ∷ Sub R.Dims ∷ [])
    ∷ (Mark (C.Word W.Memory) (Push N.Plain) ∷ Sub R.MemoryType ∷ Sub R.Dims ∷ [])
    ∷ (Mark C.TypeWord (Push N.Plain) ∷ Sub R.Dims ∷ []) ∷ []
choices R.MemoryType = (sign S.Less ∷ word W.DFEVar ∷ sign S.Greater ∷ Act End ∷ []) ∷ [] ∷ []
choices R.Dims = (Act (Wrap N.ArrayOf) ∷ sign S.OpenBracket ∷ sign S.CloseBracket ∷ Act End ∷ Sub R.Dims ∷ []) ∷ [] ∷ []
choices R.Expr = (Sub (R.Operand Level.Ors) ∷ Sub R.CondTail ∷ []) ∷ []
choices R.CondTail = (Act (Wrap N.Cond) ∷ sign S.Question ∷ Sub R.Expr ∷ Act Into ∷ sign S.Colon ∷ Sub R.Expr ∷ Act Into ∷ Act End ∷ []) ∷ [] ∷ []
choices (R.Operand Level.Prefixes) =
    (Mark (C.Operator Level.Prefixes) (Push N.Prefix) ∷ Sub (R.Operand Level.Prefixes) ∷ Act Into ∷ Act End ∷ [])
    ∷ (Sub R.Postfix ∷ []) ∷ []
choices (R.Operand Level.Products) = (Sub (R.Operand Level.Prefixes) ∷ Sub (R.Tail Level.Products) ∷ []) ∷ []
choices (R.Operand Level.Sums) = (Sub (R.Operand Level.Products) ∷ Sub (R.Tail Level.Sums) ∷ []) ∷ []
choices (R.Operand Level.Shifts) = (Sub (R.Operand Level.Sums) ∷ Sub (R.Tail Level.Shifts) ∷ []) ∷ []
choices (R.Operand Level.Orders) = (Sub (R.Operand Level.Shifts) ∷ Sub (R.Tail Level.Orders) ∷ []) ∷ []
choices (R.Operand Level.Equalities) = (Sub (R.Operand Level.Orders) ∷ Sub (R.Tail Level.Equalities) ∷ []) ∷ []
choices (R.Operand Level.BitAnds) = (Sub (R.Operand Level.Equalities) ∷ Sub (R.Tail Level.BitAnds) ∷ []) ∷ []
choices (R.Operand Level.BitXors) = (Sub (R.Operand Level.BitAnds) ∷ Sub (R.Tail Level.BitXors) ∷ []) ∷ []
choices (R.Operand Level.BitOrs) = (Sub (R.Operand Level.BitXors) ∷ Sub (R.Tail Level.BitOrs) ∷ []) ∷ []
choices (R.Operand Level.Ands) = (Sub (R.Operand Level.BitOrs) ∷ Sub (R.Tail Level.Ands) ∷ []) ∷ []
choices (R.Operand Level.Ors) = (Sub (R.Operand Level.Ands) ∷ Sub (R.Tail Level.Ors) ∷ []) ∷ []
choices (R.Tail Level.Prefixes) = [] ∷ []
choices (R.Tail Level.Products) =
    (Mark (C.Operator Level.Products) (Over N.Binary) ∷ Sub (R.Operand Level.Prefixes) ∷ Act Into ∷ Act End ∷ Sub (R.Tail Level.Products) ∷ [])
    ∷ [] ∷ []
choices (R.Tail Level.Sums) =
    (Mark (C.Operator Level.Sums) (Over N.Binary) ∷ Sub (R.Operand Level.Products) ∷ Act Into ∷ Act End ∷ Sub (R.Tail Level.Sums) ∷ [])
    ∷ [] ∷ []
choices (R.Tail Level.Shifts) =
    (Mark (C.Operator Level.Shifts) (Over N.Binary) ∷ Sub (R.Operand Level.Sums) ∷ Act Into ∷ Act End ∷ Sub (R.Tail Level.Shifts) ∷ [])
    ∷ [] ∷ []
choices (R.Tail Level.Orders) =
    (Mark (C.Operator Level.Orders) (Over N.Binary) ∷ Sub (R.Operand Level.Shifts) ∷ Act Into ∷ Act End ∷ Sub (R.Tail Level.Orders) ∷ [])
    ∷ [] ∷ []
choices (R.Tail Level.Equalities) =
    (Mark (C.Operator Level.Equalities) (Over N.Binary) ∷ Sub (R.Operand Level.Orders) ∷ Act Into ∷ Act End ∷ Sub (R.Tail Level.Equalities) ∷ [])
    ∷ [] ∷ []
choices (R.Tail Level.BitAnds) =
    (Mark (C.Operator Level.BitAnds) (Over N.Binary) ∷ Sub (R.Operand Level.Equalities) ∷ Act Into ∷ Act End ∷ Sub (R.Tail Level.BitAnds) ∷ [])
    ∷ [] ∷ []
choices (R.Tail Level.BitXors) =
    (Mark (C.Operator Level.BitXors) (Over N.Binary) ∷ Sub (R.Operand Level.BitAnds) ∷ Act Into ∷ Act End ∷ Sub (R.Tail Level.BitXors) ∷ [])
    ∷ [] ∷ []
choices (R.Tail Level.BitOrs) =
    (Mark (C.Operator Level.BitOrs) (Over N.Binary) ∷ Sub (R.Operand Level.BitXors) ∷ Act Into ∷ Act End ∷ Sub (R.Tail Level.BitOrs) ∷ [])
    ∷ [] ∷ []
choices (R.Tail Level.Ands) =
    (Mark (C.Operator Level.Ands) (Over N.Binary) ∷ Sub (R.Operand Level.BitOrs) ∷ Act Into ∷ Act End ∷ Sub (R.Tail Level.Ands) ∷ [])
    ∷ [] ∷ []
choices (R.Tail Level.Ors) =
    (Mark (C.Operator Level.Ors) (Over N.Binary) ∷ Sub (R.Operand Level.Ands) ∷ Act Into ∷ Act End ∷ Sub (R.Tail Level.Ors) ∷ [])
    ∷ [] ∷ []
choices R.Postfix =
    (Mark C.Literal Leaf ∷ Sub R.Post ∷ [])
    ∷ (Mark C.ValueWord (Push N.Name) ∷ Sub R.Post ∷ [])
    ∷ (Mark C.Name (Push N.Name) ∷ Sub R.Called ∷ Sub R.Post ∷ [])
    ∷ (Act (Begin N.Empty) ∷ sign S.Open ∷ Sub R.Expr ∷ sign S.Close ∷ Act Inner ∷ Sub R.Post ∷ [])
    ∷ (Act (Begin N.New) ∷ word W.New ∷ Sub R.NewBase ∷ []) ∷ []
choices R.Called = (Act (Turn N.Call) ∷ sign S.Open ∷ Sub R.Args ∷ sign S.Close ∷ Act End ∷ []) ∷ [] ∷ []
choices R.Args = (Sub R.Expr ∷ Act Into ∷ Sub R.MoreArgs ∷ []) ∷ [] ∷ []
choices R.MoreArgs = (sign S.Comma ∷ Sub R.Expr ∷ Act Into ∷ Sub R.MoreArgs ∷ []) ∷ [] ∷ []
choices R.Post =
    (sign S.Dot ∷ Mark C.Name (Over N.Dot) ∷ Sub R.Dotted ∷ Sub R.Post ∷ [])
    ∷ (Act (Wrap N.Index) ∷ sign S.OpenBracket ∷ Sub R.Expr ∷ Act Into ∷ sign S.CloseBracket ∷ Act End ∷ Sub R.Post ∷ [])
    ∷ [] ∷ []
choices R.Dotted = (Act (Turn N.DotCall) ∷ sign S.Open ∷ Sub R.Args ∷ sign S.Close ∷ Act End ∷ []) ∷ (Act End ∷ []) ∷ []
choices R.NewBase =
    (Mark (C.NameBut W.Memory) (Push N.Plain) ∷ Sub R.NewRest ∷ [])
    ∷ (Mark (C.Word W.Memory) (Push N.Plain) ∷ Sub R.NewMemory ∷ [])
    ∷ (Mark C.TypeWord (Push N.Plain) ∷ Act Into ∷ Act (Turn N.NewArray) ∷ Sub R.Sizes ∷ Act End ∷ Sub R.FreshTail ∷ []) ∷ []
choices R.NewMemory =
    (sign S.Less ∷ word W.DFEVar ∷ sign S.Greater ∷ Act End ∷ Act Into ∷ Act (Turn N.NewArray) ∷ Sub R.Sizes ∷ Act End ∷ Sub R.FreshTail ∷ [])
    ∷ (Sub R.NewRest ∷ []) ∷ []
choices R.NewRest =
    (Act Named ∷ sign S.Open ∷ Sub R.Args ∷ sign S.Close ∷ Act End ∷ Sub R.Post ∷ [])
    ∷ (Act Into ∷ Act (Turn N.NewArray) ∷ Sub R.Sizes ∷ Act End ∷ Sub R.FreshTail ∷ []) ∷ []
choices R.FreshTail = (sign S.Dot ∷ Mark C.Name (Over N.Dot) ∷ Sub R.Dotted ∷ Sub R.Post ∷ []) ∷ [] ∷ []
choices R.Sizes = (sign S.OpenBracket ∷ Sub R.Expr ∷ Act Into ∷ sign S.CloseBracket ∷ Sub R.MoreSizes ∷ []) ∷ []
choices R.MoreSizes = (Sub R.Sizes ∷ []) ∷ [] ∷ []
choices R.Simple = (Mark C.Name (Push N.Name) ∷ Sub R.NameRest ∷ []) ∷ (Sub R.Other ∷ []) ∷ []
choices R.NameRest = (Act (Turn N.Call) ∷ sign S.Open ∷ Sub R.Args ∷ sign S.Close ∷ Act End ∷ Sub (R.Rest Form.Call) ∷ []) ∷ (Sub (R.Rest Form.Place) ∷ []) ∷ []
choices R.Other =
    (Mark (C.Operator Level.Prefixes) (Push N.Prefix) ∷ Sub (R.Operand Level.Prefixes) ∷ Act Into ∷ Act End ∷ onward)
    ∷ (Mark C.Literal Leaf ∷ Sub (R.Rest Form.Free) ∷ [])
    ∷ (Mark C.ValueWord (Push N.Name) ∷ Sub (R.Rest Form.Free) ∷ [])
    ∷ (Act (Begin N.Empty) ∷ sign S.Open ∷ Sub R.Expr ∷ sign S.Close ∷ Act Inner ∷ Sub (R.Rest Form.Free) ∷ [])
    ∷ (Act (Begin N.New) ∷ word W.New ∷ Sub R.NewStmt ∷ []) ∷ []
choices R.NewStmt =
    (Mark (C.NameBut W.Memory) (Push N.Plain) ∷ Sub R.NewStmtRest ∷ [])
    ∷ (Mark (C.Word W.Memory) (Push N.Plain) ∷ Sub R.NewStmtMemory ∷ [])
    ∷ (Mark C.TypeWord (Push N.Plain) ∷ Act Into ∷ Act (Turn N.NewArray) ∷ Sub R.Sizes ∷ Act End ∷ Sub (R.Rest Form.Fresh) ∷ []) ∷ []
choices R.NewStmtMemory =
    (sign S.Less ∷ word W.DFEVar ∷ sign S.Greater ∷ Act End ∷ Act Into ∷ Act (Turn N.NewArray) ∷ Sub R.Sizes ∷ Act End ∷ Sub (R.Rest Form.Fresh) ∷ [])
    ∷ (Sub R.NewStmtRest ∷ []) ∷ []
choices R.NewStmtRest =
    (Act Named ∷ sign S.Open ∷ Sub R.Args ∷ sign S.Close ∷ Act End ∷ Sub (R.Rest Form.Call) ∷ [])
    ∷ (Act Into ∷ Act (Turn N.NewArray) ∷ Sub R.Sizes ∷ Act End ∷ Sub (R.Rest Form.Fresh) ∷ []) ∷ []
choices (R.Rest Form.Place) =
    (Act (Wrap N.Index) ∷ sign S.OpenBracket ∷ Sub R.Expr ∷ Act Into ∷ sign S.CloseBracket ∷ Act End ∷ Sub (R.Rest Form.Place) ∷ [])
    ∷ (Sub R.Bare ∷ []) ∷ []
choices (R.Rest Form.Call) =
    (Act (Wrap N.Index) ∷ sign S.OpenBracket ∷ Sub R.Expr ∷ Act Into ∷ sign S.CloseBracket ∷ Act End ∷ Sub (R.Rest Form.Free) ∷ [])
    ∷ (sign S.Dot ∷ Mark C.Name (Over N.Dot) ∷ Sub R.DottedRest ∷ [])
    ∷ onward
    ∷ (Act (Wrap N.Run) ∷ Act End ∷ []) ∷ []
choices (R.Rest Form.Free) =
    (Act (Wrap N.Index) ∷ sign S.OpenBracket ∷ Sub R.Expr ∷ Act Into ∷ sign S.CloseBracket ∷ Act End ∷ Sub (R.Rest Form.Free) ∷ [])
    ∷ (sign S.Dot ∷ Mark C.Name (Over N.Dot) ∷ Sub R.DottedRest ∷ [])
    ∷ onward ∷ []
choices (R.Rest Form.Fresh) = (sign S.Dot ∷ Mark C.Name (Over N.Dot) ∷ Sub R.DottedRest ∷ []) ∷ onward ∷ []
choices R.Bare =
    (Mark C.Assigning (Over N.Set) ∷ Sub R.Expr ∷ Act Into ∷ Act End ∷ [])
    ∷ (Mark C.Counting (Over N.Set) ∷ Act End ∷ [])
    ∷ (sign S.Dot ∷ Mark C.Name (Over N.Dot) ∷ Sub R.DottedRest ∷ [])
    ∷ onward ∷ []
choices R.DottedRest =
    (Act (Turn N.DotCall) ∷ sign S.Open ∷ Sub R.Args ∷ sign S.Close ∷ Act End ∷ Sub (R.Rest Form.Call) ∷ [])
    ∷ (Act End ∷ Sub (R.Rest Form.Free) ∷ []) ∷ []
choices R.Init = (Sub R.Expr ∷ []) ∷ (Act (Begin N.Braces) ∷ sign S.OpenBrace ∷ Sub R.Inits ∷ sign S.CloseBrace ∷ Act End ∷ []) ∷ []
choices R.Inits = (Sub R.Init ∷ Act Into ∷ Sub R.MoreInits ∷ []) ∷ [] ∷ []
choices R.MoreInits = (sign S.Comma ∷ Sub R.Init ∷ Act Into ∷ Sub R.MoreInits ∷ []) ∷ [] ∷ []
choices R.Block = (Act (Begin N.Block) ∷ sign S.OpenBrace ∷ Sub R.Stmts ∷ sign S.CloseBrace ∷ Act End ∷ []) ∷ []
choices R.Stmts = (Sub R.Stmt ∷ Act Into ∷ Sub R.Stmts ∷ []) ∷ [] ∷ []
choices R.Stmt =
    (Sub R.Block ∷ [])
    ∷ (Act (Begin N.Local) ∷ word W.Final ∷ Sub R.TypeName ∷ Act Into ∷ Mark C.Name Text ∷ Sub (R.Declared Site.Alone) ∷ [])
    ∷ (Mark C.TypeWord (Push N.Plain) ∷ Sub R.Dims ∷ Mark C.Name (Over N.Local) ∷ Sub (R.Declared Site.Alone) ∷ [])
    ∷ (Mark (C.NameBut W.Memory) (Push N.Name) ∷ Sub (R.NameThen Site.Alone) ∷ [])
    ∷ (Mark (C.Word W.Memory) (Push N.Name) ∷ Sub (R.MemoryThen Site.Alone) ∷ [])
    ∷ (Act (Begin N.Return) ∷ word W.Return ∷ Sub R.ReturnRest ∷ [])
    ∷ (Act (Begin N.If) ∷ word W.If ∷ sign S.Open ∷ Sub R.Expr ∷ Act Into ∷ sign S.Close ∷ Sub R.Body ∷ Act Into ∷ Sub R.ElseTail ∷ Act End ∷ [])
    ∷ (Act (Begin N.While) ∷ word W.While ∷ sign S.Open ∷ Sub R.Expr ∷ Act Into ∷ sign S.Close ∷ Sub R.Body ∷ Act Into ∷ Act End ∷ [])
    ∷ (Act (Begin N.For) ∷ word W.For ∷ sign S.Open ∷ Sub R.First ∷ Act Into ∷ sign S.Semicolon
    ∷ Sub R.Test ∷ Act Into ∷ sign S.Semicolon ∷ Sub R.Step ∷ Act Into ∷ sign S.Close
    ∷ Sub R.Body ∷ Act Into ∷ Act End ∷ [])
    ∷ (Act (Begin N.Empty) ∷ sign S.Semicolon ∷ Act End ∷ [])
    ∷ (Sub R.Other ∷ sign S.Semicolon ∷ []) ∷ []
choices (R.NameThen Site.Alone) =
    (Act (Turn N.Plain) ∷ Mark C.Name (Over N.Local) ∷ Sub (R.Declared Site.Alone) ∷ [])
    ∷ (sign S.OpenBracket ∷ Sub (R.BracketThen Site.Alone) ∷ [])
    ∷ (Act (Turn N.Call) ∷ sign S.Open ∷ Sub R.Args ∷ sign S.Close ∷ Act End ∷ Sub (R.Rest Form.Call) ∷ sign S.Semicolon ∷ [])
    ∷ (Sub R.Bare ∷ sign S.Semicolon ∷ []) ∷ []
choices (R.NameThen Site.Loop) =
    (Act (Turn N.Plain) ∷ Mark C.Name (Over N.Local) ∷ Sub (R.Declared Site.Loop) ∷ [])
    ∷ (sign S.OpenBracket ∷ Sub (R.BracketThen Site.Loop) ∷ [])
    ∷ (Act (Turn N.Call) ∷ sign S.Open ∷ Sub R.Args ∷ sign S.Close ∷ Act End ∷ Sub (R.Rest Form.Call) ∷ [])
    ∷ (Sub R.Bare ∷ []) ∷ []
choices (R.BracketThen Site.Alone) =
    (Act (Turn N.Plain) ∷ Act (Wrap N.ArrayOf) ∷ sign S.CloseBracket ∷ Act End ∷ Sub R.Dims ∷ Mark C.Name (Over N.Local) ∷ Sub (R.Declared Site.Alone) ∷ [])
    ∷ (Act (Wrap N.Index) ∷ Sub R.Expr ∷ Act Into ∷ sign S.CloseBracket ∷ Act End ∷ Sub (R.Rest Form.Place) ∷ sign S.Semicolon ∷ []) ∷ []
choices (R.BracketThen Site.Loop) =
    (Act (Turn N.Plain) ∷ Act (Wrap N.ArrayOf) ∷ sign S.CloseBracket ∷ Act End ∷ Sub R.Dims ∷ Mark C.Name (Over N.Local) ∷ Sub (R.Declared Site.Loop) ∷ [])
    ∷ (Act (Wrap N.Index) ∷ Sub R.Expr ∷ Act Into ∷ sign S.CloseBracket ∷ Act End ∷ Sub (R.Rest Form.Place) ∷ []) ∷ []
choices (R.Declared Site.Alone) = (sign S.Semicolon ∷ Act End ∷ []) ∷ (sign S.Assign ∷ Sub R.Init ∷ Act Into ∷ sign S.Semicolon ∷ Act End ∷ []) ∷ []
choices (R.Declared Site.Loop) = (sign S.Assign ∷ Sub R.Expr ∷ Act Into ∷ Act End ∷ []) ∷ []
choices R.ReturnRest = (sign S.Semicolon ∷ Act End ∷ []) ∷ (Sub R.Expr ∷ Act Into ∷ sign S.Semicolon ∷ Act End ∷ []) ∷ []
choices R.ElseTail = (word W.Else ∷ Sub R.ElseRest ∷ []) ∷ [] ∷ []
choices R.ElseRest =
    (word W.If ∷ sign S.Open ∷ Sub R.Expr ∷ Act Into ∷ sign S.Close ∷ Sub R.Body ∷ Act Into ∷ Sub R.ElseTail ∷ [])
    ∷ (Sub R.Body ∷ Act Into ∷ []) ∷ []
choices R.Body = (Sub R.Block ∷ []) ∷ (Act (Begin N.Return) ∷ word W.Return ∷ Sub R.ReturnRest ∷ []) ∷ (Sub R.Simple ∷ sign S.Semicolon ∷ []) ∷ []
choices R.First =
    (Mark C.TypeWord (Push N.Plain) ∷ Sub R.Dims ∷ Mark C.Name (Over N.Local) ∷ Sub (R.Declared Site.Loop) ∷ [])
    ∷ (Mark (C.NameBut W.Memory) (Push N.Name) ∷ Sub (R.NameThen Site.Loop) ∷ [])
    ∷ (Mark (C.Word W.Memory) (Push N.Name) ∷ Sub (R.MemoryThen Site.Loop) ∷ [])
    ∷ (Sub R.Other ∷ [])
    ∷ (Act Hole ∷ []) ∷ []
choices R.Test = (Sub R.Expr ∷ []) ∷ (Act Hole ∷ []) ∷ []
choices R.Step = (Sub R.Simple ∷ []) ∷ (Act Hole ∷ []) ∷ []
choices (R.MemoryThen Site.Alone) =
    (Act (Turn N.Plain) ∷ Mark C.Name (Over N.Local) ∷ Sub (R.Declared Site.Alone) ∷ [])
    ∷ (sign S.OpenBracket ∷ Sub (R.BracketThen Site.Alone) ∷ [])
    ∷ (Act (Turn N.Call) ∷ sign S.Open ∷ Sub R.Args ∷ sign S.Close ∷ Act End ∷ Sub (R.Rest Form.Call) ∷ sign S.Semicolon ∷ [])
    ∷ (Mark (C.Sign S.Less) (Over N.Binary) ∷ Sub (R.LessThen Site.Alone) ∷ [])
    ∷ (Sub R.MemoryBare ∷ sign S.Semicolon ∷ []) ∷ []
choices (R.MemoryThen Site.Loop) =
    (Act (Turn N.Plain) ∷ Mark C.Name (Over N.Local) ∷ Sub (R.Declared Site.Loop) ∷ [])
    ∷ (sign S.OpenBracket ∷ Sub (R.BracketThen Site.Loop) ∷ [])
    ∷ (Act (Turn N.Call) ∷ sign S.Open ∷ Sub R.Args ∷ sign S.Close ∷ Act End ∷ Sub (R.Rest Form.Call) ∷ [])
    ∷ (Mark (C.Sign S.Less) (Over N.Binary) ∷ Sub (R.LessThen Site.Loop) ∷ [])
    ∷ (Sub R.MemoryBare ∷ []) ∷ []
choices (R.LessThen Site.Alone) =
    (Mark (C.Word W.DFEVar) (Push N.Name) ∷ Sub (R.DFEVarThen Site.Alone) ∷ [])
    ∷ (Sub R.OtherOperand ∷ Sub (R.Tail Level.Products) ∷ Sub (R.Tail Level.Sums) ∷ Sub (R.Tail Level.Shifts) ∷ ordered ++ close Site.Alone) ∷ []
choices (R.LessThen Site.Loop) =
    (Mark (C.Word W.DFEVar) (Push N.Name) ∷ Sub (R.DFEVarThen Site.Loop) ∷ [])
    ∷ (Sub R.OtherOperand ∷ Sub (R.Tail Level.Products) ∷ Sub (R.Tail Level.Sums) ∷ Sub (R.Tail Level.Shifts) ∷ ordered) ∷ []
choices (R.DFEVarThen Site.Alone) =
    (Act Into ∷ Act End ∷ Mark (C.Sign S.Greater) (Over N.Binary) ∷ Sub (R.GreaterThen Site.Alone) ∷ [])
    ∷ (Sub R.Further ∷ Sub (R.Tail Level.Products) ∷ Sub (R.Tail Level.Sums) ∷ Sub (R.Tail Level.Shifts) ∷ ordered ++ close Site.Alone)
    ∷ (Sub R.Tighter ∷ ordered ++ close Site.Alone)
    ∷ (Act Into ∷ Act End ∷ Mark (C.OrderBut S.Greater) (Over N.Binary) ∷ Sub (R.Operand Level.Shifts) ∷ ordered ++ close Site.Alone)
    ∷ (Act Into ∷ Act End ∷ looser ++ close Site.Alone) ∷ []
choices (R.DFEVarThen Site.Loop) =
    (Act Into ∷ Act End ∷ Mark (C.Sign S.Greater) (Over N.Binary) ∷ Sub (R.GreaterThen Site.Loop) ∷ [])
    ∷ (Sub R.Further ∷ Sub (R.Tail Level.Products) ∷ Sub (R.Tail Level.Sums) ∷ Sub (R.Tail Level.Shifts) ∷ ordered)
    ∷ (Sub R.Tighter ∷ ordered)
    ∷ (Act Into ∷ Act End ∷ Mark (C.OrderBut S.Greater) (Over N.Binary) ∷ Sub (R.Operand Level.Shifts) ∷ ordered)
    ∷ (Act Into ∷ Act End ∷ looser) ∷ []
choices (R.GreaterThen Site.Alone) =
    (Mark C.Name (Push N.Name) ∷ Sub (R.MemoryName Site.Alone) ∷ [])
    ∷ (Act Memory ∷ Act (Wrap N.ArrayOf) ∷ sign S.OpenBracket ∷ sign S.CloseBracket ∷ Act End
    ∷ Sub R.Dims ∷ Mark C.Name (Over N.Local) ∷ Sub (R.Declared Site.Alone) ∷ [])
    ∷ (Sub R.NamelessOperand ∷ Sub (R.Tail Level.Products) ∷ Sub (R.Tail Level.Sums) ∷ Sub (R.Tail Level.Shifts) ∷ ordered ++ close Site.Alone) ∷ []
choices (R.GreaterThen Site.Loop) =
    (Mark C.Name (Push N.Name) ∷ Sub (R.MemoryName Site.Loop) ∷ [])
    ∷ (Act Memory ∷ Act (Wrap N.ArrayOf) ∷ sign S.OpenBracket ∷ sign S.CloseBracket ∷ Act End
    ∷ Sub R.Dims ∷ Mark C.Name (Over N.Local) ∷ Sub (R.Declared Site.Loop) ∷ [])
    ∷ (Sub R.NamelessOperand ∷ Sub (R.Tail Level.Products) ∷ Sub (R.Tail Level.Sums) ∷ Sub (R.Tail Level.Shifts) ∷ ordered) ∷ []
choices (R.MemoryName Site.Alone) =
    (Act Declare ∷ Sub (R.Declared Site.Alone) ∷ [])
    ∷ (Sub R.Called ∷ Sub R.Post ∷ Sub (R.Tail Level.Products) ∷ Sub (R.Tail Level.Sums) ∷ Sub (R.Tail Level.Shifts) ∷ ordered ++ close Site.Alone) ∷ []
choices (R.MemoryName Site.Loop) =
    (Act Declare ∷ Sub (R.Declared Site.Loop) ∷ [])
    ∷ (Sub R.Called ∷ Sub R.Post ∷ Sub (R.Tail Level.Products) ∷ Sub (R.Tail Level.Sums) ∷ Sub (R.Tail Level.Shifts) ∷ ordered) ∷ []
choices R.MemoryBare =
    (Mark C.Assigning (Over N.Set) ∷ Sub R.Expr ∷ Act Into ∷ Act End ∷ [])
    ∷ (Mark C.Counting (Over N.Set) ∷ Act End ∷ [])
    ∷ (sign S.Dot ∷ Mark C.Name (Over N.Dot) ∷ Sub R.DottedRest ∷ [])
    ∷ (Sub R.Tighter ∷ Sub (R.Tail Level.Orders) ∷ looser)
    ∷ (Mark (C.OrderBut S.Less) (Over N.Binary) ∷ Sub (R.Operand Level.Shifts) ∷ ordered)
    ∷ (looser) ∷ []
choices R.OtherOperand = (Mark (C.NameBut W.DFEVar) (Push N.Name) ∷ Sub R.Called ∷ Sub R.Post ∷ []) ∷ (Sub R.NamelessOperand ∷ []) ∷ []
choices R.NamelessOperand =
    (Mark (C.Operator Level.Prefixes) (Push N.Prefix) ∷ Sub (R.Operand Level.Prefixes) ∷ Act Into ∷ Act End ∷ [])
    ∷ (Mark C.Literal Leaf ∷ Sub R.Post ∷ [])
    ∷ (Mark C.ValueWord (Push N.Name) ∷ Sub R.Post ∷ [])
    ∷ (Act (Begin N.Empty) ∷ sign S.Open ∷ Sub R.Expr ∷ sign S.Close ∷ Act Inner ∷ Sub R.Post ∷ [])
    ∷ (Act (Begin N.New) ∷ word W.New ∷ Sub R.NewBase ∷ []) ∷ []
choices R.Further =
    (Act (Turn N.Call) ∷ sign S.Open ∷ Sub R.Args ∷ sign S.Close ∷ Act End ∷ Sub R.Post ∷ [])
    ∷ (sign S.Dot ∷ Mark C.Name (Over N.Dot) ∷ Sub R.Dotted ∷ Sub R.Post ∷ [])
    ∷ (Act (Wrap N.Index) ∷ sign S.OpenBracket ∷ Sub R.Expr ∷ Act Into ∷ sign S.CloseBracket ∷ Act End ∷ Sub R.Post ∷ []) ∷ []
choices R.Tighter =
    (Mark (C.Operator Level.Products) (Over N.Binary) ∷ Sub (R.Operand Level.Prefixes)
    ∷ Act Into ∷ Act End ∷ Sub (R.Tail Level.Products) ∷ Sub (R.Tail Level.Sums)
    ∷ Sub (R.Tail Level.Shifts) ∷ [])
    ∷ (Mark (C.Operator Level.Sums) (Over N.Binary) ∷ Sub (R.Operand Level.Products) ∷ Act Into
    ∷ Act End ∷ Sub (R.Tail Level.Sums) ∷ Sub (R.Tail Level.Shifts) ∷ [])
    ∷ (Mark (C.Operator Level.Shifts) (Over N.Binary) ∷ Sub (R.Operand Level.Sums) ∷ Act Into ∷ Act End ∷ Sub (R.Tail Level.Shifts) ∷ []) ∷ []

-- the classes of tokens with which each of them is taken; none says that it is taken otherwise
abbrev pub guards : Rule → List (List TokenClass)
guards R.File = [] ∷ []
guards R.Package = (C.Word W.Package ∷ []) ∷ [] ∷ []
guards R.Path = [] ∷ []
guards R.MorePath = (C.Sign S.Dot ∷ []) ∷ [] ∷ []
guards R.Imports = (C.Word W.Import ∷ []) ∷ [] ∷ []
guards R.MaybeStatic = (C.Word W.Static ∷ []) ∷ [] ∷ []
guards R.ImportMore = (C.Sign S.Dot ∷ []) ∷ [] ∷ []
guards R.ImportDot = (C.Name ∷ []) ∷ [] ∷ []
guards R.Classes = (C.Modifier ∷ C.Word W.Class ∷ []) ∷ [] ∷ []
guards R.Class = [] ∷ []
guards R.Mods = (C.Modifier ∷ []) ∷ [] ∷ []
guards R.Declares = (C.Sign S.Semicolon ∷ []) ∷ (C.Sign S.Assign ∷ []) ∷ [] ∷ []
guards R.MethodRest = [] ∷ []
guards R.Params = (C.Word W.Final ∷ C.Name ∷ C.TypeWord ∷ []) ∷ [] ∷ []
guards R.MoreParams = (C.Sign S.Comma ∷ []) ∷ [] ∷ []
guards R.Param = [] ∷ []
guards R.MaybeFinal = (C.Word W.Final ∷ []) ∷ [] ∷ []
guards (R.Opening ClassKind.Kernel) = [] ∷ []
guards (R.Opening ClassKind.Manager) = [] ∷ []
guards (R.Opened ClassKind.Kernel) = [] ∷ []
guards (R.Opened ClassKind.Manager) = [] ∷ []
guards R.SuperRest = [] ∷ []
guards R.TypeName = (C.NameBut W.Memory ∷ []) ∷ (C.Word W.Memory ∷ []) ∷ [] ∷ []
guards R.MemoryType = (C.Sign S.Less ∷ []) ∷ [] ∷ []
guards R.Dims = (C.Sign S.OpenBracket ∷ []) ∷ [] ∷ []
guards R.Expr = [] ∷ []
guards R.CondTail = (C.Sign S.Question ∷ []) ∷ [] ∷ []
guards (R.Operand Level.Prefixes) = (C.Operator Level.Prefixes ∷ []) ∷ [] ∷ []
guards (R.Operand Level.Products) = [] ∷ []
guards (R.Operand Level.Sums) = [] ∷ []
guards (R.Operand Level.Shifts) = [] ∷ []
guards (R.Operand Level.Orders) = [] ∷ []
guards (R.Operand Level.Equalities) = [] ∷ []
guards (R.Operand Level.BitAnds) = [] ∷ []
guards (R.Operand Level.BitXors) = [] ∷ []
guards (R.Operand Level.BitOrs) = [] ∷ []
guards (R.Operand Level.Ands) = [] ∷ []
guards (R.Operand Level.Ors) = [] ∷ []
guards (R.Tail Level.Prefixes) = [] ∷ []
guards (R.Tail Level.Products) = (C.Operator Level.Products ∷ []) ∷ [] ∷ []
guards (R.Tail Level.Sums) = (C.Operator Level.Sums ∷ []) ∷ [] ∷ []
guards (R.Tail Level.Shifts) = (C.Operator Level.Shifts ∷ []) ∷ [] ∷ []
guards (R.Tail Level.Orders) = (C.Operator Level.Orders ∷ []) ∷ [] ∷ []
guards (R.Tail Level.Equalities) = (C.Operator Level.Equalities ∷ []) ∷ [] ∷ []
guards (R.Tail Level.BitAnds) = (C.Operator Level.BitAnds ∷ []) ∷ [] ∷ []
guards (R.Tail Level.BitXors) = (C.Operator Level.BitXors ∷ []) ∷ [] ∷ []
guards (R.Tail Level.BitOrs) = (C.Operator Level.BitOrs ∷ []) ∷ [] ∷ []
guards (R.Tail Level.Ands) = (C.Operator Level.Ands ∷ []) ∷ [] ∷ []
guards (R.Tail Level.Ors) = (C.Operator Level.Ors ∷ []) ∷ [] ∷ []
guards R.Postfix = (C.Literal ∷ []) ∷ (C.ValueWord ∷ []) ∷ (C.Name ∷ []) ∷ (C.Sign S.Open ∷ []) ∷ [] ∷ []
guards R.Called = (C.Sign S.Open ∷ []) ∷ [] ∷ []
guards R.Args = (C.Operator Level.Prefixes ∷ C.Literal ∷ C.ValueWord ∷ C.Name ∷ C.Sign S.Open ∷ C.Word W.New ∷ []) ∷ [] ∷ []
guards R.MoreArgs = (C.Sign S.Comma ∷ []) ∷ [] ∷ []
guards R.Post = (C.Sign S.Dot ∷ []) ∷ (C.Sign S.OpenBracket ∷ []) ∷ [] ∷ []
guards R.Dotted = (C.Sign S.Open ∷ []) ∷ [] ∷ []
guards R.NewBase = (C.NameBut W.Memory ∷ []) ∷ (C.Word W.Memory ∷ []) ∷ [] ∷ []
guards R.NewMemory = (C.Sign S.Less ∷ []) ∷ [] ∷ []
guards R.NewRest = (C.Sign S.Open ∷ []) ∷ [] ∷ []
guards R.FreshTail = (C.Sign S.Dot ∷ []) ∷ [] ∷ []
guards R.Sizes = [] ∷ []
guards R.MoreSizes = (C.Sign S.OpenBracket ∷ []) ∷ [] ∷ []
guards R.Simple = (C.Name ∷ []) ∷ [] ∷ []
guards R.NameRest = (C.Sign S.Open ∷ []) ∷ [] ∷ []
guards R.Other = (C.Operator Level.Prefixes ∷ []) ∷ (C.Literal ∷ []) ∷ (C.ValueWord ∷ []) ∷ (C.Sign S.Open ∷ []) ∷ [] ∷ []
guards R.NewStmt = (C.NameBut W.Memory ∷ []) ∷ (C.Word W.Memory ∷ []) ∷ [] ∷ []
guards R.NewStmtMemory = (C.Sign S.Less ∷ []) ∷ [] ∷ []
guards R.NewStmtRest = (C.Sign S.Open ∷ []) ∷ [] ∷ []
guards (R.Rest Form.Place) = (C.Sign S.OpenBracket ∷ []) ∷ [] ∷ []
guards (R.Rest Form.Call) =
    (C.Sign S.OpenBracket ∷ []) ∷ (C.Sign S.Dot ∷ []) ∷ (C.Operator Level.Products ∷ C.Operator Level.Sums ∷ C.Operator Level.Shifts
    ∷ C.Operator Level.Orders ∷ C.Operator Level.Equalities ∷ C.Operator Level.BitAnds ∷ C.Operator Level.BitXors ∷ C.Operator Level.BitOrs
    ∷ C.Operator Level.Ands ∷ C.Operator Level.Ors ∷ C.Sign S.Question ∷ C.Sign S.Connect ∷ []) ∷ [] ∷ []
guards (R.Rest Form.Free) = (C.Sign S.OpenBracket ∷ []) ∷ (C.Sign S.Dot ∷ []) ∷ [] ∷ []
guards (R.Rest Form.Fresh) = (C.Sign S.Dot ∷ []) ∷ [] ∷ []
guards R.Bare = (C.Assigning ∷ []) ∷ (C.Counting ∷ []) ∷ (C.Sign S.Dot ∷ []) ∷ [] ∷ []
guards R.DottedRest = (C.Sign S.Open ∷ []) ∷ [] ∷ []
guards R.Init = (C.Operator Level.Prefixes ∷ C.Literal ∷ C.ValueWord ∷ C.Name ∷ C.Sign S.Open ∷ C.Word W.New ∷ []) ∷ [] ∷ []
guards R.Inits = (C.Sign S.OpenBrace ∷ C.Operator Level.Prefixes ∷ C.Literal ∷ C.ValueWord ∷ C.Name ∷ C.Sign S.Open ∷ C.Word W.New ∷ []) ∷ [] ∷ []
guards R.MoreInits = (C.Sign S.Comma ∷ []) ∷ [] ∷ []
guards R.Block = [] ∷ []
guards R.Stmts =
    (C.Sign S.OpenBrace ∷ C.Word W.Final ∷ C.TypeWord ∷ C.Name ∷ C.Word W.Return ∷ C.Word W.If ∷ C.Word W.While ∷ C.Word W.For ∷ C.Sign S.Semicolon
    ∷ C.Operator Level.Prefixes ∷ C.Literal ∷ C.ValueWord ∷ C.Sign S.Open ∷ C.Word W.New ∷ []) ∷ [] ∷ []
guards R.Stmt =
    (C.Sign S.OpenBrace ∷ []) ∷ (C.Word W.Final ∷ []) ∷ (C.TypeWord ∷ []) ∷ (C.NameBut W.Memory ∷ []) ∷ (C.Word W.Memory ∷ []) ∷ (C.Word W.Return ∷ [])
    ∷ (C.Word W.If ∷ []) ∷ (C.Word W.While ∷ []) ∷ (C.Word W.For ∷ []) ∷ (C.Sign S.Semicolon ∷ []) ∷ [] ∷ []
guards (R.NameThen Site.Alone) = (C.Name ∷ []) ∷ (C.Sign S.OpenBracket ∷ []) ∷ (C.Sign S.Open ∷ []) ∷ [] ∷ []
guards (R.NameThen Site.Loop) = (C.Name ∷ []) ∷ (C.Sign S.OpenBracket ∷ []) ∷ (C.Sign S.Open ∷ []) ∷ [] ∷ []
guards (R.BracketThen Site.Alone) = (C.Sign S.CloseBracket ∷ []) ∷ [] ∷ []
guards (R.BracketThen Site.Loop) = (C.Sign S.CloseBracket ∷ []) ∷ [] ∷ []
guards (R.Declared Site.Alone) = (C.Sign S.Semicolon ∷ []) ∷ [] ∷ []
guards (R.Declared Site.Loop) = [] ∷ []
guards R.ReturnRest = (C.Sign S.Semicolon ∷ []) ∷ [] ∷ []
guards R.ElseTail = (C.Word W.Else ∷ []) ∷ [] ∷ []
guards R.ElseRest = (C.Word W.If ∷ []) ∷ [] ∷ []
guards R.Body = (C.Sign S.OpenBrace ∷ []) ∷ (C.Word W.Return ∷ []) ∷ [] ∷ []
guards R.First =
    (C.TypeWord ∷ []) ∷ (C.NameBut W.Memory ∷ []) ∷ (C.Word W.Memory ∷ []) ∷ (C.Operator Level.Prefixes ∷ C.Literal ∷ C.ValueWord ∷ C.Sign S.Open
    ∷ C.Word W.New ∷ []) ∷ [] ∷ []
guards R.Test = (C.Operator Level.Prefixes ∷ C.Literal ∷ C.ValueWord ∷ C.Name ∷ C.Sign S.Open ∷ C.Word W.New ∷ []) ∷ [] ∷ []
guards R.Step = (C.Name ∷ C.Operator Level.Prefixes ∷ C.Literal ∷ C.ValueWord ∷ C.Sign S.Open ∷ C.Word W.New ∷ []) ∷ [] ∷ []
guards (R.MemoryThen Site.Alone) = (C.Name ∷ []) ∷ (C.Sign S.OpenBracket ∷ []) ∷ (C.Sign S.Open ∷ []) ∷ (C.Sign S.Less ∷ []) ∷ [] ∷ []
guards (R.MemoryThen Site.Loop) = (C.Name ∷ []) ∷ (C.Sign S.OpenBracket ∷ []) ∷ (C.Sign S.Open ∷ []) ∷ (C.Sign S.Less ∷ []) ∷ [] ∷ []
guards (R.LessThen Site.Alone) = (C.Word W.DFEVar ∷ []) ∷ [] ∷ []
guards (R.LessThen Site.Loop) = (C.Word W.DFEVar ∷ []) ∷ [] ∷ []
guards (R.DFEVarThen Site.Alone) =
    (C.Sign S.Greater ∷ []) ∷ (C.Sign S.Open ∷ C.Sign S.Dot ∷ C.Sign S.OpenBracket ∷ []) ∷ (C.Operator Level.Products ∷ C.Operator Level.Sums
    ∷ C.Operator Level.Shifts ∷ []) ∷ (C.OrderBut S.Greater ∷ []) ∷ [] ∷ []
guards (R.DFEVarThen Site.Loop) =
    (C.Sign S.Greater ∷ []) ∷ (C.Sign S.Open ∷ C.Sign S.Dot ∷ C.Sign S.OpenBracket ∷ []) ∷ (C.Operator Level.Products ∷ C.Operator Level.Sums
    ∷ C.Operator Level.Shifts ∷ []) ∷ (C.OrderBut S.Greater ∷ []) ∷ [] ∷ []
guards (R.GreaterThen Site.Alone) = (C.Name ∷ []) ∷ (C.Sign S.OpenBracket ∷ []) ∷ [] ∷ []
guards (R.GreaterThen Site.Loop) = (C.Name ∷ []) ∷ (C.Sign S.OpenBracket ∷ []) ∷ [] ∷ []
guards (R.MemoryName Site.Alone) = (C.Sign S.Semicolon ∷ C.Sign S.Assign ∷ []) ∷ [] ∷ []
guards (R.MemoryName Site.Loop) = (C.Sign S.Assign ∷ []) ∷ [] ∷ []
guards R.MemoryBare =
    (C.Assigning ∷ []) ∷ (C.Counting ∷ []) ∷ (C.Sign S.Dot ∷ []) ∷ (C.Operator Level.Products ∷ C.Operator Level.Sums ∷ C.Operator Level.Shifts ∷ [])
    ∷ (C.OrderBut S.Less ∷ []) ∷ [] ∷ []
guards R.OtherOperand = (C.NameBut W.DFEVar ∷ []) ∷ [] ∷ []
guards R.NamelessOperand = (C.Operator Level.Prefixes ∷ []) ∷ (C.Literal ∷ []) ∷ (C.ValueWord ∷ []) ∷ (C.Sign S.Open ∷ []) ∷ [] ∷ []
guards R.Further = (C.Sign S.Open ∷ []) ∷ (C.Sign S.Dot ∷ []) ∷ [] ∷ []
guards R.Tighter = (C.Operator Level.Products ∷ []) ∷ (C.Operator Level.Sums ∷ []) ∷ [] ∷ []
