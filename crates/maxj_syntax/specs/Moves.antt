-- The productions in the form that the parser reads: the next token tells the choice. Between the symbols stand the steps that
-- build the tree, on a stack of trees that aren't whole yet.
use Rattle.std.specs.Prelude.{◌≡◌, ℕ, Bool, true, false, ◌&&◌, List, [], ◌∷◌, ◌++◌, codes}
use Rattle.std.specs.Str.{bytes_eq}
use Rattle.maxj_syntax.specs.declared.level.Level.{Level}
use Rattle.maxj_tokens.specs.declared.sign.Sign.{Sign}
use Rattle.maxj_tokens.specs.declared.sign.Sign.TheVariants as S
use Rattle.maxj_syntax.specs.declared.kind.Word.{Word}
use Rattle.maxj_syntax.specs.declared.kind.Word.TheVariants as W
use Rattle.maxj_syntax.specs.declared.tree.NodeKind.TheVariants as N
use Rattle.maxj_syntax.specs.declared.symbol.TokenClass.TheVariants as C
use Rattle.maxj_syntax.specs.declared.symbol.Effect.TheVariants.{Skip, Leaf, Push, Over, Text}
use Rattle.maxj_syntax.specs.declared.symbol.Action.TheVariants.{Begin, Wrap, Turn, Into, End, Inner, Named, Hole, Memory, Declare, Keep}
use Rattle.maxj_syntax.specs.declared.symbol.Form.{Form}
use Rattle.maxj_syntax.specs.declared.symbol.Site.{Site}
use Rattle.maxj_syntax.specs.declared.symbol.Rule.{Rule}
use Rattle.maxj_syntax.specs.declared.symbol.Rule.TheVariants as R
use Rattle.maxj_syntax.specs.Productions.{Above, is_name}
use Rattle.maxj_syntax.specs.Symbols.{Inside, Symbol, Mark, Name, Sub, Call, Act}
use Rattle.maxj_syntax.specs.Symbols as Y
use Rattle.maxj_syntax.specs.declared.symbol.ClassKind.{ClassKind}

abbrev pub sign : Sign → Symbol
sign s = Mark (C.Sign s) Skip

abbrev pub word : Word → Symbol
word w = Mark (C.Word w) Skip

-- Made by tools/source_grammar.py from tools/source_grammar.txt: the choices as a family.
-- the end of a connection behind its left side
abbrev pub connecting : List Symbol
connecting = Act (Wrap N.Connect) ∷ sign S.Connect ∷ Sub R.Expr ∷ Act Into ∷ Act End ∷ []

-- the tails of the levels above the orders, and the end of a connection
abbrev pub looser : List Symbol
looser =
    Sub (R.Tail Level.Equalities) ∷ Sub (R.Tail Level.BitAnds) ∷ Sub (R.Tail Level.BitXors)
    ∷ Sub (R.Tail Level.BitOrs) ∷ Sub (R.Tail Level.Ands) ∷ Sub (R.Tail Level.Ors)
    ∷ Sub R.CondTail ∷ Act (Wrap N.Connect) ∷ sign S.Connect ∷ Sub R.Expr ∷ Act Into ∷ Act End
    ∷ []

-- the rest of a connection behind the first operand: the tails of all levels, and the right side
abbrev pub onward : List Symbol
onward =
    Sub (R.Tail Level.Products) ∷ Sub (R.Tail Level.Sums) ∷ Sub (R.Tail Level.Shifts)
    ∷ Sub (R.Tail Level.Orders) ∷ Sub (R.Tail Level.Equalities) ∷ Sub (R.Tail Level.BitAnds)
    ∷ Sub (R.Tail Level.BitXors) ∷ Sub (R.Tail Level.BitOrs) ∷ Sub (R.Tail Level.Ands)
    ∷ Sub (R.Tail Level.Ors) ∷ Sub R.CondTail ∷ Act (Wrap N.Connect) ∷ sign S.Connect
    ∷ Sub R.Expr ∷ Act Into ∷ Act End ∷ []

-- behind the right operand of an order at the begin of a connection
abbrev pub ordered : List Symbol
ordered =
    Act Into ∷ Act End ∷ Sub (R.Tail Level.Orders) ∷ Sub (R.Tail Level.Equalities)
    ∷ Sub (R.Tail Level.BitAnds) ∷ Sub (R.Tail Level.BitXors) ∷ Sub (R.Tail Level.BitOrs)
    ∷ Sub (R.Tail Level.Ands) ∷ Sub (R.Tail Level.Ors) ∷ Sub R.CondTail ∷ Act (Wrap N.Connect)
    ∷ sign S.Connect ∷ Sub R.Expr ∷ Act Into ∷ Act End ∷ []

-- the end of a statement that stands by itself; in the head of a `for` there is none
abbrev pub close : Site → List Symbol
close Site.Alone = sign S.Semicolon ∷ []
close Site.Loop = []

pub data Move : Rule → List Symbol → Type 0 where
  -- files and classes
  file : Move R.File (Sub R.Package ∷ Sub R.Imports ∷ Sub R.Class ∷ Sub R.Classes ∷ [])
  package_line : Move R.Package (word W.Package ∷ Sub R.Path ∷ sign S.Semicolon ∷ [])
  no_package : Move R.Package []
  path : Move R.Path (Mark C.Name Skip ∷ Sub R.MorePath ∷ [])
  more_path : Move R.MorePath (sign S.Dot ∷ Mark C.Name Skip ∷ Sub R.MorePath ∷ [])
  no_more_path : Move R.MorePath []
  imports : Move R.Imports (word W.Import ∷ Sub R.MaybeStatic ∷ Mark C.Name Skip ∷ Sub R.ImportMore ∷ sign S.Semicolon ∷ Sub R.Imports ∷ [])
  no_imports : Move R.Imports []
  static : Move R.MaybeStatic (word W.Static ∷ [])
  not_static : Move R.MaybeStatic []
  import_more : Move R.ImportMore (sign S.Dot ∷ Sub R.ImportDot ∷ [])
  no_import_more : Move R.ImportMore []
  import_name : Move R.ImportDot (Mark C.Name Skip ∷ Sub R.ImportMore ∷ [])
  import_all : Move R.ImportDot (sign S.Star ∷ [])
  classes : Move R.Classes (Sub R.Class ∷ Sub R.Classes ∷ [])
  no_classes : Move R.Classes []
  class : Move R.Class (Act (Begin N.Class) ∷ Sub R.Mods ∷ word W.Class ∷ Call Y.ClassName ∷ [])
  mods : Move R.Mods (Mark C.Modifier Skip ∷ Sub R.Mods ∷ [])
  no_mods : Move R.Mods []
  declares_field : Move R.Declares (sign S.Semicolon ∷ Act End ∷ [])
  declares_value : Move R.Declares (sign S.Assign ∷ Sub R.Init ∷ Act Into ∷ sign S.Semicolon ∷ Act End ∷ [])
  declares_method : Move R.Declares (Act (Turn N.Method) ∷ Sub R.MethodRest ∷ [])
  method_rest : Move R.MethodRest (sign S.Open ∷ Sub R.Params ∷ sign S.Close ∷ Sub R.Block ∷ Act Into ∷ Act End ∷ [])
  params : Move R.Params (Sub R.Param ∷ Act Into ∷ Sub R.MoreParams ∷ [])
  no_params : Move R.Params []
  more_params : Move R.MoreParams (sign S.Comma ∷ Sub R.Param ∷ Act Into ∷ Sub R.MoreParams ∷ [])
  no_more_params : Move R.MoreParams []
  param : Move R.Param (Act (Begin N.Param) ∷ Sub R.MaybeFinal ∷ Sub R.TypeName ∷ Act Into ∷ Mark C.Name Text ∷ Act End ∷ [])
  final : Move R.MaybeFinal (word W.Final ∷ [])
  not_final : Move R.MaybeFinal []
  kernel_opening : Move (R.Opening ClassKind.Kernel) (Act (Begin N.Param) ∷ Sub R.MaybeFinal
      ∷ Mark (C.Word W.KernelParameters) (Push N.Plain) ∷ Act Into
      ∷ Call (Y.FirstParam ClassKind.Kernel) ∷ [])
  manager_opening : Move (R.Opening ClassKind.Manager) (Act (Begin N.Param) ∷ Sub R.MaybeFinal
      ∷ Mark (C.Word W.EngineParameters) (Push N.Plain) ∷ Act Into
      ∷ Call (Y.FirstParam ClassKind.Manager) ∷ [])
  kernel_opened : Move (R.Opened ClassKind.Kernel) (Act End ∷ Act Into ∷ Sub R.MoreParams ∷ [])
  manager_opened : Move (R.Opened ClassKind.Manager) (Act End ∷ Act Into ∷ [])
  super_rest : Move R.SuperRest (sign S.Close ∷ sign S.Semicolon ∷ Sub R.Stmts ∷ sign S.CloseBrace ∷ Act End ∷ Act Into ∷ Act End ∷ [])
  -- types
  type_name : Move R.TypeName (Mark (C.NameBut W.Memory) (Push N.Plain) ∷ Sub R.Dims ∷ [])
  type_memory : Move R.TypeName (Mark (C.Word W.Memory) (Push N.Plain) ∷ Sub R.MemoryType ∷ Sub R.Dims ∷ [])
  type_word : Move R.TypeName (Mark C.TypeWord (Push N.Plain) ∷ Sub R.Dims ∷ [])
  memory_type : Move R.MemoryType (sign S.Less ∷ word W.DFEVar ∷ sign S.Greater ∷ Act End ∷ [])
  no_memory_type : Move R.MemoryType []
  dims : Move R.Dims (Act (Wrap N.ArrayOf) ∷ sign S.OpenBracket ∷ sign S.CloseBracket ∷ Act End ∷ Sub R.Dims ∷ [])
  no_dims : Move R.Dims []
  -- expressions
  expr : Move R.Expr (Sub (R.Operand Level.Ors) ∷ Sub R.CondTail ∷ [])
  cond : Move R.CondTail (Act (Wrap N.Cond) ∷ sign S.Question ∷ Sub R.Expr ∷ Act Into ∷ sign S.Colon ∷ Sub R.Expr ∷ Act Into ∷ Act End ∷ [])
  no_cond : Move R.CondTail []
  operand : {l k : Level} → Above l k → Move (R.Operand k) (Sub (R.Operand l) ∷ Sub (R.Tail k) ∷ [])
  tail : {l k : Level} → Above l k → Move (R.Tail k) (Mark (C.Operator k) (Over N.Binary) ∷ Sub (R.Operand l) ∷ Act Into ∷ Act End ∷ Sub (R.Tail k) ∷ [])
  no_tail : {k : Level} → Move (R.Tail k) []
  prefix : Move (R.Operand Level.Prefixes) (Mark (C.Operator Level.Prefixes) (Push N.Prefix) ∷ Sub (R.Operand Level.Prefixes) ∷ Act Into ∷ Act End ∷ [])
  no_prefix : Move (R.Operand Level.Prefixes) (Sub R.Postfix ∷ [])
  literal : Move R.Postfix (Mark C.Literal Leaf ∷ Sub R.Post ∷ [])
  value_word : Move R.Postfix (Mark C.ValueWord (Push N.Name) ∷ Sub R.Post ∷ [])
  name : Move R.Postfix (Mark C.Name (Push N.Name) ∷ Sub R.Called ∷ Sub R.Post ∷ [])
  parentheses : Move R.Postfix (Act (Begin N.Empty) ∷ sign S.Open ∷ Sub R.Expr ∷ sign S.Close ∷ Act Inner ∷ Sub R.Post ∷ [])
  new : Move R.Postfix (Act (Begin N.New) ∷ word W.New ∷ Sub R.NewBase ∷ [])
  called : Move R.Called (Act (Turn N.Call) ∷ sign S.Open ∷ Sub R.Args ∷ sign S.Close ∷ Act End ∷ [])
  not_called : Move R.Called []
  args : Move R.Args (Sub R.Expr ∷ Act Into ∷ Sub R.MoreArgs ∷ [])
  no_args : Move R.Args []
  more_args : Move R.MoreArgs (sign S.Comma ∷ Sub R.Expr ∷ Act Into ∷ Sub R.MoreArgs ∷ [])
  no_more_args : Move R.MoreArgs []
  dot : Move R.Post (sign S.Dot ∷ Mark C.Name (Over N.Dot) ∷ Sub R.Dotted ∷ Sub R.Post ∷ [])
  index : Move R.Post (Act (Wrap N.Index) ∷ sign S.OpenBracket ∷ Sub R.Expr ∷ Act Into ∷ sign S.CloseBracket ∷ Act End ∷ Sub R.Post ∷ [])
  no_post : Move R.Post []
  dot_call : Move R.Dotted (Act (Turn N.DotCall) ∷ sign S.Open ∷ Sub R.Args ∷ sign S.Close ∷ Act End ∷ [])
  dot_name : Move R.Dotted (Act End ∷ [])
  new_name : Move R.NewBase (Mark (C.NameBut W.Memory) (Push N.Plain) ∷ Sub R.NewRest ∷ [])
  new_memory : Move R.NewBase (Mark (C.Word W.Memory) (Push N.Plain) ∷ Sub R.NewMemory ∷ [])
  new_word : Move R.NewBase (Mark C.TypeWord (Push N.Plain) ∷ Act Into ∷ Act (Turn N.NewArray) ∷ Sub R.Sizes ∷ Act End ∷ Sub R.FreshTail ∷ [])
  new_memories : Move R.NewMemory (sign S.Less ∷ word W.DFEVar ∷ sign S.Greater ∷ Act End
      ∷ Act Into ∷ Act (Turn N.NewArray) ∷ Sub R.Sizes ∷ Act End ∷ Sub R.FreshTail ∷ [])
  new_plain_memory : Move R.NewMemory (Sub R.NewRest ∷ [])
  new_call : Move R.NewRest (Act Named ∷ sign S.Open ∷ Sub R.Args ∷ sign S.Close ∷ Act End ∷ Sub R.Post ∷ [])
  new_array : Move R.NewRest (Act Into ∷ Act (Turn N.NewArray) ∷ Sub R.Sizes ∷ Act End ∷ Sub R.FreshTail ∷ [])
  fresh_dot : Move R.FreshTail (sign S.Dot ∷ Mark C.Name (Over N.Dot) ∷ Sub R.Dotted ∷ Sub R.Post ∷ [])
  no_fresh_dot : Move R.FreshTail []
  sizes : Move R.Sizes (sign S.OpenBracket ∷ Sub R.Expr ∷ Act Into ∷ sign S.CloseBracket ∷ Sub R.MoreSizes ∷ [])
  more_sizes : Move R.MoreSizes (Sub R.Sizes ∷ [])
  no_more_sizes : Move R.MoreSizes []
  -- simple statements
  simple_name : Move R.Simple (Mark C.Name (Push N.Name) ∷ Sub R.NameRest ∷ [])
  simple_other : Move R.Simple (Sub R.Other ∷ [])
  name_called : Move R.NameRest (Act (Turn N.Call) ∷ sign S.Open ∷ Sub R.Args ∷ sign S.Close ∷ Act End ∷ Sub (R.Rest Form.Call) ∷ [])
  name_place : Move R.NameRest (Sub (R.Rest Form.Place) ∷ [])
  other_prefix : Move R.Other (Mark (C.Operator Level.Prefixes) (Push N.Prefix) ∷ Sub (R.Operand Level.Prefixes) ∷ Act Into ∷ Act End ∷ onward)
  other_literal : Move R.Other (Mark C.Literal Leaf ∷ Sub (R.Rest Form.Free) ∷ [])
  other_value : Move R.Other (Mark C.ValueWord (Push N.Name) ∷ Sub (R.Rest Form.Free) ∷ [])
  other_parentheses : Move R.Other (Act (Begin N.Empty) ∷ sign S.Open ∷ Sub R.Expr ∷ sign S.Close ∷ Act Inner ∷ Sub (R.Rest Form.Free) ∷ [])
  other_new : Move R.Other (Act (Begin N.New) ∷ word W.New ∷ Sub R.NewStmt ∷ [])
  stmt_new_name : Move R.NewStmt (Mark (C.NameBut W.Memory) (Push N.Plain) ∷ Sub R.NewStmtRest ∷ [])
  stmt_new_memory : Move R.NewStmt (Mark (C.Word W.Memory) (Push N.Plain) ∷ Sub R.NewStmtMemory ∷ [])
  stmt_new_word : Move R.NewStmt (Mark C.TypeWord (Push N.Plain) ∷ Act Into ∷ Act (Turn N.NewArray) ∷ Sub R.Sizes ∷ Act End ∷ Sub (R.Rest Form.Fresh) ∷ [])
  stmt_new_memories : Move R.NewStmtMemory (sign S.Less ∷ word W.DFEVar ∷ sign S.Greater
      ∷ Act End ∷ Act Into ∷ Act (Turn N.NewArray) ∷ Sub R.Sizes ∷ Act End
      ∷ Sub (R.Rest Form.Fresh) ∷ [])
  stmt_new_plain_memory : Move R.NewStmtMemory (Sub R.NewStmtRest ∷ [])
  stmt_new_call : Move R.NewStmtRest (Act Named ∷ sign S.Open ∷ Sub R.Args ∷ sign S.Close ∷ Act End ∷ Sub (R.Rest Form.Call) ∷ [])
  stmt_new_array : Move R.NewStmtRest (Act Into ∷ Act (Turn N.NewArray) ∷ Sub R.Sizes ∷ Act End ∷ Sub (R.Rest Form.Fresh) ∷ [])
  place_index : Move (R.Rest Form.Place) (Act (Wrap N.Index) ∷ sign S.OpenBracket ∷ Sub R.Expr
      ∷ Act Into ∷ sign S.CloseBracket ∷ Act End ∷ Sub (R.Rest Form.Place) ∷ [])
  place_bare : Move (R.Rest Form.Place) (Sub R.Bare ∷ [])
  set : Move R.Bare (Mark C.Assigning (Over N.Set) ∷ Sub R.Expr ∷ Act Into ∷ Act End ∷ [])
  count : Move R.Bare (Mark C.Counting (Over N.Set) ∷ Act End ∷ [])
  bare_dot : Move R.Bare (sign S.Dot ∷ Mark C.Name (Over N.Dot) ∷ Sub R.DottedRest ∷ [])
  bare_onward : Move R.Bare onward
  call_index : Move (R.Rest Form.Call) (Act (Wrap N.Index) ∷ sign S.OpenBracket ∷ Sub R.Expr
      ∷ Act Into ∷ sign S.CloseBracket ∷ Act End ∷ Sub (R.Rest Form.Free) ∷ [])
  call_dot : Move (R.Rest Form.Call) (sign S.Dot ∷ Mark C.Name (Over N.Dot) ∷ Sub R.DottedRest ∷ [])
  call_onward : Move (R.Rest Form.Call) onward
  run : Move (R.Rest Form.Call) (Act (Wrap N.Run) ∷ Act End ∷ [])
  free_index : Move (R.Rest Form.Free) (Act (Wrap N.Index) ∷ sign S.OpenBracket ∷ Sub R.Expr
      ∷ Act Into ∷ sign S.CloseBracket ∷ Act End ∷ Sub (R.Rest Form.Free) ∷ [])
  free_dot : Move (R.Rest Form.Free) (sign S.Dot ∷ Mark C.Name (Over N.Dot) ∷ Sub R.DottedRest ∷ [])
  free_onward : Move (R.Rest Form.Free) onward
  array_dot : Move (R.Rest Form.Fresh) (sign S.Dot ∷ Mark C.Name (Over N.Dot) ∷ Sub R.DottedRest ∷ [])
  array_onward : Move (R.Rest Form.Fresh) onward
  dotted_call : Move R.DottedRest (Act (Turn N.DotCall) ∷ sign S.Open ∷ Sub R.Args ∷ sign S.Close ∷ Act End ∷ Sub (R.Rest Form.Call) ∷ [])
  dotted_name : Move R.DottedRest (Act End ∷ Sub (R.Rest Form.Free) ∷ [])
  -- statements
  init : Move R.Init (Sub R.Expr ∷ [])
  braces : Move R.Init (Act (Begin N.Braces) ∷ sign S.OpenBrace ∷ Sub R.Inits ∷ sign S.CloseBrace ∷ Act End ∷ [])
  inits : Move R.Inits (Sub R.Init ∷ Act Into ∷ Sub R.MoreInits ∷ [])
  no_inits : Move R.Inits []
  more_inits : Move R.MoreInits (sign S.Comma ∷ Sub R.Init ∷ Act Into ∷ Sub R.MoreInits ∷ [])
  no_more_inits : Move R.MoreInits []
  block : Move R.Block (Act (Begin N.Block) ∷ sign S.OpenBrace ∷ Sub R.Stmts ∷ sign S.CloseBrace ∷ Act End ∷ [])
  stmts : Move R.Stmts (Sub R.Stmt ∷ Act Into ∷ Sub R.Stmts ∷ [])
  no_stmts : Move R.Stmts []
  stmt_block : Move R.Stmt (Sub R.Block ∷ [])
  stmt_final : Move R.Stmt (Act (Begin N.Local) ∷ word W.Final ∷ Sub R.TypeName ∷ Act Into ∷ Mark C.Name Text ∷ Sub (R.Declared Site.Alone) ∷ [])
  stmt_word : Move R.Stmt (Mark C.TypeWord (Push N.Plain) ∷ Sub R.Dims ∷ Mark C.Name (Over N.Local) ∷ Sub (R.Declared Site.Alone) ∷ [])
  stmt_name : Move R.Stmt (Mark (C.NameBut W.Memory) (Push N.Name) ∷ Sub (R.NameThen Site.Alone) ∷ [])
  stmt_memory : Move R.Stmt (Mark (C.Word W.Memory) (Push N.Name) ∷ Sub (R.MemoryThen Site.Alone) ∷ [])
  stmt_return : Move R.Stmt (Act (Begin N.Return) ∷ word W.Return ∷ Sub R.ReturnRest ∷ [])
  stmt_if : Move R.Stmt (Act (Begin N.If) ∷ word W.If ∷ sign S.Open ∷ Sub R.Expr ∷ Act Into
      ∷ sign S.Close ∷ Sub R.Body ∷ Act Into ∷ Sub R.ElseTail ∷ Act End ∷ [])
  stmt_while : Move R.Stmt (Act (Begin N.While) ∷ word W.While ∷ sign S.Open ∷ Sub R.Expr ∷ Act Into ∷ sign S.Close ∷ Sub R.Body ∷ Act Into ∷ Act End ∷ [])
  stmt_for : Move R.Stmt (Act (Begin N.For) ∷ word W.For ∷ sign S.Open ∷ Sub R.First ∷ Act Into
      ∷ sign S.Semicolon ∷ Sub R.Test ∷ Act Into ∷ sign S.Semicolon ∷ Sub R.Step ∷ Act Into
      ∷ sign S.Close ∷ Sub R.Body ∷ Act Into ∷ Act End ∷ [])
  stmt_empty : Move R.Stmt (Act (Begin N.Empty) ∷ sign S.Semicolon ∷ Act End ∷ [])
  stmt_other : Move R.Stmt (Sub R.Other ∷ sign S.Semicolon ∷ [])
  then_name : {d : Site} → Move (R.NameThen d) (Act (Turn N.Plain) ∷ Mark C.Name (Over N.Local) ∷ Sub (R.Declared d) ∷ [])
  then_bracket : {d : Site} → Move (R.NameThen d) (sign S.OpenBracket ∷ Sub (R.BracketThen d) ∷ [])
  then_called : {d : Site} → Move (R.NameThen d) (Act (Turn N.Call) ∷ sign S.Open ∷ Sub R.Args ∷ sign S.Close ∷ Act End ∷ Sub (R.Rest Form.Call) ∷ close d)
  then_bare : {d : Site} → Move (R.NameThen d) (Sub R.Bare ∷ close d)
  then_dims : {d : Site} → Move (R.BracketThen d) (Act (Turn N.Plain) ∷ Act (Wrap N.ArrayOf)
      ∷ sign S.CloseBracket ∷ Act End ∷ Sub R.Dims ∷ Mark C.Name (Over N.Local)
      ∷ Sub (R.Declared d) ∷ [])
  then_index : {d : Site} → Move (R.BracketThen d) (Act (Wrap N.Index) ∷ Sub R.Expr ∷ Act Into
      ∷ sign S.CloseBracket ∷ Act End ∷ Sub (R.Rest Form.Place) ∷ close d)
  declared : Move (R.Declared Site.Alone) (sign S.Semicolon ∷ Act End ∷ [])
  declared_init : Move (R.Declared Site.Alone) (sign S.Assign ∷ Sub R.Init ∷ Act Into ∷ sign S.Semicolon ∷ Act End ∷ [])
  declared_loop : Move (R.Declared Site.Loop) (sign S.Assign ∷ Sub R.Expr ∷ Act Into ∷ Act End ∷ [])
  return_none : Move R.ReturnRest (sign S.Semicolon ∷ Act End ∷ [])
  return_value : Move R.ReturnRest (Sub R.Expr ∷ Act Into ∷ sign S.Semicolon ∷ Act End ∷ [])
  else_tail : Move R.ElseTail (word W.Else ∷ Sub R.ElseRest ∷ [])
  no_else : Move R.ElseTail []
  else_if : Move R.ElseRest (word W.If ∷ sign S.Open ∷ Sub R.Expr ∷ Act Into ∷ sign S.Close ∷ Sub R.Body ∷ Act Into ∷ Sub R.ElseTail ∷ [])
  otherwise : Move R.ElseRest (Sub R.Body ∷ Act Into ∷ [])
  body_block : Move R.Body (Sub R.Block ∷ [])
  body_return : Move R.Body (Act (Begin N.Return) ∷ word W.Return ∷ Sub R.ReturnRest ∷ [])
  body_simple : Move R.Body (Sub R.Simple ∷ sign S.Semicolon ∷ [])
  first_word : Move R.First (Mark C.TypeWord (Push N.Plain) ∷ Sub R.Dims ∷ Mark C.Name (Over N.Local) ∷ Sub (R.Declared Site.Loop) ∷ [])
  first_name : Move R.First (Mark (C.NameBut W.Memory) (Push N.Name) ∷ Sub (R.NameThen Site.Loop) ∷ [])
  first_memory : Move R.First (Mark (C.Word W.Memory) (Push N.Name) ∷ Sub (R.MemoryThen Site.Loop) ∷ [])
  first_other : Move R.First (Sub R.Other ∷ [])
  no_first : Move R.First (Act Hole ∷ [])
  test : Move R.Test (Sub R.Expr ∷ [])
  no_test : Move R.Test (Act Hole ∷ [])
  step : Move R.Step (Sub R.Simple ∷ [])
  no_step : Move R.Step (Act Hole ∷ [])
  -- statements that begin with `Memory`, `Memory <`, `Memory < DFEVar`, `Memory < DFEVar >`, and that and a name
  memory_name : {d : Site} → Move (R.MemoryThen d) (Act (Turn N.Plain) ∷ Mark C.Name (Over N.Local) ∷ Sub (R.Declared d) ∷ [])
  memory_bracket : {d : Site} → Move (R.MemoryThen d) (sign S.OpenBracket ∷ Sub (R.BracketThen d) ∷ [])
  memory_called : {d : Site} → Move (R.MemoryThen d) (Act (Turn N.Call) ∷ sign S.Open ∷ Sub R.Args ∷ sign S.Close ∷ Act End ∷ Sub (R.Rest Form.Call) ∷ close d)
  memory_less : {d : Site} → Move (R.MemoryThen d) (Mark (C.Sign S.Less) (Over N.Binary) ∷ Sub (R.LessThen d) ∷ [])
  memory_bare : {d : Site} → Move (R.MemoryThen d) (Sub R.MemoryBare ∷ close d)
  less_dfevar : {d : Site} → Move (R.LessThen d) (Mark (C.Word W.DFEVar) (Push N.Name) ∷ Sub (R.DFEVarThen d) ∷ [])
  less_other : {d : Site} → Move (R.LessThen d) (Sub R.OtherOperand
      ∷ Sub (R.Tail Level.Products) ∷ Sub (R.Tail Level.Sums) ∷ Sub (R.Tail Level.Shifts)
      ∷ ordered ++ close d)
  dfevar_greater : {d : Site} → Move (R.DFEVarThen d) (Act Into ∷ Act End ∷ Mark (C.Sign S.Greater) (Over N.Binary) ∷ Sub (R.GreaterThen d) ∷ [])
  dfevar_further : {d : Site} → Move (R.DFEVarThen d) (Sub R.Further
      ∷ Sub (R.Tail Level.Products) ∷ Sub (R.Tail Level.Sums) ∷ Sub (R.Tail Level.Shifts)
      ∷ ordered ++ close d)
  dfevar_tighter : {d : Site} → Move (R.DFEVarThen d) (Sub R.Tighter ∷ ordered ++ close d)
  dfevar_order : {d : Site} → Move (R.DFEVarThen d) (Act Into ∷ Act End
      ∷ Mark (C.OrderBut S.Greater) (Over N.Binary) ∷ Sub (R.Operand Level.Shifts)
      ∷ ordered ++ close d)
  dfevar_looser : {d : Site} → Move (R.DFEVarThen d) (Act Into ∷ Act End ∷ looser ++ close d)
  greater_name : {d : Site} → Move (R.GreaterThen d) (Mark C.Name (Push N.Name) ∷ Sub (R.MemoryName d) ∷ [])
  greater_dims : {d : Site} → Move (R.GreaterThen d) (Act Memory ∷ Act (Wrap N.ArrayOf)
      ∷ sign S.OpenBracket ∷ sign S.CloseBracket ∷ Act End ∷ Sub R.Dims
      ∷ Mark C.Name (Over N.Local) ∷ Sub (R.Declared d) ∷ [])
  greater_other : {d : Site} → Move (R.GreaterThen d) (Sub R.NamelessOperand
      ∷ Sub (R.Tail Level.Products) ∷ Sub (R.Tail Level.Sums) ∷ Sub (R.Tail Level.Shifts)
      ∷ ordered ++ close d)
  memory_declared : {d : Site} → Move (R.MemoryName d) (Act Declare ∷ Sub (R.Declared d) ∷ [])
  memory_further : {d : Site} → Move (R.MemoryName d) (Sub R.Called ∷ Sub R.Post
      ∷ Sub (R.Tail Level.Products) ∷ Sub (R.Tail Level.Sums) ∷ Sub (R.Tail Level.Shifts)
      ∷ ordered ++ close d)
  memory_set : Move R.MemoryBare (Mark C.Assigning (Over N.Set) ∷ Sub R.Expr ∷ Act Into ∷ Act End ∷ [])
  memory_count : Move R.MemoryBare (Mark C.Counting (Over N.Set) ∷ Act End ∷ [])
  memory_dot : Move R.MemoryBare (sign S.Dot ∷ Mark C.Name (Over N.Dot) ∷ Sub R.DottedRest ∷ [])
  memory_tighter : Move R.MemoryBare (Sub R.Tighter ∷ Sub (R.Tail Level.Orders) ∷ looser)
  memory_order : Move R.MemoryBare (Mark (C.OrderBut S.Less) (Over N.Binary) ∷ Sub (R.Operand Level.Shifts) ∷ ordered)
  memory_looser : Move R.MemoryBare looser
  other_name : Move R.OtherOperand (Mark (C.NameBut W.DFEVar) (Push N.Name) ∷ Sub R.Called ∷ Sub R.Post ∷ [])
  other_nameless : Move R.OtherOperand (Sub R.NamelessOperand ∷ [])
  nameless_prefix : Move R.NamelessOperand (Mark (C.Operator Level.Prefixes) (Push N.Prefix) ∷ Sub (R.Operand Level.Prefixes) ∷ Act Into ∷ Act End ∷ [])
  nameless_literal : Move R.NamelessOperand (Mark C.Literal Leaf ∷ Sub R.Post ∷ [])
  nameless_value : Move R.NamelessOperand (Mark C.ValueWord (Push N.Name) ∷ Sub R.Post ∷ [])
  nameless_parentheses : Move R.NamelessOperand (Act (Begin N.Empty) ∷ sign S.Open ∷ Sub R.Expr ∷ sign S.Close ∷ Act Inner ∷ Sub R.Post ∷ [])
  nameless_new : Move R.NamelessOperand (Act (Begin N.New) ∷ word W.New ∷ Sub R.NewBase ∷ [])
  further_called : Move R.Further (Act (Turn N.Call) ∷ sign S.Open ∷ Sub R.Args ∷ sign S.Close ∷ Act End ∷ Sub R.Post ∷ [])
  further_dot : Move R.Further (sign S.Dot ∷ Mark C.Name (Over N.Dot) ∷ Sub R.Dotted ∷ Sub R.Post ∷ [])
  further_index : Move R.Further (Act (Wrap N.Index) ∷ sign S.OpenBracket ∷ Sub R.Expr ∷ Act Into ∷ sign S.CloseBracket ∷ Act End ∷ Sub R.Post ∷ [])
  tighter_product : Move R.Tighter (Mark (C.Operator Level.Products) (Over N.Binary)
      ∷ Sub (R.Operand Level.Prefixes) ∷ Act Into ∷ Act End ∷ Sub (R.Tail Level.Products)
      ∷ Sub (R.Tail Level.Sums) ∷ Sub (R.Tail Level.Shifts) ∷ [])
  tighter_sum : Move R.Tighter (Mark (C.Operator Level.Sums) (Over N.Binary)
      ∷ Sub (R.Operand Level.Products) ∷ Act Into ∷ Act End ∷ Sub (R.Tail Level.Sums)
      ∷ Sub (R.Tail Level.Shifts) ∷ [])
  tighter_shift : Move R.Tighter (Mark (C.Operator Level.Shifts) (Over N.Binary)
      ∷ Sub (R.Operand Level.Sums) ∷ Act Into ∷ Act End ∷ Sub (R.Tail Level.Shifts) ∷ [])

-- By hand again.

-- whether a member that begins with this name may be the constructor
abbrev pub is_own : Inside → List ℕ → Bool
is_own i w = i.unmade && bytes_eq w i.class

abbrev pub made : Inside → Inside
made i = record { kind = i.kind; class = i.class; unmade = false }

-- the end of a field or method, and the members behind it
abbrev pub and_members : Inside → List Symbol
and_members i = Act Into ∷ Mark C.Name Text ∷ Sub R.Declares ∷ Act Into ∷ Call (Y.Members i) ∷ []

-- the choices of the rules that speak of names
pub data NamedMove : Y.Named → List Symbol → Type 0 where
  class_name : {w : List ℕ} → is_name w ≡ true → NamedMove Y.ClassName (Name w Text ∷ word W.Extends ∷ Call (Y.Parent w) ∷ [])
  kernel : {w : List ℕ} → NamedMove (Y.Parent w) (word W.Kernel ∷ sign S.OpenBrace
      ∷ Call (Y.Members (record { kind = ClassKind.Kernel; class = w; unmade = true }))
      ∷ sign S.CloseBrace ∷ Act End ∷ Act (Keep ClassKind.Kernel) ∷ [])
  manager : {w : List ℕ} → NamedMove (Y.Parent w) (word W.CustomManager ∷ sign S.OpenBrace
      ∷ Call (Y.Members (record { kind = ClassKind.Manager; class = w; unmade = true }))
      ∷ sign S.CloseBrace ∷ Act End ∷ Act (Keep ClassKind.Manager) ∷ [])
  member : {i : Inside} → NamedMove (Y.Members i) (Act (Begin N.Field) ∷ Sub R.Mods ∷ Call (Y.Head i) ∷ [])
  no_member : {m : ClassKind} {w : List ℕ} → NamedMove (Y.Members (record { kind = m; class = w; unmade = false })) []
  void_method : {i : Inside} → NamedMove (Y.Head i) (Mark (C.Word W.Void) (Push N.Plain)
      ∷ Act Into ∷ Mark C.Name Text ∷ Act (Turn N.Method) ∷ Sub R.MethodRest ∷ Act Into
      ∷ Call (Y.Members i) ∷ [])
  word_member : {i : Inside} → NamedMove (Y.Head i) (Mark C.TypeWord (Push N.Plain) ∷ Sub R.Dims ∷ and_members i)
  name_member : {i : Inside} {w : List ℕ} → is_name w ≡ true
      → NamedMove (Y.Head i) (Name w (Push N.Plain)
      ∷ Call (Y.After i (is_own i w) (bytes_eq w (codes "Memory"))) ∷ [])
  after_type : {i : Inside} {o m : Bool} → NamedMove (Y.After i o m) (Sub R.Dims ∷ and_members i)
  after_memory : {i : Inside} {o : Bool} → NamedMove (Y.After i o true) (sign S.Less ∷ word W.DFEVar ∷ sign S.Greater ∷ Act End ∷ Sub R.Dims ∷ and_members i)
  after_ctor : {i : Inside} {m : Bool} → NamedMove (Y.After i true m) (Act Named
      ∷ Act (Turn N.Ctor) ∷ sign S.Open ∷ Sub (R.Opening i.kind) ∷ Act Into
      ∷ Call (Y.Members (made i)) ∷ [])
  first_param : {m : ClassKind} {w : List ℕ} → is_name w ≡ true
      → NamedMove (Y.FirstParam m) (Name w Text ∷ Sub (R.Opened m) ∷ sign S.Close
      ∷ Act (Begin N.Block) ∷ sign S.OpenBrace ∷ word W.Super ∷ sign S.Open ∷ Name w Skip
      ∷ Sub R.SuperRest ∷ [])
