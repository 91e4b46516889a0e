-- What waits, by what it belongs to: an expression, a statement, or what a variable is set to.
use Rattle.std.specs.Prelude.{Bool, true, false}
use Rattle.maxj_syntax.specs.declared.tree.NodeKind.{NodeKind}
use Rattle.maxj_syntax.specs.declared.tree.NodeKind.TheVariants as N
use Rattle.kernel_machine.specs.declared.task.Task.{Task}
use Rattle.kernel_machine.specs.declared.task.Task.TheVariants as T

abbrev pub is_of_expression : Task → Bool
is_of_expression (T.Operands _ _ _ _ _ _) = true
is_of_expression (T.Choice _ _ _) = true
is_of_expression (T.Picked _) = true
is_of_expression (T.ChooseFirst _ _ _) = true
is_of_expression (T.ChooseSecond _ _ _) = true
is_of_expression (T.Short _ _ _) = true
is_of_expression (T.FlagAlone _) = true
is_of_expression _ = false

-- also the fields of a class
abbrev pub is_of_statement : Task → Bool
is_of_statement (T.Statements _ _ _) = true
is_of_statement (T.Test _ _ _ _) = true
is_of_statement (T.LoopBegin _) = true
is_of_statement (T.LoopTurn _ _) = true
is_of_statement (T.LoopBody _ _) = true
is_of_statement (T.LoopAgain _ _) = true
is_of_statement T.Discard = true
is_of_statement (T.GiveBack _) = true
is_of_statement (T.Fields _ _ _ _) = true
is_of_statement _ = false

-- a statement without statements inside
abbrev pub is_alone : NodeKind → Bool
is_alone N.Empty = true
is_alone N.Local = true
is_alone N.Set = true
is_alone N.Connect = true
is_alone N.Run = true
is_alone N.Return = true
is_alone _ = false
