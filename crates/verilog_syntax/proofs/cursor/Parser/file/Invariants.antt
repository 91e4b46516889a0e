use Rattle.std.proofs.Common.{◌++◌, length, map}
use Rattle.verilog_syntax.specs.Parsing.{FileOf, ModulesOf}
use Rattle.verilog_syntax.specs.Trees.{left, module_view}
use Rattle.verilog_syntax.proofs.Plans.{Left, read, done}
use Rattle.verilog_syntax.proofs.cursor.Parser.file.Given as goal

-- what was read so far begins the list
abbrev pub invariant-loop-alloc : goal.invariant-loop-alloc
invariant-loop-alloc l = Left FileOf (read ModulesOf (λ w. done (map module_view l.modules ++ w))) (left l.fn.self) (left l.self)

abbrev pub decreases-loop-alloc : goal.decreases-loop-alloc
decreases-loop-alloc l = length (left l.self)
