use Rattle.std.proofs.Common.{◌≤◌, ◌++◌, length, map}
use Rattle.verilog_syntax.specs.Parsing.{ItemsOf}
use Rattle.verilog_syntax.specs.Trees.{left, item_view}
use Rattle.verilog_syntax.proofs.Plans.{Left, read, done}
use Rattle.verilog_syntax.proofs.cursor.Parser.items.Given as goal

-- what was read so far begins the list
abbrev pub invariant-loop-alloc : goal.invariant-loop-alloc
invariant-loop-alloc l = record {
  read : Left ItemsOf (read ItemsOf (λ w. done (map item_view l.items ++ w))) (left l.fn.self) (left l.self);
  fewer : length (left l.self) ≤ length (left l.fn.self);
}

abbrev pub decreases-loop-alloc : goal.decreases-loop-alloc
decreases-loop-alloc l = length (left l.self)
