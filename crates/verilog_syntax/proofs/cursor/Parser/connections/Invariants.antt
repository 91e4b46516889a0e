use Rattle.std.proofs.Common.{◌<◌, ◌++◌, length, map}
use Rattle.verilog_syntax.specs.Parsing.{ConnectionsOf, MoreConnectionsOf}
use Rattle.verilog_syntax.specs.Trees.{left, connection_view}
use Rattle.verilog_syntax.proofs.Plans.{Left, read, done}
use Rattle.verilog_syntax.proofs.cursor.Parser.connections.Given as goal

-- what was read so far begins the list
abbrev pub invariant-loop-self : goal.invariant-loop-self
invariant-loop-self l = record {
  read : Left ConnectionsOf (read MoreConnectionsOf (λ w. done (map connection_view l.connections ++ w))) (left l.fn.self) (left l.self);
  fewer : length (left l.self) < length (left l.fn.self);
}

abbrev pub decreases-loop-self : goal.decreases-loop-self
decreases-loop-self l = length (left l.self)
