use Rattle.std.proofs.Common.{◌≡◌, ◌+◌, map, take, length}
use Rattle.verilog_syntax.specs.Parsing.{ReadsAll}
use Rattle.verilog_syntax.specs.Pieces.{piece_part}
use Rattle.verilog_syntax.specs.Trees.{left}
use Rattle.verilog_syntax.proofs.cursor.Parser.expect.Given as goal

-- the first pieces are read
abbrev pub invariant-loop-piece : goal.invariant-loop-piece
invariant-loop-piece l = record {
  read : ReadsAll (map piece_part (take l.piece-index l.pieces)) (left l.fn.self) (left l.self);
  fewer : length (left l.self) + l.piece-index ≡ length (left l.fn.self);
}
