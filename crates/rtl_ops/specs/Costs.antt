-- How many wires operations may take.
use Rattle.std.specs.Prelude.{ℕ, ◌*◌, List, length}
use Rattle.mx_bits.specs.declared.op.Op.{Op}
use Rattle.fix_arith.specs.declared.types.StreamType.{StreamType}

-- the most wires that an operation on operands of these types takes: 15 an operand
abbrev pub most_wires : Op → List StreamType → ℕ
most_wires op types = 15 * length types

-- The most wires that any operation may take for its result and for each of its operands, so that
-- the module of a kernel and its text stay within their limits: three times 512 are enough for a
-- quotient of 128 digits with 11 wires a digit.
abbrev pub wires_a_part : ℕ
wires_a_part = 512
