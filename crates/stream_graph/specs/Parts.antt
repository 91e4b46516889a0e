-- What the code that makes nodes says of single ones.
use Rattle.std.specs.Prelude.{ℕ}
use Rattle.fix_arith.specs.declared.types.StreamType.{StreamType}
use Rattle.fix_arith.specs.declared.types.StreamType.TheVariants.{UInt}

-- the bits of an unsigned type, and else 0
abbrev pub bits_of : StreamType → ℕ
bits_of (UInt bits) = bits
bits_of _ = 0
