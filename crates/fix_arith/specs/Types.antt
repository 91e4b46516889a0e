-- The types of streams by their parts.
use Rattle.std.specs.Prelude.{ℕ, ◌+◌, ◌≤◌, Bool, true, false}
use Rattle.fix_arith.specs.declared.types.StreamType.{StreamType}
use Rattle.fix_arith.specs.declared.types.StreamType.TheVariants.{UInt, Int, Fix, Bool as OneBit}

-- the bits of a word
abbrev pub width_of : StreamType → ℕ
width_of (UInt bits) = bits
width_of (Int bits) = bits
width_of (Fix whole frac signed) = whole + frac
width_of OneBit = 1

-- the bits of a word behind the point
abbrev pub frac_of : StreamType → ℕ
frac_of (UInt bits) = 0
frac_of (Int bits) = 0
frac_of (Fix whole frac signed) = frac
frac_of OneBit = 0

-- whether words are read in two's complement
abbrev pub is_signed : StreamType → Bool
is_signed (UInt bits) = false
is_signed (Int bits) = true
is_signed (Fix whole frac signed) = signed
is_signed OneBit = false

-- the type is one of words
abbrev pub HasWidth : StreamType → Type 0
HasWidth t = (1 ≤ width_of t) × (width_of t ≤ 128)
