-- The order and the signs of a type's numbers.
use Rattle.std.specs.Prelude.{ℕ, ◌-◌, ◌^◌, Bool, not, ◌&&◌, nat_le, if◌then◌else◌, pos, ◌+ℤ◌, unsigned_abs}
use Rattle.fix_arith.specs.declared.types.StreamType.{StreamType}
use Rattle.fix_arith.specs.Types.{width_of, is_signed}
use Rattle.fix_arith.specs.Values.{value_of}

-- how far the least number of a type lies below 0
abbrev pub depth_of : StreamType → ℕ
depth_of t = if is_signed t then 2 ^ (width_of t - 1) else 0

-- how far a word's number lies above the least number of its type
abbrev pub rank_of : StreamType → ℕ → ℕ
rank_of t bits = unsigned_abs (value_of t bits +ℤ pos (depth_of t))

-- whether a word's number is below 0
abbrev pub is_below_zero : StreamType → ℕ → Bool
is_below_zero t bits = is_signed t && nat_le (2 ^ (width_of t - 1)) bits

-- whether one test holds and the other one doesn't
abbrev pub differ : Bool → Bool → Bool
differ p q = if p then not q else q
