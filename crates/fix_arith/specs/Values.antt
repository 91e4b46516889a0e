-- The numbers that words stand for in a type, and the words that numbers become.
use Rattle.std.specs.Prelude.{◌≡◌, ℕ, ◌-◌, ◌<◌, ◌^◌, Bool, ◌&&◌, nat_le, if◌then◌else◌, ℤ, pos, neg_ℤ, ◌-ℤ◌, unsigned_abs}
use Rattle.std.specs.Int.{int_rem_euclid}
use Rattle.fix_arith.specs.declared.types.StreamType.{StreamType}
use Rattle.fix_arith.specs.Types.{width_of, is_signed}

-- The number of a word in a type. Of a Fix it is the numerator over 2 to the bits behind the point.
unfoldable pub value_of : StreamType → ℕ → ℤ
value_of t bits =
    if is_signed t && nat_le (2 ^ (width_of t - 1)) bits
    then pos bits -ℤ pos (2 ^ width_of t)
    else pos bits

-- a number modulo 2 to the width, as the bits of a word
unfoldable pub reduced : ℕ → ℤ → ℕ
reduced width z = unsigned_abs (int_rem_euclid z (pos (2 ^ width)))

-- z is the number of some word of the type
abbrev pub IsValue : StreamType → ℤ → Type 0
IsValue t z = (bits : ℕ) × (bits < 2 ^ width_of t) × (value_of t bits ≡ z)

-- the number of this size, below 0 or not
abbrev pub signed_of : Bool → ℕ → ℤ
signed_of negative size = if negative then neg_ℤ (pos size) else pos size
