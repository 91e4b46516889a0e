-- Quotients, rounded to whole numbers.
use Rattle.std.specs.Prelude.{ℕ, ◌*◌, ◌%◌, Bool, false, ◌&&◌, ◌||◌, ◌==◌, nat_le, nat_lt, if◌then◌else◌, ℤ, pos, ◌+ℤ◌, ◌-ℤ◌, ◌*ℤ◌, unsigned_abs}
use Rattle.std.specs.Int.{int_div_euclid, int_rem_euclid}
use Rattle.fix_arith.specs.declared.types.RoundMode.{RoundMode}
use Rattle.fix_arith.specs.declared.types.RoundMode.TheVariants.{Truncate, ToNear, ToNearEven}

-- z over d, rounded down
abbrev pub floor_of : ℤ → ℕ → ℤ
floor_of z d = int_div_euclid z (pos d)

-- z over d, rounded to the nearest whole number, halves up
abbrev pub nearest_of : ℤ → ℕ → ℤ
nearest_of z d = floor_of (pos 2 *ℤ z +ℤ pos d) (2 * d)

-- z over d lies halfway between two whole numbers
abbrev pub is_halfway : ℤ → ℕ → Bool
is_halfway z d = unsigned_abs (int_rem_euclid (pos 2 *ℤ z +ℤ pos d) (pos (2 * d))) == 0

abbrev pub is_odd : ℤ → Bool
is_odd z = unsigned_abs z % 2 == 1

-- z over d, rounded by the mode; d isn't 0
unfoldable pub rounded : RoundMode → ℤ → ℕ → ℤ
rounded Truncate z d = floor_of z d
rounded ToNear z d = nearest_of z d
rounded ToNearEven z d =
    let near = nearest_of z d in
    if is_halfway z d && is_odd near then near -ℤ pos 1 else near

-- Whether a number that lies r of d parts above a whole number goes to the next one. `rounded` is
-- the floor, or the next number where this holds.
abbrev pub rounds_up : RoundMode → Bool → ℕ → ℕ → Bool
rounds_up Truncate odd r d = false
rounds_up ToNear odd r d = nat_le d (2 * r)
rounds_up ToNearEven odd r d = nat_lt d (2 * r) || (2 * r == d && odd)
