-- Classes of bytes (ASCII), and what digits say.
use Rattle.std.specs.Prelude.{ℕ, ◌+◌, ◌-◌, ◌*◌, Bool, ◌&&◌, ◌||◌, nat_le, List, [], ◌∷◌, if◌then◌else◌}

abbrev pub is_between : ℕ → ℕ → ℕ → Bool
is_between low high b = nat_le low b && nat_le b high

-- 0 to 9
abbrev pub is_digit : ℕ → Bool
is_digit b = is_between 48 57 b

-- A to Z and a to z
abbrev pub is_letter : ℕ → Bool
is_letter b = is_between 65 90 b || is_between 97 122 b

-- 0 to 9, A to F and a to f
abbrev pub is_hex : ℕ → Bool
is_hex b = is_digit b || (is_between 65 70 b || is_between 97 102 b)

abbrev pub hex_value : ℕ → ℕ
hex_value b = if is_digit b then b - 48 else (if is_between 65 70 b then b - 55 else b - 87)

-- digits of a base, with those before them worth this much
abbrev pub digits_value : ℕ → ℕ → List ℕ → ℕ
digits_value base so_far [] = so_far
digits_value base so_far (d ∷ ds) = digits_value base (so_far * base + hex_value d) ds

-- the number that decimal digits say
abbrev pub decimal_value : List ℕ → ℕ
decimal_value ds = digits_value 10 0 ds

-- the number that hexadecimal digits say
abbrev pub hexadecimal : List ℕ → ℕ
hexadecimal ds = digits_value 16 0 ds
