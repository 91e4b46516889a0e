-- The rows of one operation: from which width on it has which latency.
use Rattle.std.specs.Prelude.{ℕ, ◌≡◌, ◌<◌, ◌≤◌, Bool, true, false, ◌&&◌, nat_lt, nat_le, List, []}
use Rattle.std.specs.Prelude.{◌∷◌, map, reverse, All, Contains, Option, Some, None, is_some}
use Rattle.std.specs.Prelude.{option_map, option_and_then, if◌then◌else◌}
use Rattle.std.specs.List.{list_all, find}
use Rattle.std.specs.Option.{option_map_or}
use Rattle.serde_json.specs.Data.{Data, Items, no_items, item}
use Rattle.serde_json.specs.Find.{as_number, as_u64, as_integer, as_array}
use Rattle.latency_table.specs.declared.rows.Row.{Row}

-- the items of an array
abbrev pub items : Items → List Data
items no_items = []
items (item d ds) = d ∷ items ds

-- ---- the form of rows

-- a whole number that is kept in 64 bits, with or without sign
abbrev pub is_whole : Data → Bool
is_whole d = is_some (option_and_then as_integer (as_number d))

-- the two items of an array of two
abbrev pub two_of : List Data → Option (Data × Data)
two_of (a ∷ b ∷ []) = Some (a, b)
two_of _ = None

abbrev pub pair_of : Data → Option (Data × Data)
pair_of d = option_and_then (λ ds. two_of (items ds)) (as_array d)

-- a pair [from, latency]
abbrev pub is_pair : Data → Bool
is_pair d = option_map_or (λ p. is_whole p.0 && is_whole p.1) (pair_of d) false

abbrev pub are_pairs : Data → Bool
are_pairs d = option_map_or (λ ds. list_all is_pair (items ds)) (as_array d) false

-- ---- what they say

-- a whole number without sign
abbrev pub number : Data → Option ℕ
number d = option_and_then as_u64 (as_number d)

abbrev pub new_row : ℕ → ℕ → Row
new_row from latency = record { from = from; latency = latency }

-- the row that a pair says
abbrev pub row_of : Data → Option Row
row_of d = option_and_then (λ p. option_and_then (λ f. option_map (new_row f) (number p.1)) (number p.0)) (pair_of d)

abbrev pub all_rows : List Data → Option (List Row)
all_rows [] = Some []
all_rows (d ∷ ds) = option_and_then (λ row. option_map (λ rows. row ∷ rows) (all_rows ds)) (row_of d)

-- the first is above the least, and each other one above the one before it
abbrev pub rise_above : ℕ → List ℕ → Bool
rise_above least [] = true
rise_above least (n ∷ ns) = nat_lt least n && rise_above n ns

-- a width is at most 128, and a latency at most 64
abbrev pub is_in_range : Row → Bool
is_in_range row = nat_le row.from 128 && nat_le row.latency 64

-- the widths rise strictly from 1 on, and all numbers are in range
abbrev pub are_in_range : List Row → Bool
are_in_range rows = rise_above 0 (map (λ r. r.from) rows) && list_all is_in_range rows

-- the rows that an array of pairs says, where they are in range
abbrev pub rows_of : Data → Option (List Row)
rows_of d = option_and_then (λ rows. if are_in_range rows then Some rows else None) (option_and_then (λ ds. all_rows (items ds)) (as_array d))

-- ---- one row after another

-- a number, where it is at most so much
abbrev pub up_to : ℕ → Option ℕ → Option ℕ
up_to most None = None
up_to most (Some n) = if nat_le n most then Some n else None

-- the row that a pair says, where it is in range and its width above another
abbrev pub row_above : ℕ → Data → Option Row
row_above least d = option_and_then (λ row. if nat_lt least row.from && is_in_range row then Some row else None) (row_of d)

-- ---- the row of a width

-- the last of the rows whose width isn't above this one
abbrev pub row_at : List Row → ℕ → Option Row
row_at rows width = find (λ r. nat_le r.from width) (reverse rows)

-- the latency of the row with the greatest width not above this one; None where every row's width is above it
abbrev pub IsOfWidth : List Row → ℕ → Option ℕ → Type 0
IsOfWidth rows width None = All (λ r. width < r.from) rows
IsOfWidth rows width (Some latency) =
    (row : Row) × Contains rows row × (row.latency ≡ latency) × (row.from ≤ width)
    × All (λ r. r.from ≤ width → r.from ≤ row.from) rows
