-- Sets of numbers in a bit each, and the items of a row, wherever they are.
use Rattle.std.specs.Prelude.{◌≡◌, ◌↔◌, ℕ, ◌/◌, ◌%◌, List, map, Bool, true, Some, nat_eq, if◌then◌else◌, slice_get, slice_index, slice_index_or}
use Rattle.std.specs.List.{range_with_len}
use Rattle.std.specs.Int.{bit_at}
use Rattle.digraph.specs.declared.row.Kept.{Kept}
use Rattle.digraph.specs.declared.row.Kept.TheVariants.{Own, Marked}

-- whether a number is in the set that these words of 64 bits are: it has a bit of its own
abbrev pub is_marked : List ℕ → ℕ → Bool
is_marked words n = nat_eq (bit_at (slice_index words (n / 64)) (n % 64)) 1

-- the set has the numbers of this list alone
abbrev pub AreMarked : List ℕ → List ℕ → Type 0
AreMarked numbers words = (n : ℕ) → (is_marked words n ≡ true) ↔ ((i : ℕ) × (slice_get numbers i ≡ Some n))

-- so many items: at each place the one that a list has there, if the place is in the set, and else another one
abbrev pub picked : {A : Type 0} → List ℕ → List A → A → ℕ → List A
picked words items other len =
    map (λ n. if is_marked words n then slice_index_or items n other else other) (range_with_len 0 len)

abbrev pub items_of : {A : Type 0} → Kept A → List A
items_of (Own items) = items
items_of (Marked row) = picked row.marks.value row.items.value row.other row.len
