-- Places that are marked in a set.
use Rattle.std.specs.Prelude.{◌≡◌, ◌↔◌, ℕ, List, Some, slice_get}
use Rattle.std.specs.List.{range_with_len}
use Rattle.digraph.specs.Rows.{picked}

-- the marked places below an end, with another one in the place of each that is not marked
abbrev pub picked_places : List ℕ → ℕ → ℕ → List ℕ
picked_places words other end = picked words (range_with_len 0 end) other end

-- two lists have the same items, how often each may stand there
abbrev pub HasSame : List ℕ → List ℕ → Type 0
HasSame xs ys = (x : ℕ) → ((i : ℕ) × (slice_get xs i ≡ Some x)) ↔ ((i : ℕ) × (slice_get ys i ≡ Some x))
