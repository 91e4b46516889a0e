-- The numbers that the nodes of a tree hold.
use Rattle.std.specs.Prelude.{◌≡◌, ◌<◌, ◌≤◌, ◌^◌, ℕ, List, Some, length, slice_get}
use Rattle.maxj_tokens.specs.Faults.{integer_value}
use Rattle.maxj_syntax.specs.declared.tree.NodeKind.{NodeKind}
use Rattle.maxj_syntax.specs.declared.tree.NodeKind.TheVariants as N
use Rattle.maxj_syntax.specs.Cells.{Cell}

-- an integer is below 2^128, and a decimal has at most 30 digits beside its point
abbrev pub IsInRange : NodeKind → List ℕ → Type 0
IsInRange N.Whole word = integer_value word < 2 ^ 128
IsInRange N.Decimal word = length word ≤ 31
IsInRange _ word = Unit {0}

-- the numbers of all nodes are so
abbrev pub AreInRange : List Cell → Type 0
AreInRange cells =
    (n : ℕ) (cell : Cell) → slice_get cells n ≡ Some cell → IsInRange cell.kind cell.word
