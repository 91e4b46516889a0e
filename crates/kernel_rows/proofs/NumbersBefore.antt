-- New arrays while they are filled, the innermost first.
use Rattle.std.specs.Prelude.{◌+◌, List, ◌++◌, Option, Some, None, ℤ}

-- the numbers that values are, and those that come before others
abbrev pub numbers_before : List ℤ → Option (List ℤ) → Option (List ℤ)
numbers_before numbers None = None
numbers_before numbers (Some rest) = Some (numbers ++ rest)
