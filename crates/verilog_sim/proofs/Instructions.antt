-- What an instruction of the list computes, and when it is safe.
use Rattle.std.specs.Prelude.{Bool, true, false, ℕ, ◌%◌, ◌^◌}
use Rattle.std.specs.Prelude.{List, slice_index}

-- the values of nets, or their low 64 bits
abbrev pub read_by : Bool → List ℕ → ℕ → ℕ
read_by true values n = slice_index values n % 2 ^ 64
read_by false values n = slice_index values n
