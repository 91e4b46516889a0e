-- The numbers so far, and those that are left, are all.
use Rattle.std.proofs.Common.{◌≡◌, drop}
use Rattle.kernel_meaning.specs.ArrayRows as Rows
use Rattle.kernel_rows.proofs.NumbersBefore.{numbers_before}
use Rattle.kernel_rows.proofs.new_arrays.numbers_of.Given as goal

abbrev pub invariant-loop-value : goal.invariant-loop-value
invariant-loop-value l =
    numbers_before l.numbers (Rows.sizes_of (drop l.value-index l.values)) ≡ Rows.sizes_of l.values
