-- The numbers so far, without their signs.
use Rattle.std.proofs.Common.{◌≡◌, take}
use Rattle.std.specs.Prelude.{map, unsigned_abs}
use Rattle.kernel_rows.proofs.new_arrays.unsigned.Given as goal

abbrev pub invariant-loop-number : goal.invariant-loop-number
invariant-loop-number l = l.sizes.items ≡ map unsigned_abs (take l.number-index l.numbers)
