-- The elements so far, and those of the arrays in them.
use Rattle.std.proofs.Common.{◌≡◌, ◌+◌, ◌*◌, ◌≤◌, ◌<◌, ◌^◌, drop}
use Rattle.kernel_meaning.specs.Arrays.{nested}
use Rattle.kernel_rows.proofs.new_arrays.steps_within.Given as goal

abbrev pub invariant-loop-size : goal.invariant-loop-size
invariant-loop-size l = record {
  all : l.steps + l.arrays * nested (drop l.size-index l.sizes) ≡ nested l.sizes;
  arrays : l.arrays < 2 ^ 32;
  steps : l.steps ≤ l.left;
}
