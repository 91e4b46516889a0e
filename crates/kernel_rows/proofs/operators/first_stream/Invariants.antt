-- The first stream stands among the values that are left.
use Rattle.std.proofs.Common.{◌≡◌, drop}
use Rattle.kernel_meaning.specs.StreamRows as Rows
use Rattle.kernel_rows.specs.Fit.{AreFit}
use Rattle.kernel_rows.proofs.operators.first_stream.Given as goal

abbrev pub invariant-loop-value : goal.invariant-loop-value
invariant-loop-value l =
    (Rows.first_stream (drop l.value-index l.values) ≡ Rows.first_stream l.values)
    × AreFit (drop l.value-index l.values)
