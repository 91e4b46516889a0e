-- The operands so far, and those that are left, are all.
use Rattle.std.proofs.Common.{◌≡◌, ◌≤◌, ◌+◌, drop}
use Rattle.kernel_meaning.specs.StreamRows as Rows
use Rattle.kernel_rows.specs.Fit.{AreFit}
use Rattle.kernel_rows.specs.Operation.{before}
use Rattle.kernel_rows.proofs.operands.operands_of.Given as goal

abbrev pub invariant-loop-value : goal.invariant-loop-value
invariant-loop-value l =
    (before l.operands
    (Rows.operands_of l.mode l.of l.operands.made (drop l.value-index l.values))
    ≡ Rows.operands_of l.mode l.of l.made l.values)
    × AreFit (drop l.value-index l.values) × (l.operands.made ≤ l.made + l.value-index)
