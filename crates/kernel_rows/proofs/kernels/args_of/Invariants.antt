-- The arguments so far, and those that are left, are all.
use Rattle.std.proofs.Common.{◌≡◌, drop}
use Rattle.kernel_meaning.specs.ManagerRows as Rows
use Rattle.kernel_rows.proofs.KernelArgs.{args_before}
use Rattle.kernel_rows.proofs.kernels.args_of.Given as goal

abbrev pub invariant-loop-value : goal.invariant-loop-value
invariant-loop-value l =
    args_before l.args (Rows.args_of (drop l.value-index l.values)) ≡ Rows.args_of l.values
