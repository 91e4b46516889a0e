-- The numbers of the classes from a place on.
use Rattle.std.proofs.Common.{◌≡◌, ℕ, List, drop}
use Rattle.kernel_plans.specs.Tables.{named_in}
use Rattle.kernel_plans.proofs.KernelNumbers.{number_from}
use Rattle.kernel_plans.proofs.kernels.KernelClasses.new.Given as goal

abbrev pub invariant-loop-place : goal.invariant-loop-place
invariant-loop-place l =
    (name : List ℕ) → named_in l.numbers name ≡ number_from l.place (drop l.place l.classes) name
