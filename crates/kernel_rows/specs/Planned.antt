-- What the answer of a plan says of the plan of the meaning.
use Rattle.std.specs.Prelude.{◌≡◌}
use Rattle.kernel_meaning.specs.Plans as Plans
use Rattle.kernel_rows.specs.declared.plan.OperandPlan.{OperandPlan}
use Rattle.kernel_rows.specs.declared.plan.OperandPlan.TheVariants.{Fault, Reads, AddsKernel}

-- the same refusal, or the same row and range of operands, or a kernel that is added
abbrev pub IsPlan : Plans.OperandPlan → OperandPlan → Type 0
IsPlan plan (Fault e) = plan ≡ Plans.Fault e
IsPlan plan (Reads row from count) = plan ≡ Plans.Reads row from count
IsPlan plan AddsKernel = plan ≡ Plans.AddsKernel
