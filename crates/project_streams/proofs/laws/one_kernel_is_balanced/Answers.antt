use Rattle.std.proofs.Common.{arith}
use Rattle.project_streams.proofs.laws.one_kernel_is_balanced.Goals as goal
use Rattle.project_streams.proofs.Alone.{none_alone}

pub returns : goal.returns
returns c = λ project times made given values are one.
    λ k d h. let none = none_alone project made times are one in absurd (omega arith)
