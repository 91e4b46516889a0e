use Rattle.kernel_refinement.proofs.Parting.{parts_count}
use Rattle.kernel_refinement.proofs.laws.parts_count.Goals as goal

pub returns : goal.returns
returns c = parts_count
