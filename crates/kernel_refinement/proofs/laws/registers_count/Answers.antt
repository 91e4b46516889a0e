use Rattle.kernel_refinement.proofs.Storing.{stepping_counts}
use Rattle.kernel_refinement.proofs.laws.registers_count.Goals as goal

pub returns : goal.returns
returns c = stepping_counts
