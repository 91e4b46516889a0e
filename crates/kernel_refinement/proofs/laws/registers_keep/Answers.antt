use Rattle.kernel_refinement.proofs.Storing.{store_keeps}
use Rattle.kernel_refinement.proofs.laws.registers_keep.Goals as goal

pub returns : goal.returns
returns c = store_keeps
