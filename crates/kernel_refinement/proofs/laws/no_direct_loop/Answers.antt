use Rattle.kernel_refinement.proofs.Direct.{no_direct_loop}
use Rattle.kernel_refinement.proofs.laws.no_direct_loop.Goals as goal

pub returns : goal.returns
returns c = no_direct_loop
