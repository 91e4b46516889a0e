use Rattle.kernel_refinement.proofs.Runs.{built_runs}
use Rattle.kernel_refinement.proofs.laws.built_runs.Goals as goal

pub returns : goal.returns
returns c = built_runs
