use Rattle.kernel_refinement.specs.Sum.{sum_nodes, sum_times, sum_module, sum_nets_of}
use Rattle.kernel_refinement.proofs.Sum.{sum_ticks, sum_layout}
use Rattle.kernel_refinement.proofs.Runs.{built_runs}
use Rattle.kernel_refinement.proofs.Summing.{sum_built}
use Rattle.kernel_refinement.proofs.laws.sum_runs.Goals as goal

pub returns : goal.returns
returns c = λ w one nothing o z.
    built_runs (sum_module w one nothing) (sum_nodes w) sum_ticks sum_times sum_nets_of 29 sum_layout (sum_built w one nothing o z)
