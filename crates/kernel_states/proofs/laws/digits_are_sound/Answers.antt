use Rattle.kernel_types.proofs.Counting.{counters}
use Rattle.kernel_states.proofs.Kernels.{nets_few}
use Rattle.kernel_states.proofs.Costs.{few_states}
use Rattle.kernel_states.proofs.laws.digits_are_sound.Goals as goal

pub returns : goal.returns
returns c =
    let nodes = c.args.kernel.now.nodes in
    let kernel = c.args.kernel.now.made in
    record {
      counting = counters nodes kernel;
      few = nets_few nodes kernel;
      count = few_states nodes;
    }
