use Rattle.kernel_stages.proofs.Chaining.{joined_length, joined_rings}
use Rattle.kernel_stages.proofs.laws.delay_counts.Goals as goal

pub returns : goal.returns
returns c = λ m latencies waits delays h a. (joined_length latencies waits delays h, joined_rings m latencies waits delays h a)
