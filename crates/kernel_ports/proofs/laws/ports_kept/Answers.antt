use Rattle.kernel_ports.proofs.Whole.{named_stay, ports_stay, nets_stay}
use Rattle.kernel_ports.proofs.laws.ports_kept.Goals as goal

pub returns : goal.returns
returns c = record { named = named_stay; ports = ports_stay; nets = nets_stay }
