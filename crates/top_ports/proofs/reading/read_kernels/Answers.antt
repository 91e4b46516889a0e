use Rattle.std.proofs.Common.{sym, ◌∙◌}
use Rattle.top_ports.specs.Reading.{kernel_at}
use Rattle.top_ports.proofs.Interfaces.{leads_all}
use Rattle.top_ports.proofs.reading.read_kernels.Goals as goal

pub returns : goal.returns
returns c = leads_all (kernel_at c.args.top.now) 2 c.args.place.now c.loop-kernels.kernels c.loop-kernels.place (sym c.in_ok-kernel.ensures.kernel ∙ c.in_default.is) c.loop-kernels.invariant
