use Rattle.std.proofs.Common.{◌-◌, length}
use Rattle.top_ports.specs.Reading.{kernel_at}
use Rattle.top_ports.proofs.Interfaces.{Leads}
use Rattle.top_ports.proofs.reading.read_kernels.Given as goal

-- what is read from here on comes behind what is read
abbrev pub invariant-loop-kernels : goal.invariant-loop-kernels
invariant-loop-kernels l = Leads (kernel_at l.top) 2 l.fn.place l.kernels l.place

abbrev pub decreases-loop-kernels : goal.decreases-loop-kernels
decreases-loop-kernels l = length l.top.ports - l.place
