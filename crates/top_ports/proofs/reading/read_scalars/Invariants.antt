use Rattle.std.proofs.Common.{◌-◌, length}
use Rattle.top_ports.specs.Reading.{scalar_at}
use Rattle.top_ports.proofs.Interfaces.{Leads}
use Rattle.top_ports.proofs.reading.read_scalars.Given as goal

-- what is read from here on comes behind what is read
abbrev pub invariant-loop-scalars : goal.invariant-loop-scalars
invariant-loop-scalars l = Leads (scalar_at l.top) 1 l.fn.place l.scalars l.place

abbrev pub decreases-loop-scalars : goal.decreases-loop-scalars
decreases-loop-scalars l = length l.top.ports - l.place
