use Rattle.std.proofs.Common.{◌-◌, length}
use Rattle.top_ports.specs.Reading.{stream_at}
use Rattle.top_ports.proofs.Interfaces.{Leads}
use Rattle.top_ports.proofs.reading.read_streams.Given as goal

-- what is read from here on comes behind what is read
abbrev pub invariant-loop-streams : goal.invariant-loop-streams
invariant-loop-streams l = Leads (stream_at l.top l.side) 3 l.fn.place l.streams l.place

abbrev pub decreases-loop-streams : goal.decreases-loop-streams
decreases-loop-streams l = length l.top.ports - l.place
