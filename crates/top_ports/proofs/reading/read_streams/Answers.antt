use Rattle.std.proofs.Common.{sym, ◌∙◌}
use Rattle.top_ports.specs.Reading.{stream_at}
use Rattle.top_ports.proofs.Interfaces.{leads_all}
use Rattle.top_ports.proofs.reading.read_streams.Goals as goal

pub returns : goal.returns
returns c = leads_all
    (stream_at c.args.top.now c.args.side) 3 c.args.place.now c.loop-streams.streams
    c.loop-streams.place (sym c.in_ok-stream.ensures.stream ∙ c.in_default.is)
    c.loop-streams.invariant
