use Rattle.std.proofs.Common.{sym, ◌∙◌}
use Rattle.top_ports.specs.Reading.{scalar_at}
use Rattle.top_ports.proofs.Interfaces.{leads_all}
use Rattle.top_ports.proofs.reading.read_scalars.Goals as goal

pub returns : goal.returns
returns c = leads_all (scalar_at c.args.top.now) 1 c.args.place.now c.loop-scalars.scalars c.loop-scalars.place (sym c.in_ok-scalar.ensures.scalar ∙ c.in_default.is) c.loop-scalars.invariant
