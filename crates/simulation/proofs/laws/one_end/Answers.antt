use Rattle.simulation.proofs.Once.{one_end}
use Rattle.simulation.proofs.laws.one_end.Goals as goal

pub returns : goal.returns
returns g c = one_end _ c.requires
