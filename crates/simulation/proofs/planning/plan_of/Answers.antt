use Rattle.std.proofs.Common.{rules}
use Rattle.simulation.proofs.PlanApart.{are_apart}
use Rattle.simulation.proofs.PlanFits.{fits}
use Rattle.simulation.proofs.planning.plan_of.Goals as goal

pub returns-clause-fits : goal.returns-clause-fits
returns-clause-fits c = λ d read. fits c.args.run.now c.args.ports.now _ d (search rules) read c.requires.scalars.1

pub returns-clause-apart : goal.returns-clause-apart
returns-clause-apart c = λ d read differ. are_apart c.args.run.now c.args.ports.now _ d (search rules) read differ
