use Rattle.simulation.proofs.OutputNames.{names_differ}
use Rattle.simulation.proofs.planning.outputs_differ.Goals as goal

pub returns : goal.returns
returns c = λ d m s accepted top is. names_differ d m s accepted top is.has
