use Rattle.project_runs.proofs.Runs.{runs}
use Rattle.project_runs.proofs.laws.project_runs.Goals as goal

pub returns : goal.returns
returns c = runs c.flat_by_parts.ensures.edges
