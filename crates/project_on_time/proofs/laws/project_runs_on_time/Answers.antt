use Rattle.project_on_time.proofs.OnTime.{runs_on_time}
use Rattle.project_on_time.proofs.laws.project_runs_on_time.Goals as goal

pub returns : goal.returns
returns c = runs_on_time c.flat_by_parts.ensures.edges
