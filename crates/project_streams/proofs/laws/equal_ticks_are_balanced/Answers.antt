use Rattle.project_streams.proofs.laws.equal_ticks_are_balanced.Goals as goal
use Rattle.project_streams.proofs.Equal.{balanced}

pub returns : goal.returns
returns c = balanced
