use Rattle.project_rules.proofs.Accepted.{accepted}
use Rattle.project_rules.proofs.laws.project_is_accepted.Goals as goal

pub returns : goal.returns
returns c = λ project made inners d keeps whole. accepted project made inners d whole keeps
