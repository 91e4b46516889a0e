use Rattle.project_rules.proofs.Alone.{all_alone}
use Rattle.project_rules.proofs.laws.refinements_keep_rules.Goals as goal

pub returns : goal.returns
returns c = λ project times inners refine. all_alone project times inners refine
