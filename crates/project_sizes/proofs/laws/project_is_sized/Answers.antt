use Rattle.project_sizes.proofs.Whole.{whole}
use Rattle.project_sizes.proofs.laws.project_is_sized.Goals as goal

pub returns : goal.returns
returns c = whole
