use Rattle.project_netlists.proofs.Excluding.{made_has, refused_none, refused_once}
use Rattle.project_netlists.proofs.laws.refusals_are_exact.Goals as goal

pub returns-clause-made : goal.returns-clause-made
returns-clause-made c = made_has

pub returns-clause-none : goal.returns-clause-none
returns-clause-none c = refused_none

pub returns-clause-one : goal.returns-clause-one
returns-clause-one c = refused_once
