use Rattle.top_ports.proofs.FirstWrong.{no_wrong}
use Rattle.top_ports.proofs.ShapeLists.{one_alone}
use Rattle.top_ports.proofs.laws.one_shape.Goals as goal

pub returns-clause-one : goal.returns-clause-one
returns-clause-one c = one_alone

pub returns-clause-right : goal.returns-clause-right
returns-clause-right c = no_wrong
