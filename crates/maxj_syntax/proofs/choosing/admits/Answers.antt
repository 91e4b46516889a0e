use Rattle.maxj_syntax.proofs.Exits.{admits_some}
use Rattle.maxj_syntax.proofs.choosing.admits.Goals as goal

pub returns-in-Some : goal.returns-in-Some
returns-in-Some c = admits_some c.args.guard.now c.args.next c.in-Some.kind c.is_empty.result c.any_has.result c.is_empty.ensures c.if-is_empty.false c.in-Some.is c.any_has.ensures
