use Rattle.fix_arith.proofs.Comparisons.{no_test}
use Rattle.fix_arith.proofs.table.holds.Goals as goal

pub returns-in_default : goal.returns-in_default
returns-in_default c = no_test c.args.op c.args.order c.in_default.not-Eq c.in_default.not-Ne c.in_default.not-Lt c.in_default.not-Le c.in_default.not-Gt c.in_default.not-Ge
