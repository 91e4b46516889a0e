use Rattle.std.proofs.Common.{arith}
use Rattle.std.proofs.lemmas.Int.{ints}
use Rattle.schedule_problem.proofs.costs.stretch.Goals as goal

pub returns-clause-time : goal.returns-clause-time
returns-clause-time c = omega (arith, ints, c.requires.within c.args.from, c.requires.within c.args.to)

pub returns-clause-small : goal.returns-clause-small
returns-clause-small c = omega (arith, ints, c.requires.within c.args.from, c.requires.within c.args.to)
