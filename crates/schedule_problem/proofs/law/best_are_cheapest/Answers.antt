use Rattle.schedule_problem.proofs.Duality.{best_cheapest}
use Rattle.schedule_problem.proofs.law.best_are_cheapest.Goals as goal

pub returns : goal.returns
returns c = best_cheapest c.args.problem.now c.requires.arcs c.requires.terms
