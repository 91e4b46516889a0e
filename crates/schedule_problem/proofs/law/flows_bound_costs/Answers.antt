use Rattle.schedule_problem.proofs.Duality.{flows_bound}
use Rattle.schedule_problem.proofs.law.flows_bound_costs.Goals as goal

pub returns : goal.returns
returns c = flows_bound c.args.problem.now c.requires.arcs c.requires.terms
