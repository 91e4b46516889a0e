use Rattle.schedule_problem.specs.Flow.{flow_of}
use Rattle.schedule_flow.proofs.Tightening.{Tightening}
use Rattle.schedule_flow.proofs.earliest.tightened.Given as goal

abbrev pub invariant-loop-j : goal.invariant-loop-j
invariant-loop-j l = Tightening l.problem (flow_of l.flow) l.list.items l.j
