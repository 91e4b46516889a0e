use Rattle.cycle_find.specs.Constraints.{numbers_of}
use Rattle.schedule_flow.specs.Balance.{IsOnWay}
use Rattle.schedule_flow.specs.Tree.{IsTreeOf}
use Rattle.schedule_flow.proofs.follow.take_up.Given as goal

abbrev pub invariant-loop-source : goal.invariant-loop-source
invariant-loop-source l = record {
  on_way : IsOnWay l.problem (numbers_of l.x) l.net;
  tree : IsTreeOf l.problem.arcs.nodes l.tree;
}
