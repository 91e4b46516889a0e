use Rattle.cycle_find.specs.Constraints.{numbers_of}
use Rattle.schedule_flow.specs.Balance.{IsOnWay}
use Rattle.schedule_flow.specs.Tree.{IsTreeOf}
use Rattle.schedule_flow.proofs.follow.take_up_from.Given as goal

abbrev pub invariant-loop : goal.invariant-loop
invariant-loop l = record {
  on_way : IsOnWay l.problem (numbers_of l.x) l.net;
  tree : IsTreeOf l.problem.arcs.nodes l.tree;
}
