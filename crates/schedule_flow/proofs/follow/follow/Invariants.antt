use Rattle.cycle_find.specs.Constraints.{numbers_of}
use Rattle.schedule_flow.specs.Follow.{IsFollowed}
use Rattle.schedule_flow.specs.Tree.{IsTreeOf}
use Rattle.schedule_flow.proofs.follow.follow.Given as goal

abbrev pub invariant-loop-count : goal.invariant-loop-count
invariant-loop-count l = record {
  tree : IsTreeOf l.problem.arcs.nodes l.tree;
  followed : IsFollowed l.problem (numbers_of l.x) (numbers_of l.rest) l.tree.place.items l.tree.via.items l.count l.node;
}
