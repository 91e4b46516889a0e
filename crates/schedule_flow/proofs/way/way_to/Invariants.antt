use Rattle.std.proofs.Common.{◌<◌, pos, ◌+ℤ◌, ◌≤ℤ◌, length, slice_index}
use Rattle.cycle_find.specs.Constraints.{numbers_of}
use Rattle.schedule_problem.specs.Flow.{flow_of}
use Rattle.schedule_flow.proofs.Trail.{IsTrail}
use Rattle.schedule_flow.proofs.way.way_to.Given as goal

abbrev pub invariant-loop-node : goal.invariant-loop-node
invariant-loop-node l = record {
  trail : IsTrail l.problem (numbers_of l._x) (flow_of l.flow) l.tree.place.items l.back.items l.want l.node l.amount;
  node : l.node < length l.tree.place.items;
  reached : 0 < slice_index l.tree.place.items l.node;
  some : 0 < l.amount;
  wants : (numbers_of l.rest l.want +ℤ pos l.amount) ≤ℤ pos 0;
}

abbrev pub decreases-loop-node : goal.decreases-loop-node
decreases-loop-node l = slice_index l.tree.place.items l.node
