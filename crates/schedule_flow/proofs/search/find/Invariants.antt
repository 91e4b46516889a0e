use Rattle.std.proofs.Common.{◌≡◌, ℕ, ◌<◌, ◌-◌, pos, ◌≤ℤ◌, slice_index}
use Rattle.cycle_find.specs.Constraints.{numbers_of}
use Rattle.schedule_problem.specs.Flow.{flow_of}
use Rattle.schedule_flow.specs.Search.{IsSearch, AllRelaxed, far}
use Rattle.schedule_flow.proofs.search.find.Given as goal

abbrev pub invariant-loop-reach : goal.invariant-loop-reach
invariant-loop-reach l = record {
  search : IsSearch l.problem (numbers_of l.x) (flow_of l.flow) (numbers_of l.rest) l.tree.place.items l.tree.via.items l.tree.distance.items l.queue l.count;
  relaxed : AllRelaxed l.problem (numbers_of l.x) (flow_of l.flow) l.tree.place.items l.tree.distance.items;
  calm : (v : ℕ) → 0 < slice_index l.tree.place.items v → pos 0 ≤ℤ numbers_of l.rest v;
  still : l.x ≡ l.initial.x;
  begun : slice_index l.tree.distance.items l.source < far;
}

abbrev pub decreases-loop-reach : goal.decreases-loop-reach
decreases-loop-reach l = l.problem.arcs.nodes - l.count
