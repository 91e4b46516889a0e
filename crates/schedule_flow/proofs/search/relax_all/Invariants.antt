use Rattle.std.proofs.Common.{◌≡◌, ℕ, ◌≤◌, length, slice_index}
use Rattle.cycle_find.specs.Constraints.{numbers_of}
use Rattle.schedule_problem.specs.Flow.{flow_of}
use Rattle.schedule_flow.specs.Search.{far}
use Rattle.schedule_flow.specs.Tree.{IsTreeOf}
use Rattle.schedule_flow.proofs.Reaching.{Going}
use Rattle.schedule_flow.proofs.search.relax_all.Given as goal

abbrev pub invariant-loop-next : goal.invariant-loop-next
invariant-loop-next l = record {
  going : Going l.problem (numbers_of l.x)
      (flow_of l.flow) l.initial.tree.place.items l.initial.tree.via.items l.tree.via.items
      l.initial.tree.distance.items l.tree.distance.items l.initial.queue l.queue l.node l.next;
  place : l.tree.place ≡ l.initial.tree.place;
  tree : IsTreeOf (length l.x) l.tree;
  within : (v : ℕ) → slice_index l.tree.distance.items v ≤ far;
}

abbrev pub decreases-loop-next : goal.decreases-loop-next
decreases-loop-next l = l.next
