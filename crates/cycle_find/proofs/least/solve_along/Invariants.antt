use Rattle.std.proofs.Common.{◌≡◌, ℕ, ◌+◌, ◌-◌, ◌*◌, ◌≤◌, length, slice_index, sum}
use Rattle.cycle_find.specs.Search.{IsRaised}
use Rattle.cycle_find.proofs.least.solve_along.Given as goal

abbrev pub invariant-loop-node : goal.invariant-loop-node
invariant-loop-node l = record {
  raised : IsRaised l.list l.x l.via;
  nodes : length l.x ≡ l.nodes;
  within : (v : ℕ) → slice_index l.x v ≤ l.limit;
}

abbrev pub decreases-loop-node : goal.decreases-loop-node
decreases-loop-node l = l.nodes * l.limit + 1 - sum l.x
