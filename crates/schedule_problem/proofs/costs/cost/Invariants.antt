use Rattle.std.proofs.Common.{◌≡◌, ◌*◌, ◌^◌, pos, neg_ℤ, ◌≤ℤ◌}
use Rattle.cycle_find.specs.Constraints.{numbers_of}
use Rattle.schedule_problem.specs.Flow.{total, term_cost}
use Rattle.schedule_problem.proofs.costs.cost.Given as goal

abbrev pub invariant-loop-t : goal.invariant-loop-t
invariant-loop-t l = record {
  so_far : l.sum ≡ total l.t (term_cost l.terms (numbers_of l.times));
  low : neg_ℤ (pos (2 ^ 94 * l.t)) ≤ℤ l.sum;
  high : l.sum ≤ℤ pos (2 ^ 94 * l.t);
}
