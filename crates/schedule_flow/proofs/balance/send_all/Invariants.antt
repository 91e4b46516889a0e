use Rattle.std.proofs.Common.{ℕ, ◌<◌, pos, ◌≤ℤ◌}
use Rattle.cycle_find.specs.Constraints.{numbers_of}
use Rattle.schedule_problem.specs.Flow.{flow_of, excess}
use Rattle.schedule_flow.specs.Balance.{IsOnWay}
use Rattle.schedule_flow.specs.Tree.{IsTreeOf}
use Rattle.schedule_flow.proofs.balance.send_all.Given as goal

abbrev pub invariant-loop-source : goal.invariant-loop-source
invariant-loop-source l = record {
  on_way : IsOnWay l.problem (numbers_of l.x) l.net;
  tree : IsTreeOf l.problem.arcs.nodes l.tree;
  sent : (v : ℕ) → v < l.source → excess l.problem (flow_of l.net.flow) v ≤ℤ pos 0;
}
