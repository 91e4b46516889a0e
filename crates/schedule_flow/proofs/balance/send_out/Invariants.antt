use Rattle.std.proofs.Common.{ℕ, ◌-◌, ◌^◌, pos, ◌≤ℤ◌}
use Rattle.cycle_find.specs.Constraints.{numbers_of}
use Rattle.schedule_problem.specs.Flow.{flow_of, excess}
use Rattle.schedule_flow.specs.Balance.{IsOnWay}
use Rattle.schedule_flow.specs.Tree.{IsTreeOf}
use Rattle.schedule_flow.proofs.balance.send_out.Given as goal

abbrev pub invariant-loop-alloc : goal.invariant-loop-alloc
invariant-loop-alloc l = record {
  on_way : IsOnWay l.problem (numbers_of l.x) l.net;
  tree : IsTreeOf l.problem.arcs.nodes l.tree;
  keeps : (v : ℕ) → excess l.problem (flow_of l.initial.net.flow) v ≤ℤ pos 0 → excess l.problem (flow_of l.net.flow) v ≤ℤ pos 0;
}

abbrev pub decreases-loop-alloc : goal.decreases-loop-alloc
decreases-loop-alloc l = 2 ^ 52 - l.net.sends
