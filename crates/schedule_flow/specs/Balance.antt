-- On the way to balance.
use Rattle.std.specs.Prelude.{◌≡◌, ℕ, ◌+◌, ◌*◌, ◌^◌, pos, ◌≤ℤ◌, ◌<ℤ◌}
use Rattle.cycle_find.specs.Constraints.{Numbers, Solves}
use Rattle.schedule_problem.specs.declared.problem.Problem.{Problem}
use Rattle.schedule_problem.specs.Flow.{flow_of, excess}
use Rattle.schedule_flow.specs.Network.{Network, IsTight, weights}

-- legal numbers that are tight for the flow of a network of the problem
pub record IsOnWay (p : Problem) (x : Numbers) (net : Network) : Type 0 where
  pub problem : net.problem ≡ p
  pub legal : Solves x p.arcs.list
  pub tight : IsTight p x (flow_of net.flow)
  pub low : (v : ℕ) → pos 0 ≤ℤ x v
  pub high : (v : ℕ) → x v ≤ℤ pos (2 ^ 61 * (net.sends + 1))
  pub wants : (v : ℕ) → excess p (flow_of net.flow) v <ℤ pos 0 → x v ≤ℤ pos (2 ^ 60)
  pub counted : pos net.sends ≤ℤ weights p
