use Rattle.std.proofs.Common.{ℕ, ◌≤ℤ◌, rules}
use Rattle.cycle_find.specs.Constraints.{Numbers, numbers_of, Solves, IsNonNegative}
use Rattle.schedule_problem.specs.Flow.{flow_of, IsFlow}
use Rattle.schedule_flow.specs.Network.{IsTight}
use Rattle.schedule_flow.proofs.Finishing.{equal, cheapest, first_times}
use Rattle.schedule_flow.proofs.certified.certified.Goals as goal

pub returns-clause-best : goal.returns-clause-best
returns-clause-best c =
    let p = c.args.problem.now in
    let flow = c.from_vec-2.result in
    let times = c.from_vec.result in
    let is : IsFlow p (flow_of flow) = search rules in
    let tight : IsTight p (numbers_of times) (flow_of flow) = search rules in
    record {
      nodes = search rules;
      arcs = search rules;
      legal = search rules;
      flow = is;
      equal = equal p (flow_of flow) (numbers_of times) c.requires is tight;
    }

pub returns-clause-cheapest : goal.returns-clause-cheapest
returns-clause-cheapest c =
    let p = c.args.problem.now in
    let flow = c.from_vec-2.result in
    let times = c.from_vec.result in
    let is : IsFlow p (flow_of flow) = search rules in
    let tight : IsTight p (numbers_of times) (flow_of flow) = search rules in
    cheapest p (flow_of flow) (numbers_of times) c.requires is tight

pub returns-clause-earliest : goal.returns-clause-earliest
returns-clause-earliest c =
    let p = c.args.problem.now in
    let flow = c.from_vec-2.result in
    let times = c.from_vec.result in
    let is : IsFlow p (flow_of flow) = search rules in
    let tight : IsTight p (numbers_of times) (flow_of flow) = search rules in
    let low : IsNonNegative (numbers_of times) = search rules in
    let least : (z : Numbers) → Solves z p.arcs.list → IsTight p z (flow_of flow) → IsNonNegative z
    → (v : ℕ) → numbers_of times v ≤ℤ z v = search rules in
    first_times p (flow_of flow) (numbers_of times) c.requires is tight low least
