use Rattle.std.proofs.Common.{◌≡◌, ℕ, ℤ, ◌≤ℤ◌, List, length, sym, ap, ◌∙◌, subst, rules}
use Rattle.cycle_find.specs.Constraints.{Numbers, numbers_of, Solves, IsNonNegative}
use Rattle.schedule_problem.specs.Flow.{flow_of, IsFlow}
use Rattle.schedule_flow.specs.Network.{IsTight}
use Rattle.schedule_flow.proofs.Finishing.{balanced, equal, cheapest, first_times}
use Rattle.schedule_flow.proofs.solver.answer_of.Goals as goal

pub returns-clause-best : goal.returns-clause-best
returns-clause-best c =
    let p = c.args.problem.now in
    let net = c.args.net.now in
    let times = c.from_vec.result in
    let flow = c.from_vec-2.result in
    let e = c.in_ok-times.ensures in
    let ef : flow ≡ net.flow = c.from_vec-2.ensures ∙ c.in_ok-flow.ensures.items ∙ c.flow-2.ensures.flow in
    let et : times ≡ c.in_ok-times.times.items = c.from_vec.ensures in
    let is_flow = balanced p (flow_of net.flow) c.requires.problem.arcs.ends c.requires.problem.ends c.requires.balanced in
    let I : List ℕ → Type 0 = λ l. IsFlow p (flow_of l) in
    let S : List ℤ → Type 0 = λ l. Solves (numbers_of l) p.arcs.list in
    let T : List ℕ → Type 0 = λ l. IsTight p (numbers_of c.in_ok-times.times.items) (flow_of l) in
    let U : List ℤ → Type 0 = λ l. IsTight p (numbers_of l) (flow_of flow) in
    let is = subst I (sym ef) is_flow in
    let tight = subst U (sym et) (subst T (c.flow.ensures.flow ∙ sym ef) e.tight) in
    record {
      nodes = ap length et ∙ e.one_each;
      arcs = search rules;
      legal = subst S (sym et) e.legal;
      flow = is;
      equal = equal p (flow_of flow) (numbers_of times) c.requires.problem is tight;
    }

pub returns-clause-cheapest : goal.returns-clause-cheapest
returns-clause-cheapest c =
    let p = c.args.problem.now in
    let net = c.args.net.now in
    let e = c.in_ok-times.ensures in
    let is_flow = balanced p (flow_of net.flow) c.requires.problem.arcs.ends c.requires.problem.ends c.requires.balanced in
    let T : List ℕ → Type 0 = λ l. IsTight p (numbers_of c.in_ok-times.times.items) (flow_of l) in
    let U : List ℤ → Type 0 = λ l. IsTight p (numbers_of l) (flow_of net.flow) in
    let tight = subst U (sym c.from_vec.ensures) (subst T c.flow.ensures.flow e.tight) in
    cheapest p (flow_of net.flow) (numbers_of c.from_vec.result) c.requires.problem is_flow tight

pub returns-clause-earliest : goal.returns-clause-earliest
returns-clause-earliest c =
    let p = c.args.problem.now in
    let net = c.args.net.now in
    let e = c.in_ok-times.ensures in
    let is_flow = balanced p (flow_of net.flow) c.requires.problem.arcs.ends c.requires.problem.ends c.requires.balanced in
    let T : List ℕ → Type 0 = λ l. IsTight p (numbers_of c.in_ok-times.times.items) (flow_of l) in
    let U : List ℤ → Type 0 = λ l. IsTight p (numbers_of l) (flow_of net.flow) in
    let tight = subst U (sym c.from_vec.ensures) (subst T c.flow.ensures.flow e.tight) in
    let N : List ℤ → Type 0 = λ l. IsNonNegative (numbers_of l) in
    let L : List ℕ → Type 0 = λ l. (z : Numbers) → Solves z p.arcs.list → IsTight p z (flow_of l) → IsNonNegative z → (v : ℕ) → numbers_of c.in_ok-times.times.items v ≤ℤ z v in
    let M : List ℤ → Type 0 = λ l. (z : Numbers) → Solves z p.arcs.list → IsTight p z (flow_of net.flow) → IsNonNegative z → (v : ℕ) → numbers_of l v ≤ℤ z v in
    first_times p (flow_of net.flow) (numbers_of c.from_vec.result) c.requires.problem is_flow tight
    (subst N (sym c.from_vec.ensures) e.low)
    (subst M (sym c.from_vec.ensures) (subst L c.flow.ensures.flow e.least))
