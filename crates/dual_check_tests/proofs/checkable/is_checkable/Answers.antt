use Rattle.std.proofs.Common.{◌≤◌, ◌*◌, ◌^◌, length, arith, rules}
use Rattle.std.proofs.Math.Nat.{mul-le-mul_right}
use Rattle.dual_check_tests.proofs.checkable.is_checkable.Goals as goal

pub returns-then-are_times : goal.returns-then-are_times
returns-then-are_times c =
    let list = c.args.problem.now.arcs.list in
    let few : length list ≤ 2 ^ 20 = search rules in
    let small : length list * 2 ^ 40 ≤ 2 ^ 20 * 2 ^ 40 = mul-le-mul_right (2 ^ 40) few in
    λ t. record {
      few = omega (arith, few);
      ends = search rules;
      few_terms = search rules;
      term_ends = search rules;
      size = 2 ^ 40;
      needs = search rules;
      small = omega (arith, small);
      times = search rules;
      flow = search rules;
      near = search rules;
      carried = search rules;
    }
