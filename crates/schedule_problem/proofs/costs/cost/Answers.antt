use Rattle.std.proofs.Common.{◌≤◌, ◌^◌, length, ap, arith}
use Rattle.std.proofs.lemmas.Int.{ints}
use Rattle.cycle_find.specs.Constraints.{numbers_of}
use Rattle.schedule_problem.specs.Flow.{term_cost}
use Rattle.schedule_problem.proofs.Sums.{total-more}
use Rattle.schedule_problem.proofs.costs.cost.Goals as goal

pub loop-t-preserved : goal.loop-t-preserved
loop-t-preserved c =
    let terms = c.as_slice-terms.result.now in
    let few : length terms ≤ 2 ^ 20 = omega (arith, ap length c.as_slice-terms.ensures, c.requires.count) in
    let more = total-more c.loop-t.t (term_cost terms (numbers_of c.args.times.now)) in
    record {
      so_far = omega (arith, ints, more, c.price-sum.ensures.cost, c.price-sum.ensures.small, c.loop-t.invariant.so_far, c.loop-t.invariant.low, c.loop-t.invariant.high);
      low = omega (arith, ints, c.price-sum.ensures.small, c.loop-t.invariant.low, c.loop-t.invariant.high);
      high = omega (arith, ints, c.price-sum.ensures.small, c.loop-t.invariant.low, c.loop-t.invariant.high);
    }

pub overflow_add-sum : goal.overflow_add-sum
overflow_add-sum c =
    let terms = c.as_slice-terms.result.now in
    let few : length terms ≤ 2 ^ 20 = omega (arith, ap length c.as_slice-terms.ensures, c.requires.count) in
    omega (arith, ints, c.price-sum.ensures.small, c.loop-t.invariant.low, c.loop-t.invariant.high)
