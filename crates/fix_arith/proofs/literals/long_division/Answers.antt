use Rattle.std.proofs.Common.{arith}
use Rattle.fix_arith.proofs.Divisions.{step, too_great}
use Rattle.fix_arith.proofs.literals.long_division.Goals as goal

pub returns-then-quotient-clause-none : goal.returns-then-quotient-clause-none
returns-then-quotient-clause-none c =
    let now = c.loop-done.quotient in
    too_great c.args.digits c.loop-done._done c.args.bits now.whole now.left c.args.divisor c.loop-done.invariant.sum (omega arith) (omega arith)

pub loop-done-preserved : goal.loop-done-preserved
loop-done-preserved c =
    let now = c.loop-done.quotient in
    let next = c.doubled-quotient.result in
    record {
      below = c.doubled-quotient.ensures.left;
      sum = step c.args.digits c.loop-done._done now.whole now.left c.args.divisor next.whole next.left c.loop-done.invariant.sum c.doubled-quotient.ensures.twice;
    }
