use Rattle.std.proofs.Common.{sym, arith, subst}
use Rattle.counter_chains.specs.Digits.{IsLeastBits}
use Rattle.counter_chains.proofs.Bits.{below_zeros, none_least, least_is}
use Rattle.counter_chains.proofs.making.bits_for.Goals as goal

pub returns-in-0-clause-answer : goal.returns-in-0-clause-answer
returns-in-0-clause-answer c = sym (least_is c.args.greatest 1
    (subst (λ n. IsLeastBits n 1) (sym c.in-0.is) none_least) (omega arith))

pub returns-in_default-clause-answer : goal.returns-in_default-clause-answer
returns-in_default-clause-answer c = sym (least_is c.args.greatest _
    (below_zeros c.args.greatest (omega arith) (omega arith)) (omega arith))

pub returns-in_default-clause-least : goal.returns-in_default-clause-least
returns-in_default-clause-least c = below_zeros c.args.greatest (omega arith) (omega arith)
