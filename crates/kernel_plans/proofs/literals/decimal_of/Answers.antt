-- 31 bytes say a number of 128 bits.
use Rattle.std.proofs.Common.{arith}
use Rattle.kernel_plans.proofs.literals.decimal_of.Goals as goal
use Rattle.kernel_plans.proofs.Decimals.{fits_word, fits_front, digits_value-append}

pub digits_value-whole-requires-clause-within : goal.digits_value-whole-requires-clause-within
digits_value-whole-requires-clause-within c =
    rw c.around_point-parts.ensures.whole
    (fits_front c.args.word.now (λ k. let fits = c.type_inv.word k in omega (arith, fits)) c.requires.within)

pub digits_value-digits-requires-clause-within : goal.digits_value-digits-requires-clause-within
digits_value-digits-requires-clause-within c =
    rw (c.digits_value-whole.ensures, c.around_point-parts.ensures.whole, c.around_point-parts.ensures.behind)
    (fits_word c.args.word.now (λ k. let fits = c.type_inv.word k in omega (arith, fits)) c.requires.within)

pub returns-clause-value : goal.returns-clause-value
returns-clause-value c =
    let e = digits_value-append 10 0 c.around_point-parts.result.whole.now
    c.around_point-parts.result.behind.now in
    cc
