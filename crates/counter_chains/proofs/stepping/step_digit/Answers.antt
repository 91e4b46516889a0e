use Rattle.std.proofs.Common.{arith}
use Rattle.counter_chains.proofs.Regular.{is_regular}
use Rattle.counter_chains.proofs.Suffixes.{next_most}
use Rattle.counter_chains.proofs.stepping.step_digit.Goals as goal

pub returns-then-not-steps-clause-fits : goal.returns-then-not-steps-clause-fits
returns-then-not-steps-clause-fits c =
    let r = is_regular c.args.digit c.requires.digit in let m = c.requires.value.most in
    let i = r.inside in omega arith

pub returns-else-value-digit-clause-fits : goal.returns-else-value-digit-clause-fits
returns-else-value-digit-clause-fits c =
    let r = is_regular c.args.digit c.requires.digit in
    let m = next_most c.args.digit c.args.value c.requires.digit c.requires.value
    c.if-value-digit.false in
    let i = r.inside in omega arith
