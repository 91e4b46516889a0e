use Rattle.std.proofs.Common.{◌≡◌, ◌/◌, ◌%◌, ◌≤ℤ◌, pos, cond, ap, arith, rules}
use Rattle.std.proofs.lemmas.Int.{ints}
use Rattle.std.proofs.lemmas.Bool.{eq-eqb}
use Rattle.cycle_find.specs.Constraints.{numbers_of}
use Rattle.schedule_flow.specs.Search.{slack_of, reduced}
use Rattle.schedule_flow.proofs.search.reduced_need.Goals as goal

pub returns-then-number-eq0-clause-need : goal.returns-then-number-eq0-clause-need
returns-then-number-eq0-clause-need c =
    let p = c.args.problem.now in
    let x = numbers_of c.args.x.now in
    let r = c.args.number in
    let l = c.requires.legal (r / 2) c.requires.arc in
    let even : r % 2 ≡ 0 = c.if-number-eq0.true in
    let e : reduced p x r ≡ slack_of p x (r / 2) = ap (λ b. cond b (slack_of p x (r / 2)) (pos 0)) (eq-eqb (r % 2) 0 even) in
    let s : c.slack.result ≡ slack_of p x (r / 2) = c.slack.ensures.slack in
    omega (arith, ints, s, l, e, c.slack.ensures.small)

pub overflow_cast-result : goal.overflow_cast-result
overflow_cast-result c =
    let l = c.requires.legal (c.args.number / 2) c.requires.arc in
    let up : pos 0 ≤ℤ c.slack.result = omega (arith, ints, c.slack.ensures.slack, l) in
    search (rules, ints, up, c.slack.ensures.small)
