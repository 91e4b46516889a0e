use Rattle.std.proofs.Common.{◌∙◌, ◌<◌, length, sym, subst, arith, below_more}
use Rattle.kernel_words.specs.Streams.{IsGivenAt}
use Rattle.kernel_words.proofs.given.is_given.Goals as goal

pub returns-then-len-count-clause-no : goal.returns-then-len-count-clause-no
returns-then-len-count-clause-no c = λ e g.
    let same = g.scalars in
    let len = c.len.ensures in
    let count = c.count.ensures in
    c.if-len-count.true (omega (arith, same, len, count))

pub returns-then-len-count-2-clause-no : goal.returns-then-len-count-2-clause-no
returns-then-len-count-2-clause-no c = λ e g.
    let same = g.sources in
    let len = c.len-2.ensures in
    let count = c.count-2.ensures in
    c.if-len-count-2.true (omega (arith, same, len, count))

pub returns-then-not-is_given_at-clause-no : goal.returns-then-not-is_given_at-clause-no
returns-then-not-is_given_at-clause-no c = λ e g.
    let test = c.loop-number-test.true in
    let count = c.count-number-end.ensures in
    let at = c.new.ensures in
    let inside : c.new.result < length c.args.kernel.now.nodes = omega (arith, test, count, at) in
    c.is_given_at.ensures.no c.if-not-is_given_at.true
    (record { scalar = g.scalar c.new.result inside; word = λ k x. g.word c.new.result k x inside })

pub loop-number-preserved : goal.loop-number-preserved
loop-number-preserved c =
    below_more _ _ c.loop-number.invariant
    (subst (IsGivenAt c.args.kernel.now.nodes c.args.run.now) c.new.ensures (c.is_given_at.ensures.yes c.if-not-is_given_at.false))

pub returns-clause-yes : goal.returns-clause-yes
returns-clause-yes c = λ e.
    let done = c.loop-number-test.false in
    let count = c.count-number-end.ensures in
    let some = c.if-len-count.false in
    let len = c.len.ensures in
    let first = c.count.ensures in
    let again = c.if-len-count-2.false in
    let len2 = c.len-2.ensures in
    let second = c.count-2.ensures in
    record {
      scalars = sym len ∙ some ∙ first;
      sources = sym len2 ∙ again ∙ second;
      scalar = λ n h. (c.loop-number.invariant n (omega (arith, h, done, count))).scalar;
      word = λ n k x h. (c.loop-number.invariant n (omega (arith, h, done, count))).word k x;
    }
