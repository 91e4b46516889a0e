use Rattle.std.proofs.Common.{◌≡◌, ◌∙◌, false, refl, sym, subst, arith, below_more}
use Rattle.kernel_words.specs.Streams.{cell_at}
use Rattle.kernel_words.specs.Filling.{is_open}
use Rattle.kernel_words.proofs.settle.open_operand.Goals as goal

pub returns-then-tick-ticks-clause-none : goal.returns-then-tick-ticks-clause-none
returns-then-tick-ticks-clause-none c = λ i l h.
    let past = c.if-tick-ticks.true in
    let ticks = c.ticks.ensures in
    absurd (omega (arith, h, past, ticks))

pub returns-then-is_open-clause-some : goal.returns-then-is_open-clause-some
returns-then-is_open-clause-some c =
    let test = c.loop-number-test.true in
    let last = c.loop-number.auto.number-end in
    let count = c.operand_count-number-end.ensures in
    let inside = c.operand.ensures.inside in
    let number = c.number.ensures in
    let ticks = c.ticks.ensures in
    let tick = c.if-tick-ticks.false in
    record {
      operand = c.loop-number.number;
      within = omega (arith, test, last, count);
      node = c.number.ensures ∙ c.operand.ensures.is;
      tick = refl;
      inside = record { node = omega (arith, inside, number); tick = omega (arith, ticks, tick) };
      unknown = sym c.is_open.ensures ∙ c.if-is_open.true;
    }

pub loop-number-preserved : goal.loop-number-preserved
loop-number-preserved c =
    below_more _ _ c.loop-number.invariant (λ l.
    subst (λ n. is_open (cell_at c.args.streams.now n c.args.tick) ≡ false) (c.number.ensures ∙ c.operand.ensures.is)
    (sym c.is_open.ensures ∙ c.if-is_open.false))

pub returns-clause-none : goal.returns-clause-none
returns-clause-none c = λ i l h.
    let test = c.loop-number-test.false in
    let last = c.loop-number.auto.number-end in
    let count = c.operand_count-number-end.ensures in
    c.loop-number.invariant i (omega (arith, l, test, last, count)) l
