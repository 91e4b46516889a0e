use Rattle.std.proofs.Common.{arith, ap, ◌∙◌}
use Rattle.counter_chains.specs.Steps.{stepped}
use Rattle.counter_chains.proofs.Suffixes.{before, part_is, one_before, at_last, not_last, all_stepped}
use Rattle.counter_chains.proofs.Ticks.{steps}
use Rattle.counter_chains.proofs.stepping.step.Goals as goal

pub overflow_sub-digit : goal.overflow_sub-digit
overflow_sub-digit c =
    let h = before _ _ _ _ c.requires.digits c.requires.state c.loop-place-test.true
    c.loop-place.auto.place c.loop-place.invariant.low_is in
    let i = h.within in let j = h.some in omega arith

pub overflow_add-low : goal.overflow_add-low
overflow_add-low c =
    let h = before _ _ _ _ c.requires.digits c.requires.state c.loop-place-test.true
    c.loop-place.auto.place c.loop-place.invariant.low_is in
    let i = h.within in let j = h.some in omega arith

pub part-requires-clause-within : goal.part-requires-clause-within
part-requires-clause-within c =
    let h = before _ _ _ _ c.requires.digits c.requires.state c.loop-place-test.true
    c.loop-place.auto.place c.loop-place.invariant.low_is in
    let i = h.within in let j = h.some in omega arith

pub overflow_shl-next : goal.overflow_shl-next
overflow_shl-next c =
    let h = before _ _ _ _ c.requires.digits c.requires.state c.loop-place-test.true
    c.loop-place.auto.place c.loop-place.invariant.low_is in
    let i = h.within in let j = h.some in omega arith

pub overflow_add-low-in-loop-place : goal.overflow_add-low-in-loop-place
overflow_add-low-in-loop-place c =
    let h = before _ _ _ _ c.requires.digits c.requires.state c.loop-place-test.true
    c.loop-place.auto.place c.loop-place.invariant.low_is in
    let i = h.within in let j = h.some in omega arith

pub step_digit-requires-clause-digit : goal.step_digit-requires-clause-digit
step_digit-requires-clause-digit c =
    let h = before _ _ _ _ c.requires.digits c.requires.state c.loop-place-test.true
    c.loop-place.auto.place c.loop-place.invariant.low_is in
    h.digit

pub step_digit-requires-clause-value : goal.step_digit-requires-clause-value
step_digit-requires-clause-value c =
    let h = before _ _ _ _ c.requires.digits c.requires.state c.loop-place-test.true
    c.loop-place.auto.place c.loop-place.invariant.low_is in
    rw (
      c.bits-value.ensures,
      c.part.ensures.bits,
      part_is _ _ _ h.some,
    ) h.value

pub loop-place-preserved-then-value-digit : goal.loop-place-preserved-then-value-digit
loop-place-preserved-then-value-digit c =
    let h = before _ _ _ _ c.requires.digits c.requires.state c.loop-place-test.true
    c.loop-place.auto.place c.loop-place.invariant.low_is in
    one_before _ _ _ _ _ h (omega arith) _ _ _ _ _ c.loop-place.invariant
    (c.bits-value.ensures ∙ c.part.ensures.bits ∙ part_is _ _ _ h.some)
    c.step_digit.ensures.next c.step_digit.ensures.fits
    (at_last _ _ _ c.if-value-digit.true)

pub loop-place-preserved : goal.loop-place-preserved
loop-place-preserved c =
    let h = before _ _ _ _ c.requires.digits c.requires.state c.loop-place-test.true
    c.loop-place.auto.place c.loop-place.invariant.low_is in
    one_before _ _ _ _ _ h (omega arith) _ _ _ _ _ c.loop-place.invariant
    (c.bits-value.ensures ∙ c.part.ensures.bits ∙ part_is _ _ _ h.some)
    c.step_digit.ensures.next c.step_digit.ensures.fits
    (not_last _ _ _ c.if-value-digit.false)

pub returns-clause-next : goal.returns-clause-next
returns-clause-next c =
    c.new.ensures.bits
    ∙ all_stepped _ _ _ _ _ _ c.requires.digits c.requires.state c.loop-place-test.false
    c.loop-place.invariant

pub returns-clause-ticks : goal.returns-clause-ticks
returns-clause-ticks c = λ t e.
    returns-clause-next c ∙ ap (stepped c.args.digits.now) e
    ∙ steps c.args.digits.now t c.requires.digits
