use Rattle.std.proofs.Common.{◌+◌, ◌*◌, ◌^◌, ◌∙◌, ap, refl, arith}
use Rattle.std.proofs.lemmas.Result.{IfOk-weaker}
use Rattle.fix_arith.specs.Values.{value_of}
use Rattle.rtl_build.proofs.Growing.{same_value, goes_on}
use Rattle.rtl_ops.proofs.Carries.{no_shift, far_shift, near_shift}
use Rattle.rtl_ops.proofs.rounding.shifted_left.Goals as goal

pub returns-then-bits-eq0 : goal.returns-then-bits-eq0
returns-then-bits-eq0 c = IfOk-weaker _ _ _ (λ r made. same_value 6 c.args.width _ made (omega arith) refl (λ d v h. no_shift c.args.width c.args.bits _ c.if-bits-eq0.true)) c.resized.ensures

pub returns-then-width-bits : goal.returns-then-width-bits
returns-then-width-bits c = IfOk-weaker _ _ _ (λ r made. same_value 6 c.args.width _ made
    (omega arith) c.new.ensures.width
    (λ d v h. c.new.ensures.bits ∙ far_shift c.args.width c.args.bits _ c.if-width-bits.true))
    c.literal.ensures

pub returns : goal.returns
returns c =
    let a = c.args.a in
    let w = c.args.width in
    let k = c.args.bits in
    let high = c.in_ok-high.ensures in
    let low = c.in_ok-low.ensures in
    let within = c.if-width-bits.false in
    let zero = c.new-2.result.bits in
    let size = low.width ∙ c.new-2.ensures.width in
    IfOk-weaker _ _ _ (λ r made.
    goes_on 6 w _ high (goes_on 3 w (λ v. v c.in_ok-high.high.net * 2 ^ k + zero) low made (omega arith) (omega (arith, high.width, size, within))
    (λ d v h e. ap (λ n. v c.in_ok-high.high.net * 2 ^ c.in_ok-low.low.width + n) e ∙ ap (λ j. v c.in_ok-high.high.net * 2 ^ j + zero) size)) (omega arith) refl
    (λ d v h e. near_shift w k _ zero (value_of c.args.t (v a.net)) (omega arith) e c.new-2.ensures.bits)) c.concat.ensures
