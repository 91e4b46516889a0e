use Rattle.std.proofs.Common.{◌==◌, ◌&&◌, ◌-◌, ◌%◌, ◌^◌, ◌∙◌, ap, nat_lt, bit_or, refl, arith}
use Rattle.std.proofs.lemmas.Result.{IfOk-weaker}
use Rattle.rtl_ir.specs.Value.{bit}
use Rattle.fix_arith.specs.Table.{bit_of}
use Rattle.rtl_build.proofs.Growing.{goes_on}
use Rattle.rtl_ops.proofs.Carries.{left_of, even_test}
use Rattle.rtl_ops.proofs.rounding.up_to_even.Goals as goal

pub returns : goal.returns
returns c =
    let a = c.args.a in
    let floor = c.args.floor in
    let k = c.args.bits in
    let left = c.in_ok-left.left in
    let half = c.in_ok-half.half in
    let above = c.in_ok-above.above in
    let number = 2 ^ (k - 1) in
    IfOk-weaker _ _ _ (λ r made.
    goes_on 7 1 _ c.in_ok-left.ensures (
    goes_on 6 1 (λ v. bit_or (bit (nat_lt number (v left.net))) (bit_of (v left.net == number && v floor.net % 2 == 1))) c.in_ok-half.ensures (
    goes_on 5 1 (λ v. bit_or (bit (nat_lt (v half.net) (v left.net))) (bit_of (v left.net == v half.net && v floor.net % 2 == 1))) c.in_ok-above.ensures (
    goes_on 4 1 (λ v. bit_or (v above.net) (bit_of (v left.net == v half.net && v floor.net % 2 == 1))) c.in_ok-tie.ensures made (omega arith) c.in_ok-above.ensures.width
    (λ d v h e. ap (bit_or (v above.net)) e))
    (omega arith) refl (λ d v h e. ap (λ n. bit_or n (bit_of (v left.net == v half.net && v floor.net % 2 == 1))) e))
    (omega arith) refl (λ d v h e. ap (λ n. bit_or (bit (nat_lt n (v left.net))) (bit_of (v left.net == n && v floor.net % 2 == 1))) e))
    (omega arith) refl (λ d v h e.
    ap (λ n. bit_or (bit (nat_lt number n)) (bit_of (n == number && v floor.net % 2 == 1))) (e ∙ left_of (v a.net) k c.requires.some)
    ∙ even_test k (v a.net) _ _ (v floor.net % 2 == 1) c.requires.some refl refl)) c.binary-2.ensures
