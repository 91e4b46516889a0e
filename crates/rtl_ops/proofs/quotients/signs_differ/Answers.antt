use Rattle.std.proofs.Common.{ap, bit_xor, refl, arith}
use Rattle.std.proofs.lemmas.Result.{IfOk-weaker}
use Rattle.rtl_ir.specs.Value.{bit}
use Rattle.rtl_ops.specs.Orders.{is_below_zero}
use Rattle.rtl_build.proofs.Growing.{goes_on}
use Rattle.rtl_ops.proofs.Signs.{xor_of_bits}
use Rattle.rtl_ops.proofs.quotients.signs_differ.Goals as goal

pub returns : goal.returns
returns c =
    let t = c.args.t in
    let a = c.args.a in
    let b = c.args.b in
    let left = c.in_ok-left.left in
    IfOk-weaker _ _ _ (λ r made.
    goes_on 3 1 _ c.in_ok-left.ensures (
    goes_on 2 1 (λ v. bit_xor (v left.net) (bit (is_below_zero t (v b.net)))) c.in_ok-right.ensures made (omega arith) c.in_ok-left.ensures.width
    (λ d v h e. ap (bit_xor (v left.net)) e))
    (omega arith) refl (λ d v h e. xor_of_bits (is_below_zero t (v a.net)) (is_below_zero t (v b.net)) (v left.net) _ e refl)) c.binary.ensures
