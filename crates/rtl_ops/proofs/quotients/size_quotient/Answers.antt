use Rattle.std.proofs.Common.{ap, unsigned_abs, refl, arith}
use Rattle.std.proofs.lemmas.Result.{IfOk-weaker}
use Rattle.rtl_ir.specs.Value.{quotient}
use Rattle.fix_arith.specs.Values.{value_of}
use Rattle.rtl_build.proofs.Growing.{goes_on}
use Rattle.rtl_ops.proofs.quotients.size_quotient.Goals as goal

pub returns : goal.returns
returns c =
    let t = c.args.t in
    let a = c.args.a in
    let b = c.args.b in
    let left = c.in_ok-left.left in
    IfOk-weaker _ _ _ (λ r made.
    goes_on 9 a.width _ c.in_ok-left.ensures (
    goes_on 5 a.width (λ v. quotient (v left.net) (unsigned_abs (value_of t (v b.net)))) c.in_ok-right.ensures made (omega arith) c.in_ok-left.ensures.width
    (λ d v h e. ap (quotient (v left.net)) e))
    (omega arith) refl (λ d v h e. ap (λ n. quotient n (unsigned_abs (value_of t (v b.net)))) e)) c.binary.ensures
