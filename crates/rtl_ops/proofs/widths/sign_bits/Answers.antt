use Rattle.std.proofs.Common.{◌∙◌, ap, refl, arith}
use Rattle.std.proofs.lemmas.Result.{IfOk-weaker}
use Rattle.rtl_ir.specs.Value.{repeated}
use Rattle.rtl_build.proofs.Growing.{same_value, goes_on}
use Rattle.rtl_ops.proofs.Typed.{type_fits}
use Rattle.rtl_ops.proofs.Extensions.{unsigned_bits, signed_bits}
use Rattle.rtl_ops.proofs.widths.sign_bits.Goals as goal

pub returns-then-not-is_signed : goal.returns-then-not-is_signed
returns-then-not-is_signed c =
    let a = c.args.a in
    let q = c.requires in
    IfOk-weaker _ _ _ (λ r made. same_value 2 c.args.width _ made (omega arith) c.new.ensures.width (λ d v h.
    c.new.ensures.bits ∙ unsigned_bits c.args.t (v a.net) c.args.width (cc) (type_fits c.args.t a (made.keeps a q.a) q.a_type h))) c.literal.ensures

pub returns : goal.returns
returns c =
    let a = c.args.a in
    let q = c.requires in
    let sign = c.in_ok-sign.ensures in
    IfOk-weaker _ _ _ (λ r made. goes_on 2 c.args.width _ sign made (omega arith) refl (λ d v h e.
    ap (repeated c.args.width 1) e ∙ signed_bits c.args.t (v a.net) c.args.width (type_fits c.args.t a (made.keeps a (sign.keeps a q.a)) q.a_type h))) c.repeat.ensures
