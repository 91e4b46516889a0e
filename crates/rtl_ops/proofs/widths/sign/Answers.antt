use Rattle.std.proofs.Common.{arith}
use Rattle.std.proofs.lemmas.Result.{IfOk-weaker}
use Rattle.rtl_build.proofs.Growing.{same_value}
use Rattle.rtl_ops.proofs.Typed.{type_fits}
use Rattle.rtl_ops.proofs.Signs.{sign_bit}
use Rattle.rtl_ops.proofs.widths.sign.Goals as goal

pub returns : goal.returns
returns c =
    let a = c.args.a in
    let q = c.requires in
    IfOk-weaker _ _ _ (λ r made. same_value 1 1 _ made (omega arith) (omega arith)
    (λ d v h. sign_bit c.args.t (v a.net) a.width q.signed q.a_type q.a.some
    (type_fits c.args.t a (made.keeps a q.a) q.a_type h))) c.part.ensures
