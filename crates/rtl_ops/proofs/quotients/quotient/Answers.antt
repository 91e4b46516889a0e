use Rattle.std.proofs.Common.{arith}
use Rattle.std.proofs.lemmas.Result.{IfOk-weaker}
use Rattle.rtl_build.proofs.Growing.{made_where}
use Rattle.rtl_ops.proofs.Typed.{type_fits}
use Rattle.rtl_ops.proofs.Signs.{unsigned_quotient_test}
use Rattle.rtl_ops.proofs.quotients.quotient.Goals as goal

pub returns-else-is_signed : goal.returns-else-is_signed
returns-else-is_signed c =
    let t = c.args.t in
    let a = c.args.a in
    let q = c.requires in
    IfOk-weaker _ _ _ (λ r made. made_where 15 _ _ made (omega arith) q.a_type (λ d v h. unsigned_quotient_test t (v a.net) _ (cc) (type_fits t a (made.keeps a q.a) q.a_type h))) c.binary.ensures
