use Rattle.std.proofs.Common.{refl, arith}
use Rattle.std.proofs.lemmas.Result.{IfOk-weaker}
use Rattle.rtl_build.proofs.Growing.{same_value}
use Rattle.rtl_ops.proofs.Typed.{type_fits, type_some}
use Rattle.rtl_ops.proofs.Ranks.{equal_test}
use Rattle.rtl_ops.proofs.compare.equal.Goals as goal

pub returns : goal.returns
returns c =
    let t = c.args.t in
    let a = c.args.a in
    let b = c.args.b in
    let q = c.requires in
    IfOk-weaker _ _ _ (λ s made. same_value 1 1 _ made (omega arith) refl
    (λ d v h. equal_test t (v a.net) (v b.net) (type_some t a q.a q.a_type)
    (type_fits t a (made.keeps a q.a) q.a_type h) (type_fits t b
    (made.keeps b q.b) q.b_type h))) c.binary.ensures
