use Rattle.std.proofs.Common.{◌∙◌, arith}
use Rattle.std.proofs.lemmas.Result.{IfOk-weaker}
use Rattle.rtl_build.proofs.Growing.{goes_on}
use Rattle.rtl_ops.proofs.Typed.{type_fits, type_some}
use Rattle.rtl_ops.proofs.Ranks.{turned_bit, unequal_test}
use Rattle.rtl_ops.proofs.compare.unequal.Goals as goal

pub returns : goal.returns
returns c =
    let t = c.args.t in
    let a = c.args.a in
    let b = c.args.b in
    let q = c.requires in
    let first = c.in_ok-same.ensures in
    IfOk-weaker _ _ _ (λ s made. goes_on 2 1 _ first made (omega arith) first.width (λ d v h e.
    turned_bit c.in_ok-same.same.width _ _ first.width e
    ∙ unequal_test t (v a.net) (v b.net) (type_some t a q.a q.a_type)
    (type_fits t a (made.keeps a (first.keeps a q.a)) q.a_type h)
    (type_fits t b (made.keeps b (first.keeps b q.b)) q.b_type h))) c.not.ensures
