use Rattle.std.proofs.Common.{◌∙◌, ap, refl, arith, nat_lt}
use Rattle.std.proofs.lemmas.Result.{IfOk-weaker}
use Rattle.rtl_ir.specs.Value.{bit}
use Rattle.rtl_ops.specs.Orders.{rank_of}
use Rattle.rtl_build.proofs.Growing.{goes_on}
use Rattle.rtl_ops.proofs.Typed.{type_fits, type_some}
use Rattle.rtl_ops.proofs.Ranks.{less_test}
use Rattle.rtl_ops.proofs.compare.less.Goals as goal

pub returns : goal.returns
returns c =
    let t = c.args.t in
    let a = c.args.a in
    let b = c.args.b in
    let q = c.requires in
    let left = c.in_ok-left.ensures in
    let right = c.in_ok-right.ensures in
    IfOk-weaker _ _ _ (λ s made.
    goes_on 5 1 _ left (goes_on 3 1 (λ v. bit (nat_lt (v c.in_ok-left.left.net)
    (rank_of t (v b.net)))) right made (omega arith) refl
    (λ d v h e. ap (λ k. bit (nat_lt (v c.in_ok-left.left.net) k)) e)) (omega arith) refl
    (λ d v h e.
    ap (λ k. bit (nat_lt k (rank_of t (v b.net)))) e
    ∙ less_test t (v a.net) (v b.net) (type_some t a q.a q.a_type)
    (type_fits t a (made.keeps a (right.keeps a (left.keeps a q.a))) q.a_type h)
    (type_fits t b (made.keeps b (right.keeps b
    (left.keeps b q.b))) q.b_type h))) c.binary.ensures
