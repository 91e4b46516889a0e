use Rattle.std.proofs.Common.{◌^◌, ◌∙◌, ap, arith, ◌*ℤ◌}
use Rattle.std.proofs.lemmas.Result.{IfOk-weaker}
use Rattle.fix_arith.specs.Types.{width_of}
use Rattle.fix_arith.specs.Values.{value_of, reduced}
use Rattle.fix_arith.specs.Rounding.{rounded}
use Rattle.rtl_build.proofs.Growing.{goes_on}
use Rattle.rtl_ops.proofs.Typed.{type_fits, type_some}
use Rattle.rtl_ops.proofs.Multiples.{product_value}
use Rattle.rtl_ops.proofs.products.product.Goals as goal

pub returns : goal.returns
returns c =
    let t = c.args.t in
    let a = c.args.a in
    let b = c.args.b in
    let q = c.requires in
    let d = 2 ^ c.args.bits in
    let mode = c.args.mode in
    let u = c.whole_type-wide.result in
    let first = c.in_ok-exact.ensures in
    IfOk-weaker _ _ _ (λ r made. goes_on 22 (width_of t) _ first made (omega arith) q.a_type (λ k v h e.
    ap (λ n. reduced a.width (rounded mode (value_of u n) d)) e
    ∙ ap (λ z. reduced a.width (rounded mode z d)) (product_value t u (v a.net) (v b.net) c.whole_type-wide.ensures.signed (type_some t a q.a q.a_type) (c.whole_type-wide.ensures.width ∙ first.width)
    (type_fits t a (made.keeps a (first.keeps a q.a)) q.a_type h) (type_fits t b (made.keeps b (first.keeps b q.b)) q.b_type h))
    ∙ ap (λ w. reduced w (rounded mode (value_of t (v a.net) *ℤ value_of t (v b.net)) d)) q.a_type)) c.rounded.ensures
