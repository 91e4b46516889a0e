use Rattle.std.proofs.Common.{◌<◌, ◌-◌, ◌^◌, ◌∙◌, ap, sym, subst, refl, arith}
use Rattle.std.proofs.lemmas.Result.{IfOk-weaker}
use Rattle.fix_arith.specs.Types.{width_of}
use Rattle.fix_arith.specs.Values.{value_of, reduced}
use Rattle.rtl_build.proofs.Growing.{same_value, goes_on}
use Rattle.rtl_ops.proofs.Typed.{type_fits}
use Rattle.rtl_ops.proofs.Extensions.{floor_far, high_value, high_part}
use Rattle.rtl_ops.proofs.widths.floor.Goals as goal

pub returns-then-a-bits : goal.returns-then-a-bits
returns-then-a-bits c =
    let a = c.args.a in
    let t = c.args.t in
    let q = c.requires in
    IfOk-weaker _ _ _ (λ r made. same_value 4 c.args.width _ made (omega arith) refl (λ d v h.
    ap (reduced c.args.width) (floor_far t (v a.net) c.args.bits (omega (arith, q.a_type, c.if-a-bits.true)) (type_fits t a (made.keeps a q.a) q.a_type h)))) c.sign_bits.ensures

pub returns : goal.returns
returns c =
    let a = c.args.a in
    let t = c.args.t in
    let k = c.args.bits in
    let u = c.whole_type.result in
    let q = c.requires in
    let high = c.in_ok-high.ensures in
    IfOk-weaker _ _ _ (λ r made. goes_on 4 c.args.width _ high made (omega arith) refl (λ d v h e.
    let fits = type_fits t a (made.keeps a (high.keeps a q.a)) q.a_type h in
    let less : k < width_of t = omega (arith, q.a_type, c.if-a-bits.false) in
    ap (λ n. reduced c.args.width (value_of u n)) (e ∙ high_part (v a.net) a.width k (omega (arith, c.if-a-bits.false)) (subst (λ w. v a.net < 2 ^ w) (sym q.a_type) fits))
    ∙ ap (reduced c.args.width) (high_value t u (v a.net) k less fits (c.whole_type.ensures.width ∙ ap (λ w. w - k) q.a_type) c.whole_type.ensures.signed))) c.resized.ensures
