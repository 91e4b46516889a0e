use Rattle.std.proofs.Common.{◌≡◌, ◌==◌, ◌+◌, ◌-◌, ◌%◌, ◌^◌, ◌∙◌, if◌then◌else◌, ap, refl, arith}
use Rattle.std.proofs.lemmas.Result.{IfOk-weaker}
use Rattle.rtl_ir.specs.Value.{bit}
use Rattle.fix_arith.specs.Types.{width_of}
use Rattle.rtl_ops.specs.Orders.{is_below_zero, differ}
use Rattle.rtl_build.proofs.Growing.{goes_on, goes_on_where}
use Rattle.rtl_ops.proofs.Typed.{type_fits, type_some}
use Rattle.rtl_ops.proofs.Signs.{signed_quotient_test}
use Rattle.rtl_ops.proofs.quotients.signed_quotient.Goals as goal

pub returns : goal.returns
returns c =
    let t = c.args.t in
    let a = c.args.a in
    let b = c.args.b in
    let q = c.requires in
    let quot = c.in_ok-quotient.quotient in
    let turned = c.in_ok-opposite.opposite in
    let first = c.in_ok-quotient.ensures in
    let second = c.in_ok-opposite.ensures in
    let third = c.in_ok-negative.ensures in
    let w = quot.width in
    let size : w ≡ width_of t = first.width ∙ q.a_type in
    IfOk-weaker _ _ _ (λ r made.
    goes_on_where 15 (width_of t) _ first (
    goes_on 6 w (λ v. if bit (differ (is_below_zero t (v a.net)) (is_below_zero t (v b.net))) == 1 then (0 + (2 ^ w - v quot.net)) % 2 ^ w else v quot.net) second (
    goes_on 4 w (λ v. if bit (differ (is_below_zero t (v a.net)) (is_below_zero t (v b.net))) == 1 then v turned.net else v quot.net) third made (omega arith) second.width
    (λ d v h e. ap (λ n. if n == 1 then v turned.net else v quot.net) e))
    (omega arith) refl
    (λ d v h e. ap (λ n. if bit (differ (is_below_zero t (v a.net)) (is_below_zero t (v b.net))) == 1 then n else v quot.net) e))
    (omega arith) size (λ d v h e.
    signed_quotient_test t (v a.net) (v b.net) (v quot.net) _ w q.signed (type_some t a q.a q.a_type)
    (type_fits t a (made.keeps a (third.keeps a (second.keeps a (first.keeps a q.a)))) q.a_type h)
    (type_fits t b (made.keeps b (third.keeps b (second.keeps b (first.keeps b q.b)))) q.b_type h) size e refl)) c.choose.ensures
