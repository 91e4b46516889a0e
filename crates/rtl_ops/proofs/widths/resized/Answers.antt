use Rattle.std.proofs.Common.{◌≡◌, ◌+◌, ◌-◌, ◌∙◌, ap, sym, refl, arith}
use Rattle.std.proofs.lemmas.Result.{IfOk-weaker}
use Rattle.fix_arith.specs.Types.{width_of}
use Rattle.fix_arith.specs.Values.{value_of, reduced}
use Rattle.fix_arith.proofs.Residues.{reduced-value}
use Rattle.rtl_build.proofs.Growing.{same_value, goes_on, as_it_stands}
use Rattle.rtl_ops.proofs.Typed.{type_fits}
use Rattle.rtl_ops.proofs.Extensions.{low_part, extended}
use Rattle.rtl_ops.proofs.widths.resized.Goals as goal

pub returns-then-width-a : goal.returns-then-width-a
returns-then-width-a c =
    let a = c.args.a in
    let t = c.args.t in
    let q = c.requires in
    let w = c.args.width in
    let is : w ≡ width_of t = c.if-width-a.true ∙ q.a_type in
    same_value 3 w _ (as_it_stands a 3 (λ v. reduced w (value_of t (v a.net))) q.a
    (λ d v h. sym (ap (λ k. reduced k (value_of t (v a.net))) is ∙ reduced-value t (v a.net)
    (type_fits t a q.a q.a_type h)))) (omega arith) (sym c.if-width-a.true) (λ d v h. refl)

pub returns-then-width-a-2 : goal.returns-then-width-a-2
returns-then-width-a-2 c =
    let a = c.args.a in
    let q = c.requires in
    IfOk-weaker _ _ _ (λ r made. same_value 3 c.args.width _ made (omega arith) (omega (
      arith,
      q.some,
    )) (λ d v h. low_part c.args.t (v a.net) c.args.width q.some (omega (
      arith,
      q.a_type,
      c.if-width-a-2.true,
    )))) c.part.ensures

pub returns : goal.returns
returns c =
    let a = c.args.a in
    let t = c.args.t in
    let q = c.requires in
    let w = c.args.width in
    let high = c.in_ok-high.ensures in
    let sum : w - a.width + a.width ≡ w = omega (arith, c.if-width-a-2.false) in
    IfOk-weaker _ _ _ (λ r made. goes_on 3 w _ high made (omega arith) (ap (λ k. k + a.width) high.width ∙ sum) (λ d v h e.
    extended t (v a.net) (v c.in_ok-high.high.net) a.width (w - a.width) q.a_type
    (type_fits t a (made.keeps a (high.keeps a q.a)) q.a_type h) e ∙ ap
    (λ k. reduced k (value_of t (v a.net))) sum)) c.concat.ensures
