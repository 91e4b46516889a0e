use Rattle.std.proofs.Common.{◌≡◌, ◌*◌, ◌%◌, ◌^◌, ◌∙◌, ap, refl, arith, ◌*ℤ◌}
use Rattle.std.proofs.lemmas.Result.{IfOk-weaker}
use Rattle.fix_arith.specs.Types.{width_of}
use Rattle.fix_arith.specs.Values.{value_of, reduced}
use Rattle.rtl_build.proofs.Growing.{goes_on}
use Rattle.rtl_ops.proofs.Multiples.{product_of_words}
use Rattle.rtl_ops.proofs.products.exact_product.Goals as goal

pub returns : goal.returns
returns c =
    let t = c.args.t in
    let a = c.args.a in
    let b = c.args.b in
    let w = 2 * a.width in
    let left = c.in_ok-left.left in
    let twice : w ≡ 2 * width_of t = ap (λ k. 2 * k) c.requires.a_type in
    IfOk-weaker _ _ _ (λ r made.
    goes_on 7 (2 * width_of t) _ c.in_ok-left.ensures (
    goes_on 4 w (λ v. (v left.net * reduced w (value_of t (v b.net))) % 2 ^ w) c.in_ok-right.ensures made (omega arith) c.in_ok-left.ensures.width
    (λ d v h e. ap (λ j. (v left.net * v c.in_ok-right.right.net) % 2 ^ j) c.in_ok-left.ensures.width ∙ ap (λ n. (v left.net * n) % 2 ^ w) e))
    (omega arith) twice (λ d v h e.
    ap (λ n. (n * reduced w (value_of t (v b.net))) % 2 ^ w) e
    ∙ product_of_words w (value_of t (v a.net)) (value_of t (v b.net))
    ∙ ap (λ k. reduced k (value_of t (v a.net) *ℤ value_of t (v b.net))) twice)) c.binary.ensures
