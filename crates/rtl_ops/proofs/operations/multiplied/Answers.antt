use Rattle.std.proofs.Common.{◌∙◌, ap, refl, arith}
use Rattle.std.proofs.lemmas.Result.{IfOk-weaker}
use Rattle.fix_arith.specs.Types.{width_of}
use Rattle.fix_arith.specs.Values.{value_of, reduced}
use Rattle.fix_arith.proofs.Residues.{product_bits}
use Rattle.rtl_build.proofs.Growing.{made_where}
use Rattle.rtl_ops.proofs.Rows.{whole_product}
use Rattle.rtl_ops.proofs.operations.multiplied.Goals as goal

pub returns-in-Fix : goal.returns-in-Fix
returns-in-Fix c = rw c.in-Fix.is (IfOk-weaker _ _ _ (λ r made. made_where 30 _ _ made (omega arith) refl (λ d v h. refl)) c.product.ensures)

pub returns-in_default : goal.returns-in_default
returns-in_default c =
    let t = c.args.t in
    let a = c.args.a in
    let b = c.args.b in
    IfOk-weaker _ _ _ (λ r made. made_where 30 (width_of t) _ made (omega arith) c.requires.a_type (λ d v h.
    product_bits t (v a.net) (v b.net) a.width _ c.requires.a_type refl
    ∙ ap (reduced (width_of t)) (whole_product c.args.mode t (value_of t (v a.net)) (value_of t (v b.net)) (λ w f s. c.in_default.not-Fix _ _ _)))) c.binary.ensures
