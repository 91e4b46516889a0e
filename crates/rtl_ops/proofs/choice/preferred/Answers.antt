use Rattle.std.proofs.Common.{◌==◌, if◌then◌else◌, ◌∙◌, ap, refl, arith}
use Rattle.std.proofs.lemmas.Result.{IfOk-weaker}
use Rattle.rtl_build.proofs.Growing.{goes_on}
use Rattle.rtl_ops.proofs.Options.{by_bit}
use Rattle.rtl_ops.proofs.choice.preferred.Goals as goal

pub returns : goal.returns
returns c =
    let s = c.args.selector in
    let option = c.args.option in
    let other = c.args.other in
    let number = c.in_ok-number.ensures in
    let meant = c.in_ok-meant.ensures in
    IfOk-weaker _ _ _ (λ r made.
    goes_on 3 option.width _ number (goes_on 2 option.width (λ v. if v s.net == v c.in_ok-number.number.net then v option.net else v other.net) meant made (omega arith) refl
    (λ d v h e. by_bit (v c.in_ok-meant.meant.net) (v s.net == v c.in_ok-number.number.net) (v option.net) (v other.net) e)) (omega arith) refl
    (λ d v h e. ap (λ k. if v s.net == k then v option.net else v other.net) (e ∙ c.new.ensures.bits))) c.choose.ensures
