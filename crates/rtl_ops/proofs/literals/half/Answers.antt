use Rattle.std.proofs.Common.{◌-◌, ◌∙◌, arith}
use Rattle.std.proofs.lemmas.Nat.{one_shl}
use Rattle.std.proofs.lemmas.Result.{IfOk-weaker}
use Rattle.rtl_build.proofs.Growing.{same_value}
use Rattle.rtl_ops.proofs.literals.half.Goals as goal

pub returns : goal.returns
returns c =
    let w = c.args.width in
    IfOk-weaker _ _ _ (λ r made. same_value 1 w _ made (omega arith) c.new.ensures.width
    (λ d v h. c.new.ensures.bits ∙ one_shl (w - 1) 128 (omega (
      arith,
      c.requires.some,
      c.requires.at_most,
    )))) c.literal.ensures
