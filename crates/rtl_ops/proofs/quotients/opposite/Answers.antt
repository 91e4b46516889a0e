use Rattle.std.proofs.Common.{◌+◌, ◌-◌, ◌%◌, ◌^◌, ◌∙◌, ap, refl, arith}
use Rattle.std.proofs.lemmas.Result.{IfOk-weaker}
use Rattle.rtl_build.proofs.Growing.{goes_on}
use Rattle.rtl_ops.proofs.quotients.opposite.Goals as goal

pub returns : goal.returns
returns c =
    let a = c.args.a in
    let zero = c.in_ok-zero.zero in
    let wide = c.in_ok-zero.ensures.width ∙ c.new.ensures.width in
    IfOk-weaker _ _ _ (λ r made. goes_on 2 a.width _ c.in_ok-zero.ensures made
    (omega arith) wide (λ d v h e. ap (λ k. (v zero.net +
    (2 ^ k - v a.net)) % 2 ^ k) wide ∙ ap (λ n. (n + (2 ^ a.width - v a.net)) % 2 ^ a.width)
    (e ∙ c.new.ensures.bits))) c.binary.ensures
