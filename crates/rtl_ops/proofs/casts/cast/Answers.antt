use Rattle.std.proofs.Common.{arith}
use Rattle.std.proofs.lemmas.Result.{IfOk-weaker}
use Rattle.rtl_build.proofs.Growing.{same_value}
use Rattle.rtl_ops.proofs.Casting.{cast_more, cast_less}
use Rattle.rtl_ops.proofs.casts.cast.Goals as goal

pub returns-then-old-new : goal.returns-then-old-new
returns-then-old-new c =
    IfOk-weaker _ _ _ (λ r made. same_value 15 _ _ made (omega arith) c.width.ensures (λ d v h.
    cast_more c.args.mode c.args.from c.args.to
    (v c.args.a.net) c.frac-old.result c.frac-new.result c.width.result c.frac-old.ensures
    c.frac-new.ensures c.width.ensures c.if-old-new.true)) c.shifted_left.ensures

pub returns-else-old-new : goal.returns-else-old-new
returns-else-old-new c =
    IfOk-weaker _ _ _ (λ r made. same_value 15 _ _ made (omega arith) c.width-else-old-new.ensures (λ d v h.
    cast_less c.args.mode c.args.from c.args.to
    (v c.args.a.net) c.frac-old.result c.frac-new.result c.width-else-old-new.result
    c.frac-old.ensures c.frac-new.ensures c.width-else-old-new.ensures (omega (
      arith,
      c.if-old-new.false,
    )))) c.rounded.ensures
