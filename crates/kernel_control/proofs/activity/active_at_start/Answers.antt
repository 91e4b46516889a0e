use Rattle.std.proofs.Common.{refl, arith}
use Rattle.std.proofs.lemmas.Result.{IfOk-weaker}
use Rattle.rtl_build.proofs.Growing.{same_value, word_fits}
use Rattle.kernel_control.proofs.Bits.{begun_at_start}
use Rattle.kernel_control.proofs.activity.active_at_start.Goals as goal

pub returns : goal.returns
returns c =
    IfOk-weaker _ _ _ (λ s made. same_value 6 1 _ made (omega arith) refl (λ d v h.
    let h1 = made.before d v h in
    begun_at_start (v c.args.position.net) (v c.args.ticks.net) c.args.ticks.width c.requires.ticks.width
    (word_fits c.args.ticks c.requires.ticks.signal h1))) c.binary.ensures
