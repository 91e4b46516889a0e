use Rattle.std.proofs.Common.{refl, arith, ◌∙◌}
use Rattle.std.proofs.lemmas.Result.{IfOk-weaker}
use Rattle.rtl_build.proofs.Growing.{same_value}
use Rattle.kernel_control.proofs.Bits.{after, past_is}
use Rattle.kernel_control.proofs.activity.past.Goals as goal

pub returns : goal.returns
returns c =
    let start = c.in_ok-start.ensures in
    let end = c.in_ok-end.ensures in
    let before = c.in_ok-before.ensures in
    IfOk-weaker _ _ _ (λ s made. same_value 4 1 _ (after start (after end (after before made))) (omega arith) before.width (λ d v h.
    let h3 = made.before d v h in
    let h2 = before.before d v h3 in
    let h1 = end.before d v h2 in
    past_is _ _ (v c.in_ok-end.end.net) (v c.in_ok-start.start.net) (v c.args.position.net)
    (v c.args.ticks.net) c.args.time c.in_ok-before.before.width c.in_ok-start.start.width
    refl before.width (before.value d v h3) (end.value d v h2) (start.width ∙ c.new.ensures.width) (start.value d v h1 ∙ c.new.ensures.bits))) c.not.ensures
