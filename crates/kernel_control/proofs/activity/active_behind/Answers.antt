use Rattle.std.proofs.Common.{refl, arith, ◌∙◌}
use Rattle.std.proofs.lemmas.Result.{IfOk-weaker}
use Rattle.rtl_build.proofs.Growing.{same_value}
use Rattle.kernel_control.proofs.Bits.{after, active_is}
use Rattle.kernel_control.proofs.activity.active_behind.Goals as goal

pub returns : goal.returns
returns c =
    let start = c.in_ok-start.ensures in
    let early = c.in_ok-early.ensures in
    let begun = c.in_ok-begun.ensures in
    let end = c.in_ok-end.ensures in
    let before = c.in_ok-before.ensures in
    IfOk-weaker _ _ _ (λ s made. same_value 6 1 _ (after start (after early (after begun (after end (after before made))))) (omega arith)
    (begun.width ∙ early.width) (λ d v h.
    let h5 = made.before d v h in
    let h4 = before.before d v h5 in
    let h3 = end.before d v h4 in
    let h2 = begun.before d v h3 in
    let h1 = early.before d v h2 in
    active_is _ _ _ (v c.in_ok-end.end.net) (v c.in_ok-early.early.net) (v c.in_ok-start.start.net) (v c.args.position.net)
    (v c.args.ticks.net) c.args.time c.in_ok-early.early.width c.in_ok-start.start.width
    refl (begun.value d v h3) early.width (before.value d v h5) (end.value d v h4) (start.width ∙ c.new.ensures.width) (early.value d v h2)
    (start.value d v h1 ∙ c.new.ensures.bits))) c.binary-4.ensures
