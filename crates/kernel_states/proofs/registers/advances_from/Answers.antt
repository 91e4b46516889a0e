use Rattle.std.proofs.Common.{refl, arith, ◌∙◌}
use Rattle.std.proofs.lemmas.Result.{IfOk-weaker}
use Rattle.rtl_build.proofs.Growing.{same_value, as_it_stands}
use Rattle.kernel_control.proofs.Bits.{after, bit_fits}
use Rattle.kernel_states.proofs.Taking.{begins_at, begins_at_start}
use Rattle.kernel_states.proofs.registers.advances_from.Goals as goal

pub returns-then-time-eq0 : goal.returns-then-time-eq0
returns-then-time-eq0 c =
    let run = c.args.nets.run in
    let has = c.requires.nets.run in
    let test = c.if-time-eq0.true in
    same_value 4 1 _ (as_it_stands run 4 (λ v. v run.net) has.signal (λ d v h. refl)) (omega arith) has.width
    (λ d v h. begins_at_start (v run.net) (v c.args.nets.position.net) c.args.time (bit_fits has h) (omega (arith, test)))

pub returns : goal.returns
returns c =
    let nets = c.args.nets in
    let q = c.requires.nets in
    let start = c.in_ok-start.ensures in
    let early = c.in_ok-early.ensures in
    let begun = c.in_ok-begun.ensures in
    IfOk-weaker _ _ _ (λ s made. same_value 4 1 _ (after start (after early (after begun made))) (omega arith) q.run.width (λ d v h.
    let h3 = made.before d v h in
    let h2 = begun.before d v h3 in
    let h1 = early.before d v h2 in
    let h0 = start.before d v h1 in
    begins_at _ (v nets.run.net) _ (v c.in_ok-early.early.net) (v nets.position.net) (v c.in_ok-start.start.net) c.args.time
    c.in_ok-early.early.width refl (bit_fits q.run h0) (begun.value d v h3) early.width (early.value d v h2)
    (start.value d v h1 ∙ c.new.ensures.bits))) c.binary-2.ensures
