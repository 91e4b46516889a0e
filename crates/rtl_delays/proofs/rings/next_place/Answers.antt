use Rattle.std.proofs.Common.{arith, ◌∙◌}
use Rattle.std.proofs.lemmas.Result.{IfOk-weaker}
use Rattle.rtl_build.proofs.Growing.{same_value}
use Rattle.rtl_delays.proofs.Places.{after, next_is}
use Rattle.rtl_delays.proofs.rings.next_place.Goals as goal

pub returns : goal.returns
returns c =
    let z = c.in_ok-zero.ensures in
    let o = c.in_ok-one.ensures in
    let l = c.in_ok-last.ensures in
    let t = c.in_ok-is_last.ensures in
    let m = c.in_ok-more.ensures in
    let r = c.in_ok-round.ensures in
    IfOk-weaker _ _ _ (λ s made. same_value 7 c.args.at.width _ (after z (after o (after l (after t (after m (after r made)))))) (omega arith) (z.width ∙ c.new.ensures.width) (λ d v h.
    let h6 = made.before d v h in
    let h5 = r.before d v h6 in
    let h4 = m.before d v h5 in
    let h3 = t.before d v h4 in
    let h2 = l.before d v h3 in
    let h1 = o.before d v h2 in
    next_is (v c.in_ok-zero.zero.net) (v c.in_ok-one.one.net) (v c.in_ok-last.last.net)
    (v c.in_ok-is_last.is_last.net) (v c.in_ok-more.more.net) (v c.in_ok-round.round.net)
    (v c.args.reset.net) (v c.args.at.net) c.args.at.width c.args.words
    (r.value d v h6) (m.value d v h5) (t.value d v h4) (l.value d v h3 ∙ c.new-3.ensures.bits) (o.value d v h2 ∙ c.new-2.ensures.bits) (z.value d v h1 ∙ c.new.ensures.bits))) c.choose-2.ensures
