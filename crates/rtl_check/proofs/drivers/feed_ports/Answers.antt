use Rattle.std.proofs.Common.{arith}
use Rattle.std.proofs.lemmas.Option.{slice_get-get_or}
use Rattle.rtl_check.proofs.Parted.{port_fed, port_skipped, instance_done}
use Rattle.rtl_check.proofs.drivers.feed_ports.Goals as goal

pub loop-place-preserved-then-not-at : goal.loop-place-preserved-then-not-at
loop-place-preserved-then-not-at c = λ d a k of is fed.
    port_skipped d c.args.module.now c.loop-place.marks a k c.loop-place.place
    c.args.instance.now c.args.inner.now c.at.result.now of is c.at.ensures c.if-not-at.true
    (c.loop-place.invariant d a k of is fed)

pub loop-place-preserved : goal.loop-place-preserved
loop-place-preserved c = λ d a k of is fed.
    let net = c.at-net.result.now in let marks = c.loop-place.marks in
    rw c.index-number.ensures.number
    (port_fed d c.args.module.now marks a k c.loop-place.place c.args.instance.now
    c.args.inner.now c.at.result.now net c.is_register-may.result _ _
    (record { of = of; is = is; at = c.at.ensures; joins = c.at-net.ensures })
    c.if-not-at.false c.is_register-may.ensures (slice_get-get_or marks net _
    (let lt = c.requires.nets c.loop-place.place net c.at-net.ensures in omega arith))
    (rw c.index-number.ensures.number at c.after.ensures)
    (c.loop-place.invariant d a k of is fed))

pub returns : goal.returns
returns c = λ d a k of is fed.
    instance_done d c.args.module.now c.loop-place.marks a k c.loop-place.place c.args.instance.now c.args.inner.now of is (omega arith) (c.loop-place.invariant d a k of is fed)
