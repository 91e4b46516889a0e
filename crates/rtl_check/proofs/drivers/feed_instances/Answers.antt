use Rattle.std.proofs.Common.{◌≡◌, ℕ, length, sym, subst, arith}
use Rattle.rtl_check.specs.Fed.{IsSeen, AreFed}
use Rattle.rtl_check.proofs.drivers.feed_instances.Goals as goal

pub at-inner-requires : goal.at-inner-requires
at-inner-requires c = rw c.index.ensures.number (c.requires.formed.instances c.loop-place.place c.at-instance.result.now c.at-instance.ensures).is_earlier

pub feed_ports-requires-clause-nets : goal.feed_ports-requires-clause-nets
feed_ports-requires-clause-nets c = λ j n at.
    let lt = (c.requires.formed.instances c.loop-place.place c.at-instance.result.now c.at-instance.ensures).nets j n at in
    omega (arith, c.requires.size)

pub feed_ports-requires-clause-ports : goal.feed_ports-requires-clause-ports
feed_ports-requires-clause-ports c =
    (c.requires.formed.instances c.loop-place.place c.at-instance.result.now
    c.at-instance.ensures).ports c.at-inner.result.now (rw
    (sym c.index.ensures.number) c.at-inner.ensures)

pub loop-place-preserved : goal.loop-place-preserved
loop-place-preserved c = λ a fed.
    c.feed_ports.ensures c.args.design.now a c.loop-place.place c.at-instance.ensures (rw (sym c.index.ensures.number) c.at-inner.ensures) (c.loop-place.invariant a fed)

pub returns : goal.returns
returns c = λ a fed.
    let m = c.args.module.now in
    let n : c.loop-place.place ≡ length m.instances = omega arith in
    subst (λ (k : ℕ). AreFed c.args.design.now m (IsSeen a k 0 0) c.loop-place.marks) n (c.loop-place.invariant a fed)
