use Rattle.std.proofs.Common.{length, arith}
use Rattle.rtl_check.proofs.Parted.{all_seen}
use Rattle.rtl_check.proofs.drivers.feed_all.Goals as goal

pub feed_assigns-requires : goal.feed_assigns-requires
feed_assigns-requires c = λ j a at. let lt = (c.requires.formed.assigns j a at).target in omega (arith, c.requires.nets_size)

pub feed_updates-requires-clause-mems : goal.feed_updates-requires-clause-mems
feed_updates-requires-clause-mems c = λ j k u at is. let lt = (c.requires.formed.updates j u at).mem k is in omega (arith, c.requires.mems_size)

pub returns-clause-nets : goal.returns-clause-nets
returns-clause-nets c = λ h.
    let d = c.args.design.now in let m = c.args.module.now in
    all_seen d m c.feed_updates.new.nets (c.feed_updates.ensures.nets d (length m.assigns) (length m.instances) (c.feed_instances.ensures (length m.assigns) (c.feed_assigns.ensures d h)))
