use Rattle.std.proofs.Common.{◌≡◌, length, replicate, ap, sym, subst, rules, arith}
use Rattle.rtl_check.specs.declared.drivers.Fed.TheVariants.{Never}
use Rattle.rtl_check.specs.Fed.{IsSeen, AreFed, AreWritten}
use Rattle.std.proofs.lemmas.List.{with_items_is, length-replicate}
use Rattle.rtl_check.proofs.Parted.{none_written}
use Rattle.rtl_check.proofs.drivers.mark_drivers.Goals as goal

pub inputs-requires : goal.inputs-requires
inputs-requires c = λ j p at. (c.requires.ports j p at).net

pub returns : goal.returns
returns c =
    let d = c.args.design.now in let m = c.args.module.now in
    let items : c.in_ok-mems.mems.items ≡ replicate (length m.mems) Never = search rules in
    let nets_len : length c.feed_all.new.nets ≡ c.in_ok-nets.nets.len = omega (arith, c.feed_all.auto.nets, c.as_mut_slice.ensures.len) in
    let mems_len : length c.feed_all.new.mems ≡ c.in_ok-mems.mems.len = omega (arith, c.feed_all.auto.mems, c.as_mut_slice-2.ensures.len) in
    let nets_are = with_items_is c.in_ok-nets.nets c.feed_all.new.nets nets_len in
    let mems_are = with_items_is c.in_ok-mems.mems c.feed_all.new.mems mems_len in
    record {
      nets = rw nets_are (c.feed_all.ensures.nets (subst (AreFed d m (IsSeen 0 0 0 0)) (sym c.as_mut_slice.ensures.value) (c.in_ok-nets.ensures.fed d)));
      nets_size = rw nets_are (omega (arith, nets_len, c.in_ok-nets.ensures.size));
      mems = rw mems_are (c.feed_all.ensures.mems (subst (AreWritten m 0) (sym c.as_mut_slice-2.ensures.value) (none_written m c.in_ok-mems.mems.items (length m.mems) items)));
      mems_size = rw mems_are (omega (arith, mems_len, ap length items, length-replicate (length m.mems) Never, c.in_ok-mems.mems.ok.0));
    }
