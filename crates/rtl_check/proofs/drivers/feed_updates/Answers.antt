use Rattle.std.proofs.Common.{◌≡◌, ◌<◌, ℕ, length, sym, ap, subst, arith}
use Rattle.std.proofs.lemmas.Option.{slice_get-get_or}
use Rattle.rtl_ir.specs.Operands.{target_net, target_mem}
use Rattle.rtl_check.specs.Fed.{IsSeen, AreFed, AreWritten}
use Rattle.rtl_check.proofs.Parted.{update_fed, update_skipped, write_seen, write_skipped}
use Rattle.rtl_check.proofs.drivers.feed_updates.Goals.{in-Reg, in-Cell}
use Rattle.rtl_check.proofs.drivers.feed_updates.Goals as goal

pub slice_copy_out-after : goal.slice_copy_out-after
slice_copy_out-after c =
    let lt = c.requires.nets c.loop-place.place c.at.result.now c.at.ensures in
    omega (arith, c.index-number.ensures.number, sym (ap target_net c.in-Reg.is))

pub bounds-nets-number : goal.bounds-nets-number
bounds-nets-number c =
    let lt = c.requires.nets c.loop-place.place c.at.result.now c.at.ensures in
    omega (arith, c.index-number.ensures.number, sym (ap target_net c.in-Reg.is))

pub slice_copy_out-after-in-Cell : goal.slice_copy_out-after-in-Cell
slice_copy_out-after-in-Cell c =
    let lt = c.requires.mems c.loop-place.place c.in-Cell.mem c.at.result.now c.at.ensures (ap target_mem c.in-Cell.is) in
    omega (arith, c.index-number-in-Cell.ensures.number)

pub bounds-mems-number : goal.bounds-mems-number
bounds-mems-number c =
    let lt = c.requires.mems c.loop-place.place c.in-Cell.mem c.at.result.now c.at.ensures (ap target_mem c.in-Cell.is) in
    omega (arith, c.index-number-in-Cell.ensures.number)

pub loop-place-preserved : goal.loop-place-preserved
loop-place-preserved c =
    let m = c.args.module.now in let j = c.loop-place.place in let u = c.at.result.now in
    elim c.match-at.branch [
      | in-Reg w ↦
          let net = w.in-Reg.net in
          let lt : net < length c.loop-place.nets = omega (arith, c.requires.nets j u c.at.ensures, sym (ap target_net w.in-Reg.is)) in
          record {
            nets = λ d a k fed. rw w.nets-is (rw w.index-number.ensures.number
                (update_fed d m c.loop-place.nets a k j u net w.is_register-may.result _ _
                c.at.ensures w.in-Reg.is c.requires.wires w.is_register-may.ensures
                (slice_get-get_or c.loop-place.nets net _ lt)
                (rw w.index-number.ensures.number at w.after.ensures)
                (c.loop-place.invariant.nets d a k fed)));
            mems = λ h. rw w.mems-is (write_skipped m c.loop-place.mems j u net c.at.ensures w.in-Reg.is (c.loop-place.invariant.mems h));
          }
      | in-Cell w ↦
          let mem = w.in-Cell.mem in
          let lt : mem < length c.loop-place.mems = omega (arith, c.requires.mems j mem u c.at.ensures (ap target_mem w.in-Cell.is)) in
          record {
            nets = λ d a k fed. rw w.nets-is (update_skipped d m c.loop-place.nets a k j u mem w.in-Cell.field-1 c.at.ensures w.in-Cell.is (c.loop-place.invariant.nets d a k fed));
            mems = λ h. rw w.mems-is (rw w.index-number-in-Cell.ensures.number
                (write_seen m c.loop-place.mems j u mem w.in-Cell.field-1 _ _ c.at.ensures
                w.in-Cell.is (slice_get-get_or c.loop-place.mems mem _ lt)
                (rw w.index-number-in-Cell.ensures.number at w.after-in-Cell.ensures)
                (c.loop-place.invariant.mems h)));
          }
    ]

pub returns-clause-nets : goal.returns-clause-nets
returns-clause-nets c = λ d a k fed.
    let n : c.loop-place.place ≡ length c.args.module.now.updates = omega arith in
    subst (λ (j : ℕ). AreFed d c.args.module.now (IsSeen a k 0 j) c.loop-place.nets) n (c.loop-place.invariant.nets d a k fed)

pub returns-clause-mems : goal.returns-clause-mems
returns-clause-mems c = λ h.
    let n : c.loop-place.place ≡ length c.args.module.now.updates = omega arith in
    subst (λ (j : ℕ). AreWritten c.args.module.now j c.loop-place.mems) n (c.loop-place.invariant.mems h)
