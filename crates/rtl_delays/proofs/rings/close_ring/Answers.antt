use Rattle.std.proofs.Common.{◌≡◌, ◌<◌, ◌^◌, length, ◌++◌, List, ◌∷◌, [], refl, sym, ap, ◌∙◌, subst, arith}
use Rattle.std.proofs.lemmas.Result.{on_ok_weaker}
use Rattle.rtl_ir.specs.declared.design.Module.{Module}
use Rattle.rtl_ir.specs.declared.design.Update.{Update}
use Rattle.rtl_ir.specs.declared.design.Target.TheVariants.{Reg}
use Rattle.rtl_build.proofs.Growing.{word_fits}
use Rattle.rtl_delays.specs.Steps.{writes_reg, writes_mem}
use Rattle.rtl_delays.proofs.Targets.{last_mem}
use Rattle.rtl_delays.proofs.Extends.{makes_extends, extends_on, update_extends, may_update, may_write, has_added, still_same, still_on, still_update, or_zero, ring_leaves}
use Rattle.rtl_delays.proofs.Undriven.{wires_undriven, update_undriven, undriven_on}
use Rattle.rtl_delays.proofs.Kept.{wires_no_register, update_no_register, no_register_on, written_by, written_kept}
use Rattle.rtl_delays.proofs.Stored.{wires_stored, update_stored}
use Rattle.rtl_delays.proofs.Delaying.{update_moves, ring_delays}
use Rattle.rtl_delays.proofs.Places.{pointer_cleared, pointer_steps}
use Rattle.rtl_delays.proofs.rings.close_ring.Goals as goal

pub returns : goal.returns
returns c =
    let q = c.requires in
    let ring = c.args.ring in
    let run' = c.args.run in
    let reset = c.args.reset in
    let from = c.args.from in
    let m = c.args.netlist.now in
    let wired = c.binary.new.self in
    let stepped = c.update.new.self in
    let last = c.write.new.self in
    let next = c.in_ok-next.ensures in
    let step = c.in_ok-step.ensures in
    let a = c.in_ok-update.ensures in
    let first = makes_extends q.sound next in
    let second = extends_on first (makes_extends first.sound step) in
    let same : wired.updates ≡ m.updates = step.adds.updates ∙ next.adds.updates in
    let more : stepped.updates ≡ wired.updates ++ (record {
      enable = c.in_ok-step.step.net;
      target = Reg ring.pointer.net;
      value = c.in_ok-next.next.net;
    }) ∷ [] = ap (λ (x : Module). x.updates) a.is in
    let may = may_update wired c.in_ok-step.step ring.pointer c.in_ok-next.next step.signal
    (second.registers ring.pointer q.ring.register)
    (step.keeps c.in_ok-next.next next.signal) (step.width ∙ q.run_bit) next.width
    (ap (writes_reg ring.pointer.net) same ∙ q.free.pointer) in
    let moved = update_extends second.sound may a in
    let third = extends_on second moved in
    let mems : length stepped.mems ≡ length m.mems = ap (λ (x : Module). length x.mems) a.is ∙ ap length (step.adds.mems ∙ next.adds.mems) in
    let may_too = may_write stepped run' ring.memory ring.pointer from (third.keeps run' q.run)
    (let w = q.ring.memory in omega (
      arith,
      mems,
      w,
    )) (third.keeps ring.pointer q.ring.pointer) (third.keeps from q.from) q.run_bit
    (q.same ∙ sym (third.widths ring.memory q.ring.memory ∙ q.ring.width))
    (ap (writes_mem ring.memory) more ∙ last_mem ring.memory wired.updates _ (ap (writes_mem ring.memory) same ∙ q.free.memory) refl) in
    record {
      extends = on_ok_weaker c.write.result (λ b. extends_on third (update_extends third.sound may_too b)) c.write.ensures;
      still = on_ok_weaker c.write.result (λ b.
          let none = still_same m wired run'.net reset.net same in
          let one = still_update wired stepped _ run'.net reset.net more (λ k v h r s. or_zero (v c.in_ok-step.step.net) (v run'.net) (v reset.net) (step.value k v (moved.before k v h)) r s) in
          let two = still_update stepped last _ run'.net reset.net (ap (λ (x : Module). x.updates) b.is) (λ k v h r s. r) in
          still_on m stepped last run'.net reset.net (still_on m wired stepped run'.net reset.net none one moved) two (update_extends third.sound may_too b)) c.write.ensures;
      others = on_ok_weaker c.write.result (λ b. ring_leaves m stepped last ring.pointer.net c.in_ok-step.step.net c.in_ok-next.next.net ring.memory ring.pointer.net run'.net from.net
          (more ∙ ap (λ (us : List Update). us ++ (record {
            enable = c.in_ok-step.step.net;
            target = Reg ring.pointer.net;
            value = c.in_ok-next.next.net;
          }) ∷ []) same) (ap (λ (x : Module). x.updates) b.is)) c.write.ensures;
      written = on_ok_weaker c.write.result (λ b. written_kept stepped last ring.pointer.net
          (update_extends third.sound may_too b).grows
          (written_by stepped _ ring.pointer.net refl (has_added a))) c.write.ensures;
      registers = on_ok_weaker c.write.result (λ b.
          no_register_on m c.next_place.new.netlist last (wires_no_register next.adds)
          (no_register_on c.next_place.new.netlist wired last (wires_no_register step.adds)
          (no_register_on wired stepped last (update_no_register a) (update_no_register b)))) c.write.ensures;
      undriven = on_ok_weaker c.write.result (λ b.
          undriven_on m c.next_place.new.netlist last first.grows (wires_undriven next.adds)
          (undriven_on c.next_place.new.netlist wired last step.adds.grows (wires_undriven step.adds)
          (undriven_on wired stepped last moved.grows (update_undriven a) (update_undriven b)))) c.write.ensures;
      nets = on_ok_weaker c.write.result (λ b.
          let x = next.adds.count in
          let y = step.adds.count in
          let z : length last.nets ≡ length wired.nets = ap (λ (x : Module). length x.nets) b.is ∙ ap (λ (x : Module). length x.nets) a.is in
          omega (arith, x, y, z)) c.write.ensures;
      stored = on_ok_weaker c.write.result (λ b. update_stored b ∙ update_stored a ∙ wires_stored step.adds ∙ wires_stored next.adds) c.write.ensures;
      delay = on_ok_weaker c.write.result (λ b.
          let written = update_extends third.sound may_too b in
          let all = extends_on third written in
          ring_delays last run'.net reset.net from.net ring.word.net ring.pointer.net ring.memory ring.words (record {
            some = let s = q.ring.some in omega (arith, s);
            pointer = all.regs ring.pointer.net q.ring.register.register;
            depth = all.depths ring.memory q.ring.memory ∙ q.ring.depth;
            shows = λ k v h lt. q.ring.shows k v (all.before k v h) lt;
            writes = has_added b;
            cleared = λ k v d s r.
                let h0 = all.before k v s.holds in
                let h2 = moved.before k v (written.before k v s.holds) in
                pointer_cleared (d.regs ring.pointer.net) (v c.in_ok-step.step.net) (v c.in_ok-next.next.net) (v run'.net) (v reset.net) _ (k.regs ring.pointer.net)
                (update_moves last k v d _ (written.updated _ (has_added a)) s)
                (subst (λ w. v run'.net < 2 ^ w) q.run_bit (word_fits run' q.run h0)) (subst (λ w. v reset.net < 2 ^ w) q.reset_bit (word_fits reset q.reset h0))
                (step.value k v h2) (next.value k v (step.before k v h2)) r;
            steps = λ k v d s r lt.
                let h0 = all.before k v s.holds in
                let h2 = moved.before k v (written.before k v s.holds) in
                pointer_steps (d.regs ring.pointer.net) (v c.in_ok-step.step.net)
                (v c.in_ok-next.next.net) (v run'.net) (v reset.net)
                (v ring.pointer.net) ring.pointer.width ring.words (k.regs ring.pointer.net)
                (update_moves last k v d _ (written.updated _ (has_added a)) s)
                (subst (λ w. v run'.net < 2 ^ w) q.run_bit (word_fits run' q.run h0)) (subst (λ w. v reset.net < 2 ^ w) q.reset_bit (word_fits reset q.reset h0))
                (step.value k v h2) (next.value k v (step.before k v h2)) r lt q.ring.fits.holds;
          })) c.write.ensures;
    }
