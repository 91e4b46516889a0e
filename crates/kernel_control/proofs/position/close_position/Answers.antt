use Rattle.std.proofs.Common.{◌++◌, ◌∷◌, [], List, ap, sym, ◌∙◌, arith}
use Rattle.std.proofs.lemmas.Result.{on_ok_weaker}
use Rattle.rtl_ir.specs.declared.design.Module.{Module}
use Rattle.rtl_ir.specs.declared.design.Update.{Update}
use Rattle.rtl_ir.specs.declared.design.Target.TheVariants.{Reg}
use Rattle.rtl_delays.specs.Steps.{writes_reg}
use Rattle.rtl_delays.proofs.Extends.{
  makes_extends,
  may_update,
  update_extends,
  has_added,
  extends_on,
  still_same,
  still_on,
  still_update,
  or_zero,
  register_leaves,
}
use Rattle.rtl_delays.proofs.Undriven.{wires_undriven, update_undriven, undriven_on}
use Rattle.rtl_delays.proofs.Stored.{wires_stored, update_stored}
use Rattle.rtl_delays.proofs.Delaying.{update_moves}
use Rattle.kernel_control.proofs.Bits.{after, bit_fits}
use Rattle.kernel_control.proofs.Kept.{update_nets}
use Rattle.kernel_control.proofs.Counting.{writes_last, is_cleared, is_raised}
use Rattle.kernel_control.proofs.position.close_position.Goals as goal

pub update-requires-clause-register : goal.update-requires-clause-register
update-requires-clause-register c =
    let all = after c.in_ok-zero.ensures (after c.in_ok-one.ensures (after c.in_ok-more.ensures (after c.in_ok-next.ensures c.in_ok-step.ensures))) in
    (makes_extends c.requires.sound all).registers c.args.position c.requires.position.register

pub returns : goal.returns
returns c =
    let q = c.requires in
    let zero' = c.in_ok-zero.ensures in
    let one = c.in_ok-one.ensures in
    let more = c.in_ok-more.ensures in
    let next = c.in_ok-next.ensures in
    let step = c.in_ok-step.ensures in
    let run = c.args.run in
    let reset = c.args.reset in
    let position = c.args.position in
    let enable = c.in_ok-step.step in
    let value = c.in_ok-next.next in
    let all = after zero' (after one (after more (after next step))) in
    let wires = makes_extends q.sound all in
    let u : Update = record { enable = enable.net; target = Reg position.net; value = value.net } in
    let may = may_update c.binary-2.new.self enable position value step.signal (wires.registers position q.position.register)
    (step.keeps value next.signal) (step.width ∙ q.run.width) (next.width ∙ zero'.width ∙ c.new.ensures.width ∙ sym q.position.width)
    (ap (writes_reg position.net) all.adds.updates ∙ q.unwritten) in
    record {
      extends = on_ok_weaker c.update.result (λ a. extends_on wires (update_extends wires.sound may a)) c.update.ensures;
      still = on_ok_weaker c.update.result (λ a.
          let e = update_extends wires.sound may a in
          still_on c.args.netlist.now c.binary-2.new.self c.update.new.self run.net reset.net
          (still_same c.args.netlist.now c.binary-2.new.self run.net reset.net all.adds.updates)
          (still_update c.binary-2.new.self c.update.new.self u run.net reset.net (ap (λ (m : Module). m.updates) a.is)
          (λ k f h r s. or_zero (f enable.net) (f run.net) (f reset.net) (step.value k f (e.before k f h)) r s)) e) c.update.ensures;
      others = on_ok_weaker c.update.result (λ a. register_leaves c.args.netlist.now c.update.new.self position.net enable.net value.net
          (ap (λ (m : Module). m.updates) a.is ∙ ap (λ (us : List Update). us ++ u ∷ []) all.adds.updates)) c.update.ensures;
      written = on_ok_weaker c.update.result
          (λ a. ap (λ (m : Module). writes_reg position.net m.updates) a.is
          ∙ writes_last position.net enable.net value.net c.binary-2.new.self.updates) c.update.ensures;
      stored = on_ok_weaker c.update.result (λ a. update_stored a ∙ wires_stored all.adds) c.update.ensures;
      undriven = on_ok_weaker c.update.result
          (λ a. undriven_on c.args.netlist.now c.binary-2.new.self c.update.new.self all.adds.grows (wires_undriven all.adds)
          (update_undriven a)) c.update.ensures;
      nets = on_ok_weaker c.update.result (λ a. let same = update_nets a in let five = all.adds.count in omega (arith, same, five)) c.update.ensures;
      position = on_ok_weaker c.update.result (λ a.
          let e = update_extends wires.sound may a in
          record {
            register = e.regs position.net (wires.regs position.net q.position.register.register);
            cleared = λ k f d s r.
                let h5 = e.before k f s.holds in
                let h4 = step.before k f h5 in
                let h3 = next.before k f h4 in
                let h0 = all.before k f h5 in
                is_cleared (d.regs position.net) (f enable.net) (f value.net) (f run.net) (f reset.net) (f c.in_ok-zero.zero.net)
                (f c.in_ok-more.more.net) (k.regs position.net)
                (update_moves c.update.new.self k f d u (has_added a) s) (bit_fits q.run h0) (bit_fits q.reset h0)
                (step.value k f h5) (next.value k f h4) (zero'.value k f (one.before k f (more.before k f h3)) ∙ c.new.ensures.bits) r;
            steps = λ k f d s r.
                let h5 = e.before k f s.holds in
                let h4 = step.before k f h5 in
                let h3 = next.before k f h4 in
                let h0 = all.before k f h5 in
                is_raised (d.regs position.net) (f enable.net) (f value.net) (f run.net) (f reset.net) (f c.in_ok-zero.zero.net) (f c.in_ok-more.more.net)
                (f c.in_ok-one.one.net) (f position.net) (k.regs position.net) position.width
                (update_moves c.update.new.self k f d u (has_added a) s) (bit_fits q.run h0) (bit_fits q.reset h0)
                (step.value k f h5) (next.value k f h4) (more.value k f h3) q.position.width (one.value k f (more.before k f h3) ∙ c.new-2.ensures.bits) r;
          }) c.update.ensures;
    }
