use Rattle.std.proofs.Common.{◌++◌, ◌∷◌, [], List, length, ap, ◌∙◌, arith}
use Rattle.std.proofs.lemmas.Result.{on_ok_weaker}
use Rattle.rtl_ir.specs.declared.design.Module.{Module}
use Rattle.rtl_ir.specs.declared.design.Update.{Update}
use Rattle.rtl_ir.specs.declared.design.Target.TheVariants.{Reg}
use Rattle.rtl_delays.specs.Steps.{writes_reg}
use Rattle.rtl_delays.proofs.Extends.{
  makes_extends,
  may_update,
  update_extends,
  has_added,
  extends_on,
  still_same,
  still_on,
  still_update,
  or_zero,
  register_leaves,
}
use Rattle.rtl_delays.proofs.Undriven.{wires_undriven, update_undriven, undriven_on}
use Rattle.rtl_delays.proofs.Stored.{wires_stored, update_stored}
use Rattle.rtl_delays.proofs.Kept.{wires_no_register, update_no_register, no_register_on}
use Rattle.rtl_delays.proofs.Delaying.{update_moves}
use Rattle.kernel_control.proofs.Bits.{after, bit_fits}
use Rattle.kernel_control.proofs.Counting.{writes_last, is_cleared}
use Rattle.kernel_states.proofs.Taking.{is_taken}
use Rattle.kernel_states.proofs.registers.close_register.Goals as goal

pub update-requires-clause-register : goal.update-requires-clause-register
update-requires-clause-register c =
    let all = after c.in_ok-zero.ensures (after c.in_ok-next.ensures c.in_ok-step.ensures) in
    (makes_extends c.requires.sound all).registers c.args.register c.requires.register

pub returns : goal.returns
returns c =
    let q = c.requires in
    let zero' = c.in_ok-zero.ensures in
    let next = c.in_ok-next.ensures in
    let step = c.in_ok-step.ensures in
    let old = c.args.netlist.now in
    let mid = c.binary.new.self in
    let new = c.update.new.self in
    let run = c.args.enable.net in
    let reset = c.args.reset.net in
    let register = c.args.register in
    let enable = c.in_ok-step.step in
    let value = c.in_ok-next.next in
    let all = after zero' (after next step) in
    let wires = makes_extends q.sound all in
    let u : Update = record { enable = enable.net; target = Reg register.net; value = value.net } in
    let may = may_update mid enable register value step.signal (wires.registers register q.register)
    (step.keeps value next.signal) (step.width ∙ q.enable.width) (next.width ∙ zero'.width ∙ c.new.ensures.width)
    (ap (writes_reg register.net) all.adds.updates ∙ q.unwritten) in
    record {
      closes = on_ok_weaker c.update.result (λ a.
          let e = update_extends wires.sound may a in
          record {
            extends = extends_on wires e;
            still = still_on old mid new run reset (still_same old mid run reset all.adds.updates)
                (still_update mid new u run reset (ap (λ (m : Module). m.updates) a.is)
                (λ k f h r s. or_zero (f enable.net) (f run) (f reset) (step.value k f (e.before k f h)) r s)) e;
            others = register_leaves old new register.net enable.net value.net
                (ap (λ (m : Module). m.updates) a.is ∙ ap (λ (us : List Update). us ++ u ∷ []) all.adds.updates);
            written = ap (λ (m : Module). writes_reg register.net m.updates) a.is ∙ writes_last register.net enable.net value.net mid.updates;
            registers = no_register_on old mid new (wires_no_register all.adds) (update_no_register a);
            undriven = undriven_on old mid new all.adds.grows (wires_undriven all.adds) (update_undriven a);
            stored = update_stored a ∙ wires_stored all.adds;
            nets = let same = ap (λ (m : Module). length m.nets) a.is in let few = all.adds.count in omega (arith, same, few);
            mems = ap (λ (m : Module). m.mems) a.is ∙ all.adds.mems;
          }) c.update.ensures;
      takes = on_ok_weaker c.update.result (λ a.
          let e = update_extends wires.sound may a in
          record {
            cleared = λ k f d s r.
                let h3 = e.before k f s.holds in
                let h2 = step.before k f h3 in
                let h1 = next.before k f h2 in
                let h0 = zero'.before k f h1 in
                is_cleared (d.regs register.net) (f enable.net) (f value.net) (f run) (f reset) (f c.in_ok-zero.zero.net)
                (f c.args.value.net) (k.regs register.net)
                (update_moves new k f d u (has_added a) s) (bit_fits q.enable h0) (bit_fits q.reset h0)
                (step.value k f h3) (next.value k f h2) (zero'.value k f h1 ∙ c.new.ensures.bits) r;
            takes = λ k f d s r.
                let h3 = e.before k f s.holds in
                let h2 = step.before k f h3 in
                let h1 = next.before k f h2 in
                let h0 = zero'.before k f h1 in
                is_taken (d.regs register.net) (f enable.net) (f value.net) (f run) (f reset) (f c.in_ok-zero.zero.net)
                (f c.args.value.net) (k.regs register.net)
                (update_moves new k f d u (has_added a) s) (bit_fits q.enable h0)
                (step.value k f h3) (next.value k f h2) r;
          }) c.update.ensures;
    }
