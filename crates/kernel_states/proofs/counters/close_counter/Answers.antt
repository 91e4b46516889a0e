use Rattle.std.proofs.Common.{leb, arith}
use Rattle.rtl_delays.proofs.Extends.{makes_extends}
use Rattle.kernel_control.proofs.Bits.{after}
use Rattle.kernel_states.specs.Stepping.{state_after}
use Rattle.kernel_states.proofs.Taking.{on_ok_both}
use Rattle.kernel_states.proofs.Afterwards.{closes_after, idle, is_stepped}
use Rattle.kernel_states.proofs.counters.close_counter.Goals as goal

pub close_register-requires-clause-sound : goal.close_register-requires-clause-sound
close_register-requires-clause-sound c = (makes_extends c.requires.sound (after c.in_ok-enable.ensures c.in_ok-next.ensures)).sound

pub close_register-requires-clause-register : goal.close_register-requires-clause-register
close_register-requires-clause-register c =
    (makes_extends c.requires.sound (after c.in_ok-enable.ensures c.in_ok-next.ensures)).registers c.args.register c.requires.register

pub returns : goal.returns
returns c =
    let q = c.requires in
    let run = c.args.nets.run.net in
    let reset = c.args.nets.reset.net in
    let position = c.args.nets.position.net in
    let register = c.args.register.net in
    let digits = c.args.digits.now in
    let time = c.args.time in
    let enable = c.in_ok-enable.ensures in
    let next = c.in_ok-next.ensures in
    let wires = after enable next in
    let both = c.close_register.ensures in
    record {
      closes = on_ok_both c.close_register.result (λ closes takes.
          closes_after run reset c.in_ok-enable.enable.net register _ q.sound wires.adds closes
          (λ k f h r. idle (f c.in_ok-enable.enable.net) (f run) (leb time (f position))
          (enable.value k f (next.before k f (closes.extends.before k f h))) r) (omega arith)) both.closes both.takes;
      steps = on_ok_both c.close_register.result (λ closes takes. record {
        register = closes.extends.regs register ((makes_extends q.sound wires).regs register q.register.register);
        cleared = takes.cleared;
        steps = λ k f d s r.
            let h2 = closes.extends.before k f s.holds in
            let h1 = next.before k f h2 in
            is_stepped (d.regs register) (f c.in_ok-enable.enable.net) (f c.in_ok-next.next.net) (k.regs register) (f run) (f position) time
            (state_after digits (f register)) (takes.takes k f d s r) (enable.value k f h1) (next.value k f h2);
      }) both.closes both.takes;
    }
