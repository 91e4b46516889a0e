use Rattle.std.proofs.Common.{ap, ◌∙◌, arith}
use Rattle.rtl_ir.specs.declared.design.Module.{Module}
use Rattle.rtl_delays.specs.Steps.{writes_reg}
use Rattle.kernel_control.specs.Nets.{IsHandshake}
use Rattle.kernel_parts_tests.proofs.Kept.{frame_on, handshake_on, position_extends, three_undriven, all_two}
use Rattle.kernel_parts_tests.proofs.control.add_controls.Goals as goal

pub add_control-requires : goal.add_control-requires
add_control-requires c =
    let x = c.in_ok-taken.ensures in
    let y = c.in_ok-given.ensures in
    let p = c.in_ok-position.ensures in
    let m = c.register.new.self in
    let alone = y.adds.alone in
    let e = position_extends alone c.in_ok-text.ensures p in
    let enable = c.in_ok-enable.ensures.adds in
    let f = frame_on y.adds.keeps y.adds.outputs (frame_on x.adds.keeps x.adds.outputs
    (frame_on enable.keeps enable.outputs c.in_ok-frame.ensures.has)) in
    let frame = frame_on e.keeps e.outputs f in
    let taken = handshake_on e.keeps e.outputs (handshake_on y.adds.keeps y.adds.outputs x.handshake) in
    let given = handshake_on e.keeps e.outputs y.handshake in
    record {
      sound = e.sound;
      nets = record {
        position = record { signal = p.signal; register = p.register; width = p.width };
        unwritten = ap (writes_reg _) (ap (λ (k : Module). k.updates) p.is ∙ alone.updates);
        reset = frame.reset;
        ticks = frame.ticks;
        hold = frame.hold;
        ended = frame.ended;
      };
      ports = all_two (IsHandshake m) _ _ taken given;
      undriven =
          let zero' = c.in_ok-frame.ensures.has.ended.output.net in
          let one = enable.nets in
          let two = x.answer in
          let three = x.handshake.answer.output.net in
          let four = y.answer in
          three_undriven m _ _ _ (ap (λ (k : Module). k.assigns) p.is ∙ alone.assigns) (omega (arith, zero', one, two)) (omega (arith, three, four));
    }
