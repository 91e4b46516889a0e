use Rattle.std.proofs.Common.{◌∙◌, nat_eq, ap}
use Rattle.std.specs.Prelude.{bit_and}
use Rattle.std.proofs.lemmas.Result.{IfOk-weaker}
use Rattle.rtl_ir.specs.Value.{bit}
use Rattle.kernel_control.specs.Due.{is_in_ticks}
use Rattle.kernel_control.proofs.Bits.{after, bit_fits, as_bit, and_bits}
use Rattle.kernel_wiring.specs.States.{MakesHeld}
use Rattle.kernel_wiring.proofs.states.held_word.Goals as goal

pub returns : goal.returns
returns c =
    let active = c.in_ok-active.ensures in
    let on = c.in_ok-on.ensures in
    let store = c.args.store.net in
    IfOk-weaker _ _ (MakesHeld c.args.netlist.now c.choose.new.self c.args.position.net c.args.ticks.net c.args.time store c.args.from c.args.kept.net)
    (λ s made. record {
      adds = (after active (after on made)).adds;
      wide = record { signal = made.signal; width = made.width };
      on = c.in_ok-on.on.net;
      stores = λ d f h.
          let h2 = made.before d f h in
          let h1 = on.before d f h2 in
          let in_ticks = is_in_ticks (f c.args.position.net) (f c.args.ticks.net) c.args.time in
          on.value d f h2 ∙ ap (λ x. bit_and x (f store)) (active.value d f h1)
          ∙ ap (bit_and (bit in_ticks)) (as_bit (f store) (bit_fits c.requires.store (active.before d f h1)))
          ∙ and_bits in_ticks (nat_eq (f store) 1);
      shows = made.value;
    }) c.choose.ensures
