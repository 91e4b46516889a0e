use Rattle.std.proofs.Common.{sym, ◌∙◌}
use Rattle.std.proofs.lemmas.Result.{on_ok_weaker}
use Rattle.kernel_parts_tests.proofs.Kept.{inputs_on}
use Rattle.kernel_parts_tests.proofs.delays.add_delay.Goals as goal

pub start_element-requires-clause-sound : goal.start_element-requires-clause-sound
start_element-requires-clause-sound c = c.requires.inputs.sound

pub close_element-requires : goal.close_element-requires
close_element-requires c =
    let made = c.in_ok-element.ensures in
    let has = inputs_on made.extends c.requires.inputs in
    record {
      sound = made.extends.sound;
      element = made.has;
      free = made.free;
      run = has.run.signal;
      run_bit = has.run.width;
      reset = has.reset.signal;
      reset_bit = has.reset.width;
      from = has.narrow.signal;
      same = has.narrow.width ∙ sym made.wide;
    }

pub returns : goal.returns
returns c =
    let made = c.in_ok-element.ensures in
    on_ok_weaker c.close_element.result (λ e. inputs_on e (inputs_on made.extends c.requires.inputs)) c.close_element.ensures.extends
