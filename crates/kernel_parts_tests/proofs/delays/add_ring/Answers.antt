use Rattle.std.proofs.Common.{sym, ◌∙◌}
use Rattle.kernel_parts_tests.proofs.Kept.{inputs_on}
use Rattle.kernel_parts_tests.proofs.delays.add_ring.Goals as goal

pub start_ring-requires-clause-sound : goal.start_ring-requires-clause-sound
start_ring-requires-clause-sound c = c.in_ok-inputs.ensures.has.sound

pub close_ring-requires : goal.close_ring-requires
close_ring-requires c =
    let made = c.in_ok-ring.ensures in
    let has = inputs_on made.extends c.in_ok-inputs.ensures.has in
    record {
      sound = made.extends.sound;
      ring = made.has;
      free = made.free;
      run = has.run.signal;
      run_bit = has.run.width;
      reset = has.reset.signal;
      reset_bit = has.reset.width;
      from = has.narrow.signal;
      same = has.narrow.width ∙ sym made.wide;
    }
