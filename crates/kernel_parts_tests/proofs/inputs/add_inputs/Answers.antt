use Rattle.kernel_parts_tests.proofs.Kept.{width_on}
use Rattle.kernel_parts_tests.proofs.inputs.add_inputs.Goals as goal

pub returns : goal.returns
returns c =
    let reset = c.in_ok-reset.ensures in
    let run = c.in_ok-run.ensures in
    let narrow = c.in_ok-narrow.ensures in
    let wide = c.in_ok-wide.ensures in
    record {
      alone = wide.adds.alone;
      has = record {
        sound = wide.adds.alone.partial.sound;
        run = width_on wide.adds.keeps (width_on narrow.adds.keeps run.signal);
        reset = width_on wide.adds.keeps (width_on narrow.adds.keeps (width_on run.adds.keeps reset.signal));
        narrow = width_on wide.adds.keeps narrow.signal;
        wide = wide.signal;
      };
    }
