use Rattle.kernel_parts_tests.proofs.Kept.{width_on}
use Rattle.kernel_parts_tests.proofs.control.add_frame.Goals as goal

pub returns : goal.returns
returns c =
    let reset = c.in_ok-reset.ensures in
    let ticks = c.in_ok-ticks.ensures in
    let hold = c.in_ok-hold.ensures in
    let ended = c.in_ok-ended.ensures in
    record {
      adds = ended.adds.alone;
      has = record {
        reset = width_on ended.adds.keeps (width_on hold.adds.keeps (width_on ticks.adds.keeps reset.signal));
        ticks = width_on ended.adds.keeps (width_on hold.adds.keeps ticks.signal);
        hold = width_on ended.adds.keeps hold.signal;
        ended = ended.output;
      };
    }
