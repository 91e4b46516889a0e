use Rattle.kernel_parts_tests.proofs.Kept.{adds_port}
use Rattle.kernel_parts_tests.proofs.ports.add_input.Goals as goal

pub returns : goal.returns
returns c =
    let q = c.requires in
    let made = c.in_ok-signal.ensures in
    record {
      adds = adds_port q.alone q.some q.at_most made.port;
      signal = record { signal = made.signal; width = made.port.width };
    }
