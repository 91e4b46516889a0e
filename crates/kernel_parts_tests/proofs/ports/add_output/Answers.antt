use Rattle.std.proofs.Common.{arith}
use Rattle.kernel_parts_tests.proofs.Kept.{adds_port}
use Rattle.kernel_parts_tests.proofs.ports.add_output.Goals as goal

pub returns : goal.returns
returns c =
    let made = c.in_ok-signal.ensures in
    record {
      adds = adds_port c.requires.alone (omega arith) (omega arith) made.port;
      output = record { output = made.signal; bit = made.port.width };
      net = made.port.net;
    }
