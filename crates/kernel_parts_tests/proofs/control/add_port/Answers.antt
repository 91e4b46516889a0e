use Rattle.std.proofs.Common.{arith}
use Rattle.kernel_parts_tests.proofs.Kept.{width_on, may_enable_on, adds_on}
use Rattle.kernel_parts_tests.proofs.control.add_port.Goals as goal

pub returns : goal.returns
returns c =
    let wait = c.in_ok-waits_for.ensures in
    let answer = c.in_ok-answer.ensures in
    record {
      adds = adds_on wait.adds answer.adds;
      handshake = record {
        small = c.requires.small;
        enable = may_enable_on c.args.enable answer.adds.keeps (may_enable_on c.args.enable wait.adds.keeps c.requires.enable);
        waits_for = width_on answer.adds.keeps wait.signal;
        answer = answer.output;
      };
      answer = let e = answer.net in let le = wait.adds.nets in omega (arith, e, le);
    }
