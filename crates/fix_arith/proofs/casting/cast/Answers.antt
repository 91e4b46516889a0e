use Rattle.std.proofs.Common.{arith}
use Rattle.fix_arith.specs.Integers.{exact}
use Rattle.fix_arith.proofs.Casts.{widened, narrowed}
use Rattle.fix_arith.proofs.casting.cast.Goals as goal

pub returns-then-old-new-clause-bits : goal.returns-then-old-new-clause-bits
returns-then-old-new-clause-bits c =
    let same = widened c.args.mode (exact c.of_word-number.result) c.frac-old.result c.frac-new.result (omega arith) in
    cc

pub returns-else-old-new-clause-bits : goal.returns-else-old-new-clause-bits
returns-else-old-new-clause-bits c =
    let same = narrowed c.args.mode (exact c.of_word-number.result) c.frac-old.result c.frac-new.result (omega arith) in
    cc
