use Rattle.std.proofs.Common.{length}
use Rattle.maxj_syntax.proofs.stack.+push_fixed.Given as goal

abbrev pub decreases-push_fixed : goal.decreases-push_fixed
decreases-push_fixed l = length l.symbols.now
