use Rattle.std.proofs.Common.{length}
use Rattle.maxj_syntax.proofs.choosing.+picked.Given as goal

abbrev pub decreases-picked : goal.decreases-picked
decreases-picked l = length l.guards.now
