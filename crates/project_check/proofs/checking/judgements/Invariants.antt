use Rattle.std.proofs.Common.{take}
use Rattle.project_check.specs.Checked.{AreJudged}
use Rattle.project_check.proofs.checking.judgements.Given as goal

abbrev pub invariant-loop-number : goal.invariant-loop-number
invariant-loop-number l = AreJudged l.table l.kernels (take l.number l.parts) l.all.items
