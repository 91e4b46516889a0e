use Rattle.std.proofs.Common.{All, take}
use Rattle.project_check.specs.Checked.{AreProblems, HasProblem}
use Rattle.project_check.proofs.problems.problems.Given as goal

abbrev pub invariant-loop-kernel : goal.invariant-loop-kernel
invariant-loop-kernel l = record {
  made : AreProblems l.table (take l.kernel-index l.kernels) l.all.items;
  has : All (HasProblem l.table) (take l.kernel-index l.kernels);
}
