use Rattle.project_design.proofs.Blocking.{AreSoFar}
use Rattle.project_design.proofs.blocks.Blocks.of.Given as goal

abbrev pub invariant-loop-kernel : goal.invariant-loop-kernel
invariant-loop-kernel l =
    AreSoFar l.project l.kernel-index l.scalar l.net l.each.items
