-- The kernels before this one are built.
use Rattle.std.proofs.Common.{List, take}
use Rattle.maxj_syntax.specs.Tree.{ClassTree, ProgramIs}
use Rattle.project_build.specs.Building.{AreKernelsFor}
use Rattle.project_build.proofs.building.build_kernels.Given as goal

abbrev pub invariant-loop-made : goal.invariant-loop-made
invariant-loop-made l = (classes : List ClassTree) → ProgramIs l.fn.program classes
    → AreKernelsFor classes (take l.made-index l.mades) l.kernels.items
