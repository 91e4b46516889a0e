-- The methods from a place on.
use Rattle.std.proofs.Common.{drop}
use Rattle.kernel_plans.specs.Trees.{trees_of}
use Rattle.kernel_plans.specs.Tables.{AreMethods}
use Rattle.kernel_plans.proofs.methods.methods_of.Given as goal

abbrev pub invariant-loop-place : goal.invariant-loop-place
invariant-loop-place l =
    AreMethods l.tree (trees_of l.tree l.class.id (drop l.place l.class.children.now)) l.methods
