-- The constructor stands among the members that are left.
use Rattle.std.proofs.Common.{◌≡◌, drop}
use Rattle.kernel_meaning.specs.Constructors.{ctor_of}
use Rattle.kernel_plans.specs.Classes.{members}
use Rattle.kernel_plans.specs.Trees.{trees_of}
use Rattle.kernel_plans.proofs.binding.constructor_of.Given as goal

abbrev pub invariant-loop-place : goal.invariant-loop-place
invariant-loop-place l =
    ctor_of (trees_of l.tree l.node.id (drop l.place l.node.children.now)) ≡ ctor_of (members l.class)
