-- The fields so far, and those among the members that are left, are all.
use Rattle.std.proofs.Common.{◌≡◌, [], drop}
use Rattle.kernel_meaning.specs.Constructors.{all_ahead}
use Rattle.kernel_plans.specs.Classes.{members}
use Rattle.kernel_rows.specs.Kept.{AreBoundFit}
use Rattle.kernel_plans.specs.Trees.{trees_of}
use Rattle.kernel_plans.proofs.binding.fields_ahead.Given as goal

abbrev pub invariant-loop-place : goal.invariant-loop-place
invariant-loop-place l =
    (all_ahead (trees_of l.tree l.node.id (drop l.place l.node.children.now)) l.fields
    ≡ all_ahead (members l.class) []) × AreBoundFit l.fields
