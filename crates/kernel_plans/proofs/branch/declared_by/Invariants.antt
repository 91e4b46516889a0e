-- The levels so far stand around the type that is left.
use Rattle.std.proofs.Common.{◌≡◌, ◌+◌, ◌<◌, ◌^◌}
use Rattle.kernel_meaning.specs.Values as Values
use Rattle.kernel_plans.specs.Trees.{tree_of, branch_tree}
use Rattle.kernel_plans.proofs.Types.{raised_by}
use Rattle.kernel_plans.proofs.branch.declared_by.Given as goal

abbrev pub invariant-loop-level : goal.invariant-loop-level
invariant-loop-level l =
    (raised_by l.rank (Values.declared_by (branch_tree l.tree l.level))
    ≡ Values.declared_by (tree_of l.tree l.fn.id)) × (l.rank + l.level.id < 2 ^ 32)

abbrev pub decreases-loop-level : goal.decreases-loop-level
decreases-loop-level l = l.level.id
