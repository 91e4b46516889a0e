-- The path is what stands before the dots, with the names behind them.
use Rattle.std.proofs.Common.{◌≡◌, true, is_some, Some, length}
use Rattle.kernel_meaning.specs.Names as Names
use Rattle.kernel_meaning.specs.declared.state.State.{State}
use Rattle.kernel_plans.specs.Trees.{tree_of, branch_tree}
use Rattle.kernel_plans.proofs.Dotted.{dots, on_dots}
use Rattle.kernel_plans.proofs.paths.written_path.Given as goal

abbrev pub invariant-loop-base : goal.invariant-loop-base
invariant-loop-base l =
    (s : State) → Names.path_of s (branch_tree l.tree l.initial.branch)
    ≡ on_dots (Names.path_of s (branch_tree l.tree l.branch)) l.behind

abbrev pub decreases-loop-base : goal.decreases-loop-base
decreases-loop-base l = dots (branch_tree l.tree l.branch)

abbrev pub invariant-loop-word : goal.invariant-loop-word
invariant-loop-word l =
    (s : State) → is_some (Names.path_of s (tree_of l.fn.tree l.fn.id)) ≡ true
    → Names.path_of s (tree_of l.fn.tree l.fn.id) ≡ on_dots (Some l.path) l.behind

abbrev pub decreases-loop-word : goal.decreases-loop-word
decreases-loop-word l = length l.behind
