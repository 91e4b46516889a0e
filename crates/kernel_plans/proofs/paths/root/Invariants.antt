-- What stands before the dots so far has the same first name.
use Rattle.std.proofs.Common.{◌≡◌, is_some}
use Rattle.kernel_meaning.specs.Names as Names
use Rattle.kernel_meaning.specs.declared.state.State.{State}
use Rattle.kernel_plans.specs.Trees.{branch_tree}
use Rattle.kernel_plans.proofs.Dotted.{dots}
use Rattle.kernel_plans.proofs.paths.root.Given as goal

abbrev pub invariant-loop-base : goal.invariant-loop-base
invariant-loop-base l = record {
  word : Names.root_word (branch_tree l.tree l.initial.branch)
      ≡ Names.root_word (branch_tree l.tree l.branch);
  place : Names.root_place (branch_tree l.tree l.initial.branch)
      ≡ Names.root_place (branch_tree l.tree l.branch);
  path : (s : State) → is_some (Names.path_of s (branch_tree l.tree l.initial.branch))
      ≡ is_some (Names.path_of s (branch_tree l.tree l.branch));
}

abbrev pub decreases-loop-base : goal.decreases-loop-base
decreases-loop-base l = dots (branch_tree l.tree l.branch)
