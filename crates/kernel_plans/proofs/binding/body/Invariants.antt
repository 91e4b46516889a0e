-- What is left of the parameters and of their values makes the whole body.
use Rattle.std.proofs.Common.{◌≡◌, ◌≤◌, [], length, drop, Ok}
use Rattle.std.specs.Vec.Iter.{into_iter_items, into_iter_len}
use Rattle.kernel_meaning.specs.Methods.{body_by}
use Rattle.kernel_rows.specs.Fit.{AreFit}
use Rattle.kernel_rows.specs.Kept.{AreBoundFit}
use Rattle.kernel_plans.specs.Trees.{trees_of}
use Rattle.kernel_plans.proofs.binding.body.Given as goal

abbrev pub invariant-loop-value : goal.invariant-loop-value
invariant-loop-value l =
    (body_by l.callee.wanted l.user (trees_of l.tree l.node.id (drop l.place l.node.children.now))
    (into_iter_items l.value-iterator) (Ok l.variables)
    ≡ body_by l.callee.wanted l.user
    (trees_of l.tree l.callee.node.id (drop l.callee.first l.callee.node.children.now)) l.fn.values
    (Ok []))
    × (l.place ≤ length l.node.children.now)
    × AreFit (into_iter_items l.value-iterator)
    × AreBoundFit l.variables
    × (into_iter_len l.value-iterator ≡ length (into_iter_items l.value-iterator))
