-- What was followed so far.
use Rattle.std.proofs.Common.{◌≡◌}
use Rattle.kernel_meaning.specs.declared.state.State.{State}
use Rattle.kernel_meaning.specs.declared.value.Spot.{Spot}
use Rattle.kernel_meaning.specs.Answer.{Next}
use Rattle.kernel_meaning.specs.Run.{Place, target}
use Rattle.kernel_plans.specs.Trees.{branch_tree}
use Rattle.kernel_machine.specs.Left.{resolved}
use Rattle.kernel_machine.proofs.targets.target_of.Given as goal
use Rattle.std.specs.Prelude.{ℕ}

abbrev pub invariant-loop-named : goal.invariant-loop-named
invariant-loop-named l =
    (here : Place) (user : ℕ) (state : State) (next : Spot → Next)
    → target here user (branch_tree l.class.cells l.initial.named) state next
    ≡ target here user (branch_tree l.class.cells l.named) state
    (λ spot state. resolved l.class.cells here user l.indices spot state next)

abbrev pub decreases-loop-named : goal.decreases-loop-named
decreases-loop-named l = l.named.id
