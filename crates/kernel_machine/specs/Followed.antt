-- The place of an assignment, followed down to its name.
use Rattle.std.specs.Prelude.{◌≡◌, ℕ, List, Result, Ok, Err}
use Rattle.maxj_syntax.specs.Cells.{Cell}
use Rattle.maxj_syntax.specs.Tree.{Tree}
use Rattle.maxj_syntax.specs.declared.tree.NodeKind.TheVariants as N
use Rattle.kernel_meaning.specs.declared.error.EvalError.{EvalError}
use Rattle.kernel_meaning.specs.declared.error.EvalError.TheVariants as E
use Rattle.kernel_meaning.specs.declared.state.State.{State}
use Rattle.kernel_meaning.specs.declared.value.Spot.{Spot}
use Rattle.kernel_meaning.specs.Answer.{Refused, Next}
use Rattle.kernel_meaning.specs.Run.{Place, target}
use Rattle.kernel_plans.specs.Trees.{branch_tree}
use Rattle.kernel_machine.specs.declared.targets.Target.{Target}
use Rattle.kernel_machine.specs.Left.{resolved}

-- the name with the indices behind it, or why there is none; want of memory says nothing
abbrev pub IsTarget : List Cell → Tree → Result Target EvalError → Type 0
IsTarget cells tree (Ok found) =
    (found.named.kind ≡ N.Name)
    × ((here : Place) (user : ℕ) (state : State) (next : Spot → Next) →
    target here user tree state next ≡ target here user (branch_tree cells found.named) state
    (λ spot state. resolved cells here user found.indices spot state next))
IsTarget cells tree (Err E.NoMemory) = Unit {0}
IsTarget cells tree (Err e) =
    (here : Place) (user : ℕ) (state : State) (next : Spot → Next) →
    target here user tree state next ≡ Refused e
