-- Members that are no fields are passed over.
use Rattle.std.specs.Prelude.{◌≡◌, ◌≤◌, ◌-◌, ℕ}
use Rattle.kernel_meaning.specs.declared.state.State.{State}
use Rattle.kernel_meaning.specs.Answer.{Next}
use Rattle.kernel_meaning.specs.Constructors.{set_fields}
use Rattle.kernel_meaning.specs.Run.{Place}
use Rattle.kernel_plans.specs.Classes.{members}
use Rattle.kernel_machine.specs.Left.{from_place}
use Rattle.kernel_machine.proofs.fields.next_field.Given as goal

abbrev pub invariant-loop-place : goal.invariant-loop-place
invariant-loop-place l =
    (l.from ≤ l.place)
    × ((here : Place) (before : ℕ) (state : State) (next : Next)
    → set_fields here before (from_place l.from (members l.class)) state next
    ≡ set_fields here before (from_place l.place (members l.class)) state next)

abbrev pub decreases-loop-place : goal.decreases-loop-place
decreases-loop-place l = l.count - l.place
