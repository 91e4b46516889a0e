-- What a machine may still cost: each step costs some of it.
use Rattle.std.specs.Prelude.{◌<◌, ℕ, ◌*◌, ◌+◌, ◌-◌, Option, List, [], ◌∷◌, length, Result, Ok, Err}
use Rattle.kernel_meaning.specs.declared.error.EvalError.{EvalError}
use Rattle.kernel_meaning.specs.Plans.{number_of_trees}
use Rattle.kernel_plans.specs.Trees.{tree_of}
use Rattle.kernel_plans.specs.Classes.{ClassView, members}
use Rattle.kernel_machine.specs.declared.task.Task.{Task}
use Rattle.kernel_machine.specs.declared.task.Task.TheVariants as T
use Rattle.kernel_machine.specs.declared.machine.Frame.{Frame}
use Rattle.kernel_machine.specs.declared.machine.Now.{Now}
use Rattle.kernel_machine.specs.declared.machine.Now.TheVariants as N
use Rattle.kernel_machine.specs.declared.machine.Event.{Event}
use Rattle.kernel_machine.specs.declared.machine.Event.TheVariants.{Ended}
use Rattle.kernel_machine.specs.declared.machine.Machine.{Machine}
use Rattle.kernel_machine.specs.Left.{parts}

-- the elements of braces from a place on
abbrev pub elements_weight : ClassView → Option ℕ → ℕ → ℕ
elements_weight class node place =
    32 * (number_of_trees (parts (tree_of class.cells node)) - place)

abbrev pub weight : ClassView → Task → ℕ
weight class (T.Operands _ _ _ _ _ _) = 48
weight class (T.Indexed _ _ _) = 32
weight class (T.Combine _ _ _) = 24
weight class (T.Elements braces _ values) = elements_weight class braces (length values) - 8
weight class (T.Fields place _ _ _) = 16 + 32 * (number_of_trees (members class) - place)
weight class _ = 16

abbrev pub weights : ClassView → List Task → ℕ
weights class [] = 0
weights class (task ∷ tasks) = weight class task + weights class tasks

abbrev pub waiting : ClassView → List Frame → ℕ
waiting class [] = 0
waiting class (frame ∷ frames) = 16 + weights class frame.tasks + waiting class frames

abbrev pub busy : Now → ℕ
busy (N.Give value) = 4
busy (N.Braces part of) = 6
busy _ = 0

-- beside what it does now
abbrev pub idle : ClassView → Machine → ℕ
idle class machine =
    128 * machine.state.left + weights class machine.tasks + waiting class machine.callers

abbrev pub load : ClassView → Machine → ℕ
load class machine = idle class machine + busy machine.now

-- where the run goes on, the machine costs less than this
abbrev pub CostsBelow : ClassView → ℕ → Result Event EvalError → Machine → Type 0
CostsBelow class bound (Ok Ended) new = Unit {0}
CostsBelow class bound (Ok event) new = load class new < bound
CostsBelow class bound (Err e) new = Unit {0}
