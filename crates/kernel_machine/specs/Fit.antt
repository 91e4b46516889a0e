-- A machine whose values fit: types have widths, and literals few digits.
use Rattle.std.specs.Prelude.{◌≤◌, ℕ, suc, List, [], ◌∷◌, length, Option}
use Rattle.kernel_meaning.specs.Plans.{number_of_trees}
use Rattle.kernel_plans.specs.Trees.{tree_of}
use Rattle.kernel_plans.specs.Classes.{ClassView}
use Rattle.kernel_machine.specs.Left.{parts}
use Rattle.kernel_meaning.specs.declared.row.Row.TheVariants as R
use Rattle.kernel_rows.specs.Fit.{IsFit, AreFit}
use Rattle.kernel_rows.specs.Kept.{AreBoundFit, IsKept}
use Rattle.kernel_machine.specs.declared.task.Task.{Task}
use Rattle.kernel_machine.specs.declared.task.Task.TheVariants as T
use Rattle.kernel_machine.specs.declared.task.Purpose.{Purpose}
use Rattle.kernel_machine.specs.declared.task.Purpose.TheVariants as P
use Rattle.kernel_machine.specs.declared.machine.Frame.{Frame}
use Rattle.kernel_machine.specs.declared.machine.Now.{Now}
use Rattle.kernel_machine.specs.declared.machine.Now.TheVariants as N
use Rattle.kernel_machine.specs.declared.machine.Machine.{Machine}

abbrev pub IsFitPurpose : Purpose → Type 0
IsFitPurpose (P.ForRow (R.Gives value)) = IsFit value
IsFitPurpose _ = Unit {0}

-- braces of at most 65,536 elements have so many of them
abbrev pub HaveSoMany : ClassView → Option ℕ → ℕ → Type 0
HaveSoMany class braces count =
    (number_of_trees (parts (tree_of class.cells braces)) ≤ 65536)
    × (count ≤ number_of_trees (parts (tree_of class.cells braces)))

abbrev pub IsFitTask : ClassView → Task → Type 0
IsFitTask class (T.Operands _ _ _ _ purpose values) = IsFitPurpose purpose × AreFit values
IsFitTask class (T.ChooseFirst at second test) = IsFit test
IsFitTask class (T.ChooseSecond at test first) = IsFit test × IsFit first
IsFitTask class (T.Elements node _ values) =
    AreFit values × HaveSoMany class node (suc (length values))
IsFitTask class (T.Indexed _ array _) = IsFit array
IsFitTask class (T.Combine _ old _) = IsFit old
IsFitTask class (T.Fields place before _ variables) = (before ≤ place) × AreBoundFit variables
IsFitTask class _ = Unit {0}

abbrev pub AreFitTasks : ClassView → List Task → Type 0
AreFitTasks class [] = Unit {0}
AreFitTasks class (task ∷ tasks) = IsFitTask class task × AreFitTasks class tasks

abbrev pub AreFitFrames : ClassView → List Frame → Type 0
AreFitFrames class [] = Unit {0}
AreFitFrames class (frame ∷ frames) =
    AreFitTasks class frame.tasks × AreBoundFit frame.variables × AreFitFrames class frames

abbrev pub IsFitNow : Now → Type 0
IsFitNow (N.Give value) = IsFit value
IsFitNow _ = Unit {0}

pub record IsFitMachine (class : ClassView) (machine : Machine) : Type 0 where
  pub now : IsFitNow machine.now
  pub tasks : AreFitTasks class machine.tasks
  pub callers : AreFitFrames class machine.callers
  pub state : IsKept machine.state
