-- The parts of a node that the machine takes.
use Rattle.std.specs.Prelude.{◌≡◌, ◌<◌, ℕ, suc, List, Option, Some, None, true, false, length}
use Rattle.maxj_syntax.specs.Cells.{Cell}
use Rattle.maxj_syntax.specs.Tree.{Cons}
use Rattle.kernel_plans.specs.declared.branch.Branch.{Branch}
use Rattle.kernel_plans.specs.Trees.{tree_of, trees_of}
use Rattle.kernel_meaning.specs.Ways.{is_absent}
use Rattle.kernel_machine.specs.declared.task.Condition.{Condition}
use Rattle.kernel_machine.specs.declared.task.Condition.TheVariants as C
use Rattle.kernel_machine.specs.Left.{from_place}

-- the part stands at this place of the branch, in every list of nodes
abbrev pub IsPart : Branch → ℕ → Option ℕ → Type 0
IsPart b place part =
    (cells : List Cell) → place < length b.children.now
    → from_place place (trees_of cells b.id b.children.now)
    ≡ Cons (tree_of cells part) (from_place (suc place) (trees_of cells b.id b.children.now))

-- the condition and the step of a `for`, where they are present
abbrev pub IsTest : List Cell → Option ℕ → Condition → Type 0
IsTest cells part C.Always = is_absent (tree_of cells part) ≡ true
IsTest cells part (C.Holds test) = (is_absent (tree_of cells part) ≡ false) × (test ≡ part)

abbrev pub IsStep : List Cell → Option ℕ → Option ℕ → Type 0
IsStep cells part None = is_absent (tree_of cells part) ≡ true
IsStep cells part (Some n) = (is_absent (tree_of cells part) ≡ false) × (part ≡ Some n)
