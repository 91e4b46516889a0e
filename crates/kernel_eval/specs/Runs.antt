-- The building run of a class, by its view.
use Rattle.std.specs.Prelude.{◌≡◌, ℕ, List, Some, false, slice_get}
use Rattle.fix_arith.specs.Types.{HasWidth}
use Rattle.maxj_syntax.specs.Cells.{Cell}
use Rattle.maxj_syntax.specs.Tree.{ClassTree, ProgramIs}
use Rattle.maxj_syntax.specs.declared.tree.Program.{Program}
use Rattle.kernel_meaning.specs.Answer.{Answer}
use Rattle.kernel_meaning.specs.Constructors.{run_of, ctor_of, members_of, step_limit}
use Rattle.kernel_meaning.specs.Nodes.{tree_at}
use Rattle.kernel_meaning.specs.Plans.{Library}
use Rattle.kernel_meaning.specs.declared.plan.Arg.{Arg}
use Rattle.kernel_meaning.specs.declared.plan.Arg.TheVariants as A
use Rattle.kernel_meaning.specs.declared.value.Value.{Value}
use Rattle.kernel_plans.specs.Classes.{ClassView, library_of}

-- the building run of the class of a node with these arguments after the first one
abbrev pub run_with : List Cell → ℕ → Library → List Value → Answer
run_with cells node library args =
    run_of library (members_of (tree_at cells node)) args step_limit
    (ctor_of (members_of (tree_at cells node)))

abbrev pub run_in : ClassView → List Value → Answer
run_in class args = run_with class.cells class.node (library_of class.library) args

-- the class of this number among those of the program is this kernel
pub record IsKernelAt (program : Program) (number : ℕ) (kernel : ClassTree) : Type 0 where
  pub classes : List ClassTree
  pub is : ProgramIs program classes
  pub at : slice_get classes number ≡ Some kernel
  pub host : kernel.manager ≡ false

-- a type that is an argument has a width
abbrev pub IsTyped : Arg → Type 0
IsTyped (A.Stream t) = HasWidth t
IsTyped _ = Unit {0}
