-- Plans that can be carried out: what each kernel is built from, and which ends are joined.
use Rattle.std.specs.Prelude.{
  ◌≡◌,
  ◌<◌,
  ℕ,
  true,
  false,
  List,
  [],
  length,
  map,
  Some,
  All,
  IsTrue,
  slice_get,
}
use Rattle.std.specs.List.{Contains}
use Rattle.kernel_calls.specs.Laws.{is_port_name, IsPortName}
use Rattle.maxj_syntax.specs.Tree.{ClassTree}
use Rattle.kernel_meaning.specs.declared.plan.End.{End}
use Rattle.kernel_meaning.specs.declared.plan.End.TheVariants as P
use Rattle.kernel_meaning.specs.declared.plan.Made.{Made}
use Rattle.kernel_meaning.specs.declared.plan.Plan.{Plan}
use Rattle.kernel_meaning.specs.declared.plan.Side.{Side}
use Rattle.kernel_meaning.specs.declared.plan.Side.TheVariants as W
use Rattle.kernel_meaning.specs.Constructors.{value_of_arg}
use Rattle.kernel_meaning.specs.Sound.{AreSound}

-- the end may stand on this side of a join: a port of a kernel of the plan, or of the plan's
-- streams one to the CPU on the left, and one from the CPU on the right
abbrev pub IsEndOf : Plan → Side → End → Type 0
IsEndOf plan side (P.Kernel number name) = number < length plan.kernels
IsEndOf plan W.Left (P.Cpu name) = Contains plan.to_cpu name
IsEndOf plan W.Right (P.Cpu name) = Contains plan.from_cpu name

-- A kernel that can be built: its name is one, its class is one of these, and its arguments have
-- types with a width.
pub record IsAdded (IsClass : ℕ → Type 0) (made : Made) : Type 0 where
  pub name : IsTrue (is_port_name made.name)
  pub class : IsClass made.class
  pub args : AreSound [] (map value_of_arg made.args)

-- the joins are between ends of the plan, and its streams have names that ports may have
pub record IsJoined (plan : Plan) : Type 0 where
  pub lefts : All (λ join. IsEndOf plan W.Left join.left) plan.joins
  pub rights : All (λ join. IsEndOf plan W.Right join.right) plan.joins
  pub from_cpu : All IsPortName plan.from_cpu
  pub to_cpu : All IsPortName plan.to_cpu

-- one kernel, and nothing is joined
pub record IsUnjoined (plan : Plan) : Type 0 where
  pub one_kernel : length plan.kernels ≡ 1
  pub none_from_cpu : plan.from_cpu ≡ []
  pub none_to_cpu : plan.to_cpu ≡ []
  pub no_joins : plan.joins ≡ []

-- a kernel's class has this number among those of the source
abbrev pub IsKernelClass : List ClassTree → ℕ → Type 0
IsKernelClass classes number =
    (kernel : ClassTree) × (slice_get classes number ≡ Some kernel) × (kernel.manager ≡ false)

-- a plan that can be carried out with the classes of a source
pub record IsSoundPlan (classes : List ClassTree) (plan : Plan) : Type 0 where
  pub kernels : All (IsAdded (IsKernelClass classes)) plan.kernels
  pub managed : plan.manager ≡ true → IsJoined plan
  pub alone : plan.manager ≡ false → IsUnjoined plan
