-- Why a source has no project: the first cause, in the order of its manager's run, of each kernel
-- its run and then what the run makes, and of the rules of joins.
use Rattle.std.specs.Prelude.{◌≡◌, ◌⊎◌, ℕ, true, List, Some, Ok, Err, take, slice_get}
use Rattle.kernel_meaning.specs.declared.error.EvalError.{EvalError}
use Rattle.kernel_meaning.specs.declared.plan.Made.{Made}
use Rattle.kernel_meaning.specs.declared.plan.Plan.{Plan}
use Rattle.kernel_meaning.specs.Answer.{calls_of, end_of}
use Rattle.kernel_meaning.specs.Managers.{source_plan}
use Rattle.manager_links.specs.declared.error.LinkError.{LinkError}
use Rattle.manager_links.specs.Rules.{Refuses as RefusesJoins}
use Rattle.maxj_syntax.specs.Tree.{ClassTree}
use Rattle.project_build.specs.Building.{run_for, IsClassFor, AreKernelsFor}
use Rattle.project_build.specs.declared.error.ProjectError.{ProjectError}
use Rattle.project_build.specs.declared.error.ProjectError.TheVariants.{
  Plan as OfPlan,
  Kernel as OfKernel,
  Graph as OfGraph,
  Links as OfLinks,
  NoMemory,
}
use Rattle.stream_graph.specs.declared.error.GraphError.{GraphError}
use Rattle.stream_graph.specs.declared.kernel.Kernel.{Kernel}
use Rattle.stream_graph.specs.Kernels.{Refuses}

-- why a kernel that is added isn't built: its run is refused, or what the whole run makes breaks a
-- rule of kernels, the first in their order
pub data LacksKernel (classes : List ClassTree) (made : Made) : ProjectError → Type 0 where
  run : (class : ClassTree) (error : EvalError) → IsClassFor classes made class
      → end_of (run_for class made) ≡ Err error → LacksKernel classes made (OfKernel error)
  rule : (class : ClassTree) (error : GraphError) → IsClassFor classes made class
      → end_of (run_for class made) ≡ Ok tt → Refuses (calls_of (run_for class made)) error
      → LacksKernel classes made (OfGraph made.name error)

-- the first kernel that isn't built: those that were added before it are
pub record LacksOne (classes : List ClassTree) (mades : List Made) (error : ProjectError) : Type
    0 where
  pub number : ℕ
  pub made : Made
  pub kernels : List Kernel
  pub before : AreKernelsFor classes (take number mades) kernels
  pub here : slice_get mades number ≡ Some made
  pub lacks : LacksKernel classes made error

-- why these classes have no project
pub data LacksProject (classes : List ClassTree) : ProjectError → Type 0 where
  plan : (error : EvalError) → source_plan classes ≡ Err error
      → LacksProject classes (OfPlan error)
  kernel : {error : ProjectError} (plan : Plan) → source_plan classes ≡ Ok plan
      → LacksOne classes plan.kernels error → LacksProject classes error
  links : (plan : Plan) (kernels : List Kernel) (error : LinkError)
      → source_plan classes ≡ Ok plan → AreKernelsFor classes plan.kernels kernels
      → plan.manager ≡ true → RefusesJoins plan kernels error
      → LacksProject classes (OfLinks error)

-- Each, or memory was short, which says nothing.

abbrev pub MayLackKernel : List ClassTree → Made → ProjectError → Type 0
MayLackKernel classes made error = (error ≡ NoMemory) ⊎ LacksKernel classes made error

abbrev pub MayLackOne : List ClassTree → List Made → ProjectError → Type 0
MayLackOne classes mades error = (error ≡ NoMemory) ⊎ LacksOne classes mades error

abbrev pub MayLackProject : List ClassTree → ProjectError → Type 0
MayLackProject classes error = (error ≡ NoMemory) ⊎ LacksProject classes error
