-- Plans that can be carried out, and the kernels that they are carried out with.
use Rattle.std.specs.Prelude.{◌≡◌, ℕ, ◌<◌, ◌≤◌, true, false, List, [], length, map, All}
use Rattle.std.specs.List.{Contains}
use Rattle.kernel_calls.specs.Laws.{is_port_name}
use Rattle.kernel_meaning.specs.declared.plan.End.{End}
use Rattle.kernel_meaning.specs.declared.plan.End.TheVariants as E
use Rattle.kernel_meaning.specs.declared.plan.Made.{Made}
use Rattle.kernel_meaning.specs.declared.plan.Plan.{Plan}
use Rattle.stream_graph.specs.declared.kernel.Kernel.{Kernel}

-- the plan has no manager: it is one kernel, and nothing is joined
pub record IsAlone (plan : Plan) : Type 0 where
  pub no_manager : plan.manager ≡ false
  pub one_kernel : length plan.kernels ≡ 1
  pub none_from_cpu : plan.from_cpu ≡ []
  pub none_to_cpu : plan.to_cpu ≡ []
  pub no_joins : plan.joins ≡ []

-- the end is of one of so many kernels, or one of these streams
abbrev pub IsKnown : ℕ → List (List ℕ) → End → Type 0
IsKnown kernels streams (E.Kernel number name) = number < kernels
IsKnown kernels streams (E.Cpu name) = Contains streams name

-- a name that a stream of the CPU can have: one that a port can have, of at most 64 bytes
pub record IsStreamName (name : List ℕ) : Type 0 where
  pub plain : is_port_name name ≡ true
  pub short : length name ≤ 64

-- A manager joins ends of kernels and streams of its own: one to the CPU can stand on the left, and
-- one from the CPU on the right. The streams have names that they can have.
pub record IsManaged (plan : Plan) : Type 0 where
  pub lefts : All (λ join. IsKnown (length plan.kernels) plan.to_cpu join.left) plan.joins
  pub rights : All (λ join. IsKnown (length plan.kernels) plan.from_cpu join.right) plan.joins
  pub from_cpu : All IsStreamName plan.from_cpu
  pub to_cpu : All IsStreamName plan.to_cpu

-- a plan such as building runs make, with or without a manager
pub record IsWholePlan (plan : Plan) : Type 0 where
  pub managed : plan.manager ≡ true → IsManaged plan
  pub alone : plan.manager ≡ false → IsAlone plan

-- one kernel for each of the plan's, of its name, in its order
abbrev pub AreKernelsOf : Plan → List Kernel → Type 0
AreKernelsOf plan kernels =
    map (λ (kernel : Kernel). kernel.name) kernels ≡ map (λ (made : Made). made.name) plan.kernels
