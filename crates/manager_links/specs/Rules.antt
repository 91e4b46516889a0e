-- The rules of joins: which plans are refused, by what, and which aren't.
use Rattle.std.specs.Prelude.{◌≡◌, ◌≢◌, ◌⊎◌, ℕ, ◌≤◌, true, false, List, map, length, All}
use Rattle.std.specs.List.{Contains}
use Rattle.kernel_meaning.specs.declared.plan.Join.{Join}
use Rattle.kernel_meaning.specs.declared.plan.Plan.{Plan}
use Rattle.stream_graph.specs.declared.kernel.Kernel.{Kernel}
use Rattle.stream_graph.specs.Kinds.{is_input, is_output}
use Rattle.manager_links.specs.declared.error.EndName.TheVariants as N
use Rattle.manager_links.specs.declared.error.LinkError.{LinkError}
use Rattle.manager_links.specs.declared.error.LinkError.TheVariants as L
use Rattle.manager_links.specs.declared.links.PortAt.{PortAt}
use Rattle.manager_links.specs.Lists.{AllDiffer, IsFirst, IsFirstAgain}
use Rattle.manager_links.specs.Ports.{IsPortAt, type_of}
use Rattle.manager_links.specs.Terminals.{
  Terminal,
  left_terminal,
  ends_of,
  terminals,
  kernel_name,
  said_as,
}
use Rattle.manager_links.specs.Joined.{is_of_kernel}
use Rattle.manager_links.specs.Loops.{IsKernelLoop}

-- ---- names

abbrev pub kernel_names : List Kernel → List (List ℕ)
kernel_names kernels = map (λ (kernel : Kernel). kernel.name) kernels

-- two kernels, two streams from the CPU and two to the CPU have different names
pub record NamesDiffer (plan : Plan) (kernels : List Kernel) : Type 0 where
  pub of_kernels : AllDiffer (kernel_names kernels)
  pub from_cpu : AllDiffer plan.from_cpu
  pub to_cpu : AllDiffer plan.to_cpu

-- the first name that is met again: among the kernels, else from the CPU, else to the CPU
pub data IsNameAgain (plan : Plan) (kernels : List Kernel) (name : List ℕ) : Type 0 where
  of_kernel : IsFirstAgain (kernel_names kernels) name → IsNameAgain plan kernels name
  of_stream_from : AllDiffer (kernel_names kernels) → IsFirstAgain plan.from_cpu name
      → IsNameAgain plan kernels name
  of_stream_to : AllDiffer (kernel_names kernels) → AllDiffer plan.from_cpu
      → IsFirstAgain plan.to_cpu name → IsNameAgain plan kernels name

-- ---- the number of kernels

pub record AreFew (kernels : List Kernel) : Type 0 where
  pub some : 1 ≤ length kernels
  pub most : length kernels ≤ 64

-- ---- ends

-- joins name nothing by it
abbrev pub IsUnknown : Plan → List Kernel → Terminal → Type 0
IsUnknown plan kernels end = Contains (terminals plan kernels) end → ⊥

-- no join ends at it
abbrev pub IsUnlinked : Plan → Terminal → Type 0
IsUnlinked plan end = Contains (ends_of plan.joins) end → ⊥

-- ---- joins

-- both ends are streams of the CPU
pub record IsHostToHost (join : Join) : Type 0 where
  pub left : is_of_kernel join.left ≡ false
  pub right : is_of_kernel join.right ≡ false

-- both ends are ports of kernels, and their types differ
pub record HasTwoTypes (kernels : List Kernel) (join : Join) : Type 0 where
  pub to : PortAt
  pub from : PortAt
  pub left : IsPortAt kernels is_input join.left to
  pub right : IsPortAt kernels is_output join.right from
  pub differ : type_of kernels to ≢ type_of kernels from

-- ---- refusals

-- what a plan is refused by: the first rule, in this order, that it breaks, where it breaks it first
pub data Refuses (plan : Plan) (kernels : List Kernel) : LinkError → Type 0 where
  same_name : {name : List ℕ} → IsNameAgain plan kernels name
      → Refuses plan kernels (L.SameName name)
  kernel_count : NamesDiffer plan kernels → (AreFew kernels → ⊥)
      → Refuses plan kernels (L.KernelCount (length kernels))
  unknown_port : {kernel name : List ℕ} {end : Terminal} → NamesDiffer plan kernels
      → AreFew kernels → IsFirst (IsUnknown plan kernels) (ends_of plan.joins) end
      → said_as kernels end ≡ N.Port kernel name
      → Refuses plan kernels (L.UnknownPort kernel name)
  linked_twice : {end : Terminal} → NamesDiffer plan kernels → AreFew kernels
      → All (Contains (terminals plan kernels)) (ends_of plan.joins)
      → IsFirstAgain (ends_of plan.joins) end
      → Refuses plan kernels (L.LinkedTwice (said_as kernels end))
  host_to_host : {name : List ℕ} {join : Join} → NamesDiffer plan kernels → AreFew kernels
      → All (Contains (terminals plan kernels)) (ends_of plan.joins)
      → AllDiffer (ends_of plan.joins) → IsFirst IsHostToHost plan.joins join
      → said_as kernels (left_terminal join.left) ≡ N.Cpu name
      → Refuses plan kernels (L.HostToHost name)
  type_differs : {join : Join} → NamesDiffer plan kernels → AreFew kernels
      → All (Contains (terminals plan kernels)) (ends_of plan.joins)
      → AllDiffer (ends_of plan.joins) → All (λ join. IsHostToHost join → ⊥) plan.joins
      → IsFirst (HasTwoTypes kernels) plan.joins join
      → Refuses plan kernels (L.TypeDiffers (said_as kernels (left_terminal join.left)))
  unlinked : {end : Terminal} → NamesDiffer plan kernels → AreFew kernels
      → All (Contains (terminals plan kernels)) (ends_of plan.joins)
      → AllDiffer (ends_of plan.joins) → All (λ join. IsHostToHost join → ⊥) plan.joins
      → All (λ join. HasTwoTypes kernels join → ⊥) plan.joins
      → IsFirst (IsUnlinked plan) (terminals plan kernels) end
      → Refuses plan kernels (L.Unlinked (said_as kernels end))
  kernel_loop : {walk : List ℕ} → NamesDiffer plan kernels → AreFew kernels
      → All (Contains (terminals plan kernels)) (ends_of plan.joins)
      → AllDiffer (ends_of plan.joins) → All (λ join. IsHostToHost join → ⊥) plan.joins
      → All (λ join. HasTwoTypes kernels join → ⊥) plan.joins
      → All (Contains (ends_of plan.joins)) (terminals plan kernels)
      → IsKernelLoop plan.joins walk
      → Refuses plan kernels (L.KernelLoop (map (kernel_name kernels) walk))

-- memory was short, or a manager's plan is refused
abbrev pub MayRefuse : Plan → List Kernel → LinkError → Type 0
MayRefuse plan kernels error =
    (error ≡ L.NoMemory) ⊎ ((plan.manager ≡ true) × Refuses plan kernels error)

-- a plan that meets all of these rules
pub record MeetsRules (plan : Plan) (kernels : List Kernel) : Type 0 where
  pub names : NamesDiffer plan kernels
  pub few : AreFew kernels
  pub known : All (Contains (terminals plan kernels)) (ends_of plan.joins)
  pub once : AllDiffer (ends_of plan.joins)
  pub hosts : All (λ join. IsHostToHost join → ⊥) plan.joins
  pub types : All (λ join. HasTwoTypes kernels join → ⊥) plan.joins
  pub linked : All (Contains (ends_of plan.joins)) (terminals plan kernels)
  pub no_loop : (walk : List ℕ) → IsKernelLoop plan.joins walk → ⊥
