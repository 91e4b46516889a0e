-- What the steps of joining a manager's plan ask for and say.
use Rattle.std.specs.Prelude.{◌≡◌, ℕ, ◌<◌, Bool, true, false, List, length, slice_get, IsSomeAnd}
use Rattle.kernel_meaning.specs.declared.plan.End.{End}
use Rattle.kernel_meaning.specs.declared.plan.End.TheVariants as E
use Rattle.kernel_meaning.specs.declared.plan.Join.{Join}
use Rattle.kernel_meaning.specs.declared.plan.Plan.{Plan}
use Rattle.stream_graph.specs.declared.kernel.Kernel.{Kernel}
use Rattle.manager_links.specs.declared.error.EndName.{EndName}
use Rattle.manager_links.specs.declared.error.EndName.TheVariants as N
use Rattle.manager_links.specs.declared.error.LinkError.{LinkError}
use Rattle.manager_links.specs.declared.error.LinkError.TheVariants as L
use Rattle.manager_links.specs.declared.links.LinkEnds.{LinkEnds}
use Rattle.manager_links.specs.declared.terminals.Slot.{Slot}
use Rattle.manager_links.specs.declared.terminals.Slot.TheVariants as S
use Rattle.manager_links.specs.Lists.{IsFirst}
use Rattle.manager_links.specs.Plans.{IsManaged, AreKernelsOf}
use Rattle.manager_links.specs.Ports.{type_of}
use Rattle.manager_links.specs.Rules.{NamesDiffer, AreFew, IsUnknown, IsHostToHost, HasTwoTypes}
use Rattle.manager_links.specs.Terminals.{
  Terminal,
  left_terminal,
  right_terminal,
  ends_of,
  said_as,
}

-- a manager's plan and its kernels, once their names are known to differ
pub record IsReady (plan : Plan) (kernels : List Kernel) : Type 0 where
  pub managed : IsManaged plan
  pub named : AreKernelsOf plan kernels
  pub names : NamesDiffer plan kernels
  pub few : AreFew kernels

-- ---- ends by names

-- where an end is of a kernel, it is one of these
abbrev pub IsOfThese : List Kernel → End → Type 0
IsOfThese kernels (E.Kernel number name) = number < length kernels
IsOfThese kernels (E.Cpu name) = Unit {0}

-- the end is said so, on whichever side it stands
pub record IsSaidAs (kernels : List Kernel) (end : End) (said : EndName) : Type 0 where
  pub left : said ≡ said_as kernels (left_terminal end)
  pub right : said ≡ said_as kernels (right_terminal end)

-- the error says an end that is a kernel's port
abbrev pub IsPortOfKernel : List Kernel → End → LinkError → Type 0
IsPortOfKernel kernels end (L.UnknownPort kernel name) =
    IsSaidAs kernels end (N.Port kernel name)
IsPortOfKernel kernels end error = ⊥

-- ---- refusals by the steps that find them

-- the first end that names nothing
pub record IsFirstUnknown (plan : Plan) (kernels : List Kernel) (kernel name : List ℕ) : Type 0
  where
    pub end : Terminal
    pub first : IsFirst (IsUnknown plan kernels) (ends_of plan.joins) end
    pub said : said_as kernels end ≡ N.Port kernel name

abbrev pub SaysUnknown : Plan → List Kernel → LinkError → Type 0
SaysUnknown plan kernels (L.UnknownPort kernel name) = IsFirstUnknown plan kernels kernel name
SaysUnknown plan kernels error = error ≡ L.NoMemory

-- the first join with streams of the CPU on both sides
pub record IsFirstHostToHost (joins : List Join) (name : List ℕ) : Type 0 where
  pub join : Join
  pub first : IsFirst IsHostToHost joins join
  pub said : join.left ≡ E.Cpu name

abbrev pub SaysHostToHost : List Join → LinkError → Type 0
SaysHostToHost joins (L.HostToHost name) = IsFirstHostToHost joins name
SaysHostToHost joins error = error ≡ L.NoMemory

-- the first link between ports of two types
pub record IsFirstOfTwoTypes (plan : Plan) (kernels : List Kernel) (said : EndName) : Type 0 where
  pub join : Join
  pub first : IsFirst (HasTwoTypes kernels) plan.joins join
  pub is : said ≡ said_as kernels (left_terminal join.left)

abbrev pub SaysTypeDiffers : Plan → List Kernel → LinkError → Type 0
SaysTypeDiffers plan kernels (L.TypeDiffers said) = IsFirstOfTwoTypes plan kernels said
SaysTypeDiffers plan kernels error = error ≡ L.NoMemory

-- ---- links

abbrev pub is_port : Slot → Bool
is_port (S.Port port) = true
is_port _ = false

-- a port stands at a number
abbrev pub IsPortSlot : List Slot → ℕ → Type 0
IsPortSlot slots number = IsSomeAnd (slice_get slots number) (λ slot. is_port slot ≡ true)

-- the ports of a link have one type
abbrev pub HaveOneType : List Kernel → LinkEnds → Type 0
HaveOneType kernels link = type_of kernels link.from ≡ type_of kernels link.to
