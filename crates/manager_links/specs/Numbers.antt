-- Terminals by their numbers: how they are found by name, and what is kept of each.
use Rattle.std.specs.Prelude.{◌≡◌, ℕ, Bool, ◌&&◌, List, Option, Some, None, nat_eq, slice_get}
use Rattle.std.specs.Cmp.Lexicographic.{pointwise}
use Rattle.std.specs.HashMap.{get_by}
use Rattle.std.specs.List.{AllZip, Contains}
use Rattle.std.specs.Option.{option_eq}
use Rattle.kernel_meaning.specs.declared.plan.Join.{Join}
use Rattle.kernel_meaning.specs.declared.plan.Plan.{Plan}
use Rattle.stream_graph.specs.declared.kernel.Kernel.{Kernel}
use Rattle.stream_graph.specs.Kinds.{is_input, is_output}
use Rattle.manager_links.specs.declared.ends.Ends.{Ends}
use Rattle.manager_links.specs.declared.names.Names.{Names}
use Rattle.manager_links.specs.declared.terminals.Slot.{Slot}
use Rattle.manager_links.specs.declared.terminals.Slot.TheVariants as S
use Rattle.manager_links.specs.declared.terminals.Terminals.{Terminals}
use Rattle.manager_links.specs.Ports.{IsPortOf}
use Rattle.manager_links.specs.Terminals.{
  Terminal,
  Input,
  Output,
  FromCpu,
  ToCpu,
  left_terminal,
  right_terminal,
}

-- ---- names

-- the number of a name, of a kernel or of none
abbrev pub number_in : Names → Option ℕ → List ℕ → Option ℕ
number_in names kernel name =
    get_by (λ key. option_eq nat_eq kernel key.0 && pointwise nat_eq name key.1.now) names.numbers

-- whether two are one name of one kernel, or of none
abbrev pub is_same : Option ℕ → List ℕ → Option ℕ → List ℕ → Bool
is_same kernel name other other_name =
    option_eq nat_eq kernel other && pointwise nat_eq name other_name

-- what a name of a kernel, or of none, is on the left of joins, and on their right
abbrev pub left_of : Option ℕ → List ℕ → Terminal
left_of (Some number) name = Input number name
left_of None name = ToCpu name

abbrev pub right_of : Option ℕ → List ℕ → Terminal
right_of (Some number) name = Output number name
right_of None name = FromCpu name

-- names have the numbers that terminals have in a list
pub record Number (end : Option ℕ → List ℕ → Terminal) (names : Names) (ends : List Terminal)
    : Type 0
  where
    pub found : (kernel : Option ℕ) (name : List ℕ) (number : ℕ)
        → number_in names kernel name ≡ Some number
        → slice_get ends number ≡ Some (end kernel name)
    pub absent : (kernel : Option ℕ) (name : List ℕ) → number_in names kernel name ≡ None
        → Contains ends (end kernel name) → ⊥

-- ---- what is kept of each

-- this is what stands at the number of a terminal
abbrev pub IsSlot : Plan → List Kernel → Terminal → Slot → Type 0
IsSlot plan kernels (Input number name) (S.Port port) = IsPortOf kernels is_input number name port
IsSlot plan kernels (Output number name) (S.Port port) = IsPortOf kernels is_output number name port
IsSlot plan kernels (FromCpu name) (S.FromCpu place) = slice_get plan.from_cpu place ≡ Some name
IsSlot plan kernels (ToCpu name) (S.ToCpu place) = slice_get plan.to_cpu place ≡ Some name
IsSlot plan kernels _ _ = ⊥

-- these terminals are known, in this order
pub record Knows (plan : Plan) (kernels : List Kernel) (ends : List Terminal)
    (known : Terminals) : Type 0
  where
    pub slots : AllZip (IsSlot plan kernels) ends known.slots.items
    pub lefts : Number left_of known.lefts ends
    pub rights : Number right_of known.rights ends

-- ---- joins by the numbers of their ends

-- the numbers of the terminals at which a join ends
pub record AreEnds (ends : List Terminal) (join : Join) (numbers : Ends) : Type 0 where
  pub left : slice_get ends numbers.left ≡ Some (left_terminal join.left)
  pub right : slice_get ends numbers.right ≡ Some (right_terminal join.right)
