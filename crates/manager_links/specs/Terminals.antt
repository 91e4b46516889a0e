-- What a join ends at, and all that joins can end at.
use Rattle.std.specs.Prelude.{ℕ, ◌+◌, List, [], ◌∷◌, ◌++◌, map, Option, Some, None, slice_get}
use Rattle.std.specs.List.{filter_map}
use Rattle.std.specs.Option.{option_map_or}
use Rattle.kernel_meaning.specs.declared.plan.End.{End}
use Rattle.kernel_meaning.specs.declared.plan.End.TheVariants as E
use Rattle.kernel_meaning.specs.declared.plan.Join.{Join}
use Rattle.kernel_meaning.specs.declared.plan.Plan.{Plan}
use Rattle.stream_graph.specs.declared.kernel.Kernel.{Kernel}
use Rattle.stream_graph.specs.declared.node.Kind.{Kind}
use Rattle.stream_graph.specs.declared.node.Kind.TheVariants as K
use Rattle.stream_graph.specs.declared.node.Node.{Node}
use Rattle.manager_links.specs.declared.error.EndName.{EndName}
use Rattle.manager_links.specs.declared.error.EndName.TheVariants as N

-- an input or an output of a kernel, by the kernel's number and its own name, or a stream from or
-- to the CPU, by its name
pub data Terminal : Type 0 where
  Input : ℕ → List ℕ → Terminal
  Output : ℕ → List ℕ → Terminal
  FromCpu : List ℕ → Terminal
  ToCpu : List ℕ → Terminal

-- words go to the left end of a join, and come from its right end
abbrev pub left_terminal : End → Terminal
left_terminal (E.Kernel number name) = Input number name
left_terminal (E.Cpu name) = ToCpu name

abbrev pub right_terminal : End → Terminal
right_terminal (E.Kernel number name) = Output number name
right_terminal (E.Cpu name) = FromCpu name

-- the terminals at which joins end, in the order of the joins, of each the left one first
abbrev pub ends_of : List Join → List Terminal
ends_of [] = []
ends_of (join ∷ joins) = left_terminal join.left ∷ right_terminal join.right ∷ ends_of joins

-- what a node of the kernel of this number is, if it is an input or an output
abbrev pub terminal_by : ℕ → Kind → List ℕ → Option Terminal
terminal_by number K.Input name = Some (Input number name)
terminal_by number K.Output name = Some (Output number name)
terminal_by number _ name = None

abbrev pub terminal_of : ℕ → Node → Option Terminal
terminal_of number node = terminal_by number node.view.kind node.name

-- the inputs and outputs of kernels, which are numbered from this number on, in node order
abbrev pub ports_from : ℕ → List Kernel → List Terminal
ports_from number [] = []
ports_from number (kernel ∷ kernels) =
    filter_map (terminal_of number) kernel.nodes ++ ports_from (number + 1) kernels

-- those of the kernel of this number
abbrev pub ports_at : List Kernel → ℕ → List Terminal
ports_at kernels number =
    option_map_or (λ (kernel : Kernel). filter_map (terminal_of number) kernel.nodes)
    (slice_get kernels number) []

-- all terminals: the ports of the kernels, then the streams from the CPU, then those to the CPU
abbrev pub terminals : Plan → List Kernel → List Terminal
terminals plan kernels =
    ports_from 0 kernels ++ (map FromCpu plan.from_cpu ++ map ToCpu plan.to_cpu)

-- ---- how they are said

-- the name of the kernel of this number
abbrev pub kernel_name : List Kernel → ℕ → List ℕ
kernel_name kernels number =
    option_map_or (λ (kernel : Kernel). kernel.name) (slice_get kernels number) []

-- a port is said by the names of its kernel and its own
abbrev pub said_as : List Kernel → Terminal → EndName
said_as kernels (Input number name) = N.Port (kernel_name kernels number) name
said_as kernels (Output number name) = N.Port (kernel_name kernels number) name
said_as kernels (FromCpu name) = N.Cpu name
said_as kernels (ToCpu name) = N.Cpu name
