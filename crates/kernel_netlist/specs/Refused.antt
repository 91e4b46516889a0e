-- Why a kernel that has a schedule has no module.
use Rattle.std.specs.Prelude.{ℕ, ◌<◌, ◌^◌, List, [], ◌∷◌, Option, Some, None, codes}
use Rattle.std.specs.Fmt.{decimal}
use Rattle.refusal_line.specs.Lines.{refused}
use Rattle.stream_graph.specs.declared.node.Node.{Node}
use Rattle.latency_table.specs.declared.table.Table.{Table}
use Rattle.kernel_schedule.specs.Schedules.{IsSchedulable}
use Rattle.kernel_plan.specs.declared.error.PlanError.{PlanError}
use Rattle.kernel_plan.specs.declared.error.PlanError.TheVariants as P
use Rattle.kernel_netlist.specs.declared.error.NetlistError.{NetlistError}
use Rattle.kernel_netlist.specs.declared.error.NetlistError.TheVariants as E
use Rattle.kernel_netlist.specs.Bits.{NeedsBits, NeedsFewBits}

-- why a kernel that has no layout has no module
abbrev pub of_plan : PlanError → NetlistError
of_plan (P.TooManyBits bits) = E.TooManyBits bits
of_plan P.NoMemory = E.NoMemory

-- the kernel has a schedule, but its FIFOs hold at least so many bits
pub record NeedsTooMany (table : Table) (nodes : List Node) (bits : ℕ) : Type 0 where
  pub schedulable : IsSchedulable table nodes
  pub needs : NeedsBits table nodes bits
  pub many : 2 ^ 28 < bits

-- the cause of each error. Where memory is wanting, few bits are needed
abbrev pub IsRefused : Table → List Node → NetlistError → Type 0
IsRefused table nodes (E.TooManyBits bits) = NeedsTooMany table nodes bits
IsRefused table nodes E.NoMemory = NeedsFewBits table nodes

-- the line that is said of a kernel of this name. Want of memory says none
abbrev pub said : List ℕ → NetlistError → Option (List ℕ)
said kernel (E.TooManyBits bits) = Some (refused (codes "B1") (kernel ∷ decimal bits ∷ []))
said kernel E.NoMemory = None
