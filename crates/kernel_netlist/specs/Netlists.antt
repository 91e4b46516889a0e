-- The module of a kernel at its least schedule, and what a report says of the kernel.
use Rattle.std.specs.Prelude.{◌≡◌, ℕ, ◌+◌, ◌*◌, ◌<◌, ◌≤◌, ◌^◌, ℤ, pos, ◌≤ℤ◌, List, length}
use Rattle.std.specs.List.{All}
use Rattle.cycle_find.specs.Constraints.{numbers_of}
use Rattle.rtl_ir.specs.declared.design.Mem.{Mem}
use Rattle.rtl_ir.specs.declared.design.Module.{Module}
use Rattle.rtl_ir.specs.declared.design.Net.{Net}
use Rattle.rtl_ir.specs.Formed.{name_of}
use Rattle.rtl_reading.specs.Reads.{IsPortsFirst}
use Rattle.rtl_delays.specs.Stored.{stored_bits}
use Rattle.stream_graph.specs.declared.kernel.Kernel.{Kernel}
use Rattle.stream_graph.specs.declared.node.Node.{Node}
use Rattle.latency_table.specs.declared.table.Table.{Table}
use Rattle.offset_edges.specs.Edges.{edges_of}
use Rattle.offset_edges.specs.Latencies.{ticks_of}
use Rattle.offset_edges.specs.Schedules.{fifo_bits}
use Rattle.kernel_schedule.specs.Beginning.{BeginsAtZero}
use Rattle.kernel_schedule.specs.Schedules.{IsSchedulable, IsLeastLegal}
use Rattle.kernel_report.specs.Judging.{IsShown}
use Rattle.schedule_report.specs.Reports.{IsKernelPart}
use Rattle.kernel_layout.specs.declared.layout.Layout.{Layout}
use Rattle.kernel_layout.specs.Layouts.{IsLayout}
use Rattle.kernel_stages.specs.Numbers.{all_pointer_bits}
use Rattle.kernel_states.specs.States.{state_bits}
use Rattle.kernel_control.specs.Refines.{Refines}
use Rattle.kernel_wiring.specs.Costs.{port_name, own_name, all_ports, all_nets, all_memories}
use Rattle.kernel_rtl.specs.Planned.{times_of}
use Rattle.kernel_plan.specs.Stored.{latency_bits}
use Rattle.link_fifo.specs.TextNames.{HasTextNames}
use Rattle.kernel_netlist.specs.declared.making.KernelNetlist.{KernelNetlist}

-- The module of a kernel of these nodes has no more ports, nets and memories than its nodes may take
-- and it has beside; and the names of its nets have at most so many bytes each, and fewer those of
-- nets that are no ports, and of memories.
pub record IsSmall (nodes : List Node) (m : Module) : Type 0 where
  pub ports : length m.ports ≤ all_ports nodes
  pub nets : length m.nets ≤ all_nets nodes
  pub mems : length m.mems ≤ all_memories nodes
  pub net_names : All (λ (n : Net). length n.name ≤ port_name) m.nets
  pub own_names : (n : ℕ) → length m.ports ≤ n → length (name_of m n) ≤ own_name
  pub mem_names : All (λ (k : Mem). length k.name ≤ own_name) m.mems

-- What a report says of a kernel at these times, by a table of latencies: it can be printed, and it
-- is shown, so no legal schedule has FIFOs of fewer bits; its bits are those that the FIFOs hold at
-- these times, at most 2^28; and its times are these, and begin at 0.
pub record IsReportOf (table : Table) (kernel : Kernel) (times : List ℤ) (made : KernelNetlist)
    : Type 0
  where
    pub is : IsKernelPart made.part
    pub shown : IsShown table kernel made.part
    pub holds :
        fifo_bits (ticks_of table kernel.nodes) kernel.nodes (edges_of kernel.nodes)
        (numbers_of times)
        ≡ pos made.part.bits
    pub few : made.part.bits ≤ 2 ^ 28
    pub timed :
        (v : ℕ) → v < length kernel.nodes → numbers_of made.part.times v ≡ numbers_of times v
    pub begins :
        BeginsAtZero (edges_of kernel.nodes) (length kernel.nodes) (numbers_of made.part.times)

-- The module of a kernel at its least schedule by a table of latencies, whose times are these, and
-- what a report says of the kernel. There is a time from 0 to 2^46 for each node, in node order, and
-- behind these others may stand. The module refines the kernel at these times, and its ports are its
-- first nets. All its registers and memories are these: the FIFOs of the schedule, which hold the
-- bits that the report says; for each node its width times its latency; the position of 48 bits; the
-- states of holds, counters and chains; and the pointers of the words that are kept in memories.
-- Each of its names has a `$`, is a letter with digits, or is one of four, so none is a reserved
-- word.
pub record IsNetlistOf (table : Table) (kernel : Kernel) (times : List ℤ) (made : KernelNetlist)
    : Type 0
  where
    pub schedulable : IsSchedulable table kernel.nodes
    pub least : IsLeastLegal table kernel.nodes (numbers_of times)
    pub each : length kernel.nodes ≤ length times
    pub begin : (v : ℕ) → v < length kernel.nodes → pos 0 ≤ℤ numbers_of times v
    pub most : (v : ℕ) → v < length kernel.nodes → numbers_of times v ≤ℤ pos (2 ^ 46)
    pub part : IsReportOf table kernel times made
    pub refines : Refines made.inner kernel (times_of times)
    pub ports_first : IsPortsFirst made.inner
    pub layout : Layout
    pub laid : IsLayout kernel.nodes (ticks_of table kernel.nodes) (numbers_of times) layout
    pub stored :
        stored_bits made.inner
        ≡ made.part.bits + latency_bits (ticks_of table kernel.nodes) kernel.nodes + 48
        + state_bits kernel.nodes
        + all_pointer_bits layout.waits
    pub small : IsSmall kernel.nodes made.inner
    pub names : HasTextNames made.inner
