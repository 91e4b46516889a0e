-- The module of a kernel by a layout at its times.
use Rattle.std.specs.Prelude.{◌≡◌, ◌+◌, ◌<◌, ◌≤◌, ◌^◌, ℤ, List, length}
use Rattle.rtl_ir.specs.declared.design.Module.{Module}
use Rattle.rtl_reading.specs.Reads.{IsPortsFirst}
use Rattle.stream_graph.specs.declared.kernel.Kernel.{Kernel}
use Rattle.rtl_delays.specs.Partial.{IsPartial}
use Rattle.rtl_delays.specs.Stored.{stored_bits}
use Rattle.kernel_layout.specs.declared.layout.Layout.{Layout}
use Rattle.kernel_stages.specs.Numbers.{
  ring_count,
  pipeline_bits,
  all_word_bits,
  all_pointer_bits,
}
use Rattle.kernel_states.specs.States.{state_bits}
use Rattle.kernel_control.specs.Refines.{Refines}
use Rattle.kernel_rtl.specs.Planned.{times_of, widths_of, most_nets}

-- the module refines the kernel at these times and stores what the layout says
pub record IsModuleOf (kernel : Kernel) (times : List ℤ) (layout : Layout) (m : Module) : Type 0
  where
    pub refines : Refines m kernel (times_of times)
    pub ports_first : IsPortsFirst m
    pub stored :
        stored_bits m
        ≡ 48 + state_bits kernel.nodes
        + pipeline_bits (widths_of kernel.nodes) layout.pipeline
        + all_word_bits (widths_of kernel.nodes) layout.waits
        + all_pointer_bits layout.waits
    pub nets : length m.nets ≤ most_nets kernel.nodes layout
    pub mems : length m.mems ≤ ring_count layout.waits
    pub partial : IsPartial m
    pub few_nets : length m.nets < 2 ^ 64
    pub few_mems : length m.mems < 2 ^ 64
