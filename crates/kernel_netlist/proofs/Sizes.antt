-- The module of a kernel has few parts.
use Rattle.std.proofs.Common.{◌∙◌, ◌*◌, ◌≤◌, List, length, sym, ap, arith}
use Rattle.std.specs.Prelude.{ℤ}
use Rattle.rtl_ir.specs.declared.design.Module.{Module}
use Rattle.rtl_ir.specs.Ports.{PortView, port_view}
use Rattle.stream_graph.specs.declared.kernel.Kernel.{Kernel}
use Rattle.stream_graph.specs.Kinds.{is_input, is_output, is_scalar}
use Rattle.stream_graph.proofs.NodeLemmas.{short_names}
use Rattle.kernel_layout.specs.declared.layout.Layout.{Layout}
use Rattle.kernel_stages.specs.Numbers.{register_count, wait_count, ring_count}
use Rattle.kernel_wiring.specs.OneNode.{operand_count}
use Rattle.kernel_wiring.proofs.Costs.{numbers_counted, nets_parted}
use Rattle.kernel_netlist.specs.Modules.{IsModuleOf}
use Rattle.kernel_netlist.specs.Netlists.{IsSmall}
use Rattle.kernel_netlist.proofs.Lists.{length_map}
use Rattle.kernel_netlist.proofs.Names.{nets_short, own_names_short, mems_short}
use Rattle.kernel_netlist.proofs.Ports.{ports_counted}

pub module_small : (kernel : Kernel) (times : List ℤ) (layout : Layout) (m : Module)
    → IsModuleOf kernel times layout m
    → register_count layout.pipeline ≤ 64 * length kernel.nodes
    → wait_count layout.waits ≤ operand_count kernel.nodes
    → ring_count layout.waits ≤ operand_count kernel.nodes
    → IsSmall kernel.nodes m
module_small kernel times layout m is registers waits rings =
    let nodes = kernel.nodes in
    let scalars = numbers_counted is_scalar 0 nodes in
    let inputs = numbers_counted is_input 0 nodes in
    let outputs = numbers_counted is_output 0 nodes in
    let parted = nets_parted nodes nodes in
    let nets = is.nets in
    let mems = is.mems in
    let views = sym (length_map (port_view m) m.ports)
    ∙ ap (λ (l : List PortView). length l) is.refines.ports in
    let ports = ports_counted nodes in
    record {
      ports = omega (arith, views, ports);
      nets = omega (arith, nets, scalars, inputs, outputs, parted, registers, waits, rings);
      mems = omega (arith, mems, rings);
      net_names =
          nets_short nodes m is.partial is.refines.ports (short_names nodes kernel.made)
          is.few_nets is.few_mems;
      own_names = own_names_short m is.partial is.few_nets;
      mem_names = mems_short nodes m is.partial is.refines.ports is.few_nets is.few_mems;
    }
