-- How many nets the module of a kernel has.
use Rattle.std.proofs.Common.{◌≡◌, ℕ, ◌+◌, ◌*◌, ◌≤◌, List, [], ◌∷◌, ◌++◌, map, length, Option, ap, arith, length-append}
use Rattle.rtl_ir.specs.declared.design.Module.{Module}
use Rattle.rtl_ir.specs.Ports.{PortView, output_port, host_input_ports, host_output_ports, port_view}
use Rattle.std.specs.Prelude.{codes}
use Rattle.rtl_build.specs.declared.signal.Signal.{Signal}
use Rattle.stream_graph.specs.declared.kernel.Kernel.{Kernel}
use Rattle.stream_graph.specs.declared.node.Node.{Node}
use Rattle.kernel_control.specs.Ports.{scalars_of, inputs_of, outputs_of, port_shape, scalar_ports, module_ports, ended_port}
use Rattle.kernel_ports.specs.declared.signals.StreamSignals.{StreamSignals}
use Rattle.kernel_ports.specs.declared.signals.KernelSignals.{KernelSignals}
use Rattle.kernel_ports.specs.HasKernelPorts.{HasKernelPorts}
use Rattle.kernel_ports.proofs.Whole.{count_scalars, count_inputs, count_outputs}
use Rattle.kernel_stages.specs.Chains.{joined, ring_delays}
use Rattle.kernel_stages.proofs.Chaining.{joined_rings}
use Rattle.kernel_states.specs.States.{step_nets}
use Rattle.kernel_wiring.specs.Costs.{word_nets}
use Rattle.kernel_layout.specs.declared.layout.Layout.{Layout}
use Rattle.kernel_rtl.specs.declared.storage.Storage.{Storage}
use Rattle.kernel_rtl.specs.Planned.{most_nets}
use Rattle.kernel_rtl.specs.Storage.{AddsStorage}
use Rattle.kernel_rtl.specs.Handshakes.{input_handshake, output_handshake, handshakes_of}
use Rattle.kernel_rtl.proofs.Numbers.{map_length}
use Rattle.kernel_rtl.proofs.Starting.{all_stand}
use Rattle.kernel_rtl.proofs.Joining.{input_nodes, output_nodes}

-- the ports of the module are numbered up to the one that says whether it has ended
ports_count : (nodes : List Node) → length (module_ports nodes) ≡ ended_port nodes + 1
ports_count nodes =
    let scalars = scalar_ports (map (port_shape nodes) (scalars_of nodes)) in
    let inputs = host_input_ports (map (port_shape nodes) (inputs_of nodes)) in
    let outputs = host_output_ports (map (port_shape nodes) (outputs_of nodes)) in
    let last : List PortView = output_port (codes "ended$") 1 ∷ [] in
    let a = length-append (scalars ++ inputs ++ outputs) last in
    let b = length-append (scalars ++ inputs) outputs in
    let c = length-append scalars inputs in
    let i = count_scalars nodes (scalars_of nodes) in
    let j = count_inputs nodes (inputs_of nodes) in
    let k = count_outputs nodes (outputs_of nodes) in
    omega (arith, a, b, c, i, j, k)

-- a control has a handshake for each input and output
handshake_count : (kernel : Kernel) (times : ℕ → ℕ) (enables : ℕ → Option Signal) (m : Module) (ports : KernelSignals) → HasKernelPorts kernel m ports
    → length (handshakes_of times enables ports) ≡ length (inputs_of kernel.nodes) + length (outputs_of kernel.nodes)
handshake_count kernel times enables m ports p =
    let input = input_handshake times enables in
    let output = output_handshake times enables in
    let a = length-append (map input ports.inputs) (map output ports.outputs) in
    let b = map_length input ports.inputs in
    let c = map_length output ports.outputs in
    let d = map_length (λ (s : StreamSignals). s.node) ports.inputs in
    let e = map_length (λ (s : StreamSignals). s.node) ports.outputs in
    let i = ap length (input_nodes kernel m ports p) in
    let j = ap length (output_nodes kernel m ports p) in
    omega (arith, a, b, c, d, e, i, j)

-- the nets after each step together
pub net_count : (kernel : Kernel) (times : ℕ → ℕ) (enables : ℕ → Option Signal) (layout : Layout) (a b c d e f : Module) (ports : KernelSignals)
    (storage : Storage) → HasKernelPorts kernel a ports → AddsStorage a b kernel.nodes layout storage
    → length c.nets ≤ length b.nets + word_nets kernel.nodes
    → length d.nets ≤ length c.nets + 11 * length (handshakes_of times enables ports) + 12
    → length e.nets ≤ length d.nets + 8 * ring_delays (joined storage.delays)
    → length f.nets ≤ length e.nets + step_nets kernel.nodes
    → length f.nets ≤ most_nets kernel.nodes layout
net_count kernel times enables layout a b c d e f ports storage p s w t z y =
    let own = p.alone.nets in
    let views = map_length (port_view a) a.ports in
    let named = ap length p.ports in
    let count = ports_count kernel.nodes in
    let first = s.nets in
    let stand = all_stand b s.between s.memory (joined storage.delays) (length b.nets) (length b.mems) s.free in
    let rings = joined_rings b layout.pipeline layout.waits storage.delays s.late stand in
    let shakes = handshake_count kernel times enables a ports p in
    omega (arith, own, views, named, count, first, rings, shakes, w, t, z, y)
