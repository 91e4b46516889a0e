-- The ports of a kernel's module: their names and widths in order, and the nets by which a run sees
-- them.
use Rattle.std.specs.Prelude.{ℕ, ◌+◌, ◌*◌, List, [], ◌∷◌, ◌++◌, map, length, codes}
use Rattle.rtl_ir.specs.declared.design.Module.{Module}
use Rattle.rtl_ir.specs.Run.{Channel}
use Rattle.rtl_ir.specs.Ports.{
  PortView,
  input_port,
  output_port,
  host_input_ports,
  host_output_ports,
  net_at,
  nets_from,
}
use Rattle.stream_graph.specs.declared.node.Node.{Node}
use Rattle.stream_graph.specs.LookUps.{node_at, width_at}
pub use Rattle.stream_graph.specs.KernelPorts.{numbers_from, inputs_of, outputs_of, scalars_of}

-- a port's name, and the width of its words
abbrev pub port_shape : List Node → ℕ → List ℕ × ℕ
port_shape nodes n = ((node_at nodes n).name, width_at nodes n)

abbrev pub scalar_ports : List (List ℕ × ℕ) → List PortView
scalar_ports [] = []
scalar_ports (a ∷ rest) = input_port (codes "scalar$" ++ a.0) a.1 ∷ scalar_ports rest

-- The ports of the module of a kernel of these nodes: the clock, the reset, whether it is held, the
-- number of its ticks; each scalar; each input with its data, valid and ready; each output with its
-- data, valid and ready; and whether it has ended. Ports of a kind stand in node order.
abbrev pub module_ports : List Node → List PortView
module_ports nodes =
    input_port (codes "clk") 1
    ∷ input_port (codes "reset") 1
    ∷ input_port (codes "hold$") 1
    ∷ input_port (codes "ticks$") 48
    ∷ (scalar_ports (map (port_shape nodes) (scalars_of nodes))
    ++ host_input_ports (map (port_shape nodes) (inputs_of nodes))
    ++ host_output_ports (map (port_shape nodes) (outputs_of nodes))
    ++ output_port (codes "ended$") 1 ∷ [])

-- a port of a kernel, by its node, and its nets
pub record PortChannel : Type 0 where
  pub node : ℕ
  pub channel : Channel

-- the nets of the ports, and that of the position
pub record ModuleNets : Type 0 where
  pub clock : ℕ
  pub reset : ℕ
  pub hold : ℕ
  pub ticks : ℕ
  pub scalars : List ℕ
  pub inputs : List PortChannel
  pub outputs : List PortChannel
  pub ended : ℕ
  pub position : ℕ

-- the channels of these nodes, three ports at a time from number k on
abbrev pub channels_of : Module → ℕ → List ℕ → List PortChannel
channels_of m k [] = []
channels_of m k (n ∷ ns) =
    record {
      node = n;
      channel = record { word = net_at m k; valid = net_at m (k + 1); ready = net_at m (k + 2) };
    }
    ∷ channels_of m (k + 3) ns

-- the number of the first port of each kind
abbrev pub first_input : List Node → ℕ
first_input nodes = 4 + length (scalars_of nodes)

abbrev pub first_output : List Node → ℕ
first_output nodes = first_input nodes + 3 * length (inputs_of nodes)

abbrev pub ended_port : List Node → ℕ
ended_port nodes = first_output nodes + 3 * length (outputs_of nodes)

-- the nets of a module with these ports, and with its position at a net
abbrev pub nets_of : List Node → Module → ℕ → ModuleNets
nets_of nodes m position = record {
  clock = net_at m 0;
  reset = net_at m 1;
  hold = net_at m 2;
  ticks = net_at m 3;
  scalars = nets_from m 4 (scalars_of nodes);
  inputs = channels_of m (first_input nodes) (inputs_of nodes);
  outputs = channels_of m (first_output nodes) (outputs_of nodes);
  ended = net_at m (ended_port nodes);
  position = position;
}
