-- When a netlist has the ports of a kernel's module and nothing else, and these are their signals.
use Rattle.std.specs.Prelude.{◌≡◌, ℕ, ◌<◌, false, List, ◌++◌, map, length, codes, All, IsTrue}
use Rattle.rtl_ir.specs.declared.design.Module.{Module}
use Rattle.rtl_ir.specs.Names.{is_name}
use Rattle.rtl_ir.specs.Formed.{name_of, has_bit_input}
use Rattle.rtl_ir.specs.Ports.{ports_of}
use Rattle.rtl_build.specs.declared.signal.Signal.{Signal}
use Rattle.rtl_build.specs.Ports.{HasOutput}
use Rattle.rtl_delays.specs.Partial.{HasPortsAlone, is_own_name}
use Rattle.stream_graph.specs.declared.kernel.Kernel.{Kernel}
use Rattle.stream_graph.specs.declared.node.Node.{Node}
use Rattle.stream_graph.specs.LookUps.{width_at}
use Rattle.kernel_control.specs.Ports.{
  PortChannel,
  ModuleNets,
  scalars_of,
  module_ports,
  nets_of,
}
use Rattle.kernel_control.specs.Nets.{HasWidth, HasBitOutput}
use Rattle.kernel_ports.specs.declared.signals.NodeSignal.{NodeSignal}
use Rattle.kernel_ports.specs.declared.signals.StreamSignals.{StreamSignals}
use Rattle.kernel_ports.specs.declared.signals.KernelSignals.{KernelSignals}

-- What acceptance asks of the name and the ports of a finished module: the ports have names that
-- differ, none of which the module gives to a net of its own, and there are a clock and a reset.
pub record HasNamedPorts (m : Module) : Type 0 where
  pub name : IsTrue (is_name m.name)
  pub port_names : (k : ℕ) → k < length m.ports → IsTrue (is_name (name_of m k))
  pub port_apart : (k : ℕ) → k < length m.ports → is_own_name (name_of m k) ≡ false
  pub ports_differ :
      (j k : ℕ)
      → j < length m.ports
      → k < length m.ports
      → name_of m j ≡ name_of m k
      → j ≡ k
  pub clock : IsTrue (has_bit_input m (codes "clk"))
  pub reset : IsTrue (has_bit_input m (codes "reset"))

-- the signal is an output of the module, of this width
pub record HasWideOutput (m : Module) (w : ℕ) (s : Signal) : Type 0 where
  pub output : HasOutput m s
  pub width : s.width ≡ w

-- the port of a scalar is an input of the width of its type
pub record IsScalarPort (nodes : List Node) (m : Module) (s : NodeSignal) : Type 0 where
  pub signal : HasWidth m (width_at nodes s.node) s.signal

-- of an input the word and whether it is valid are inputs, and whether it is taken is an output
pub record IsInputPort (nodes : List Node) (m : Module) (s : StreamSignals) : Type 0 where
  pub word : HasWidth m (width_at nodes s.node) s.word
  pub valid : HasWidth m 1 s.valid
  pub ready : HasBitOutput m s.ready

-- of an output the word and whether it is valid are outputs, and whether there is room is an input
pub record IsOutputPort (nodes : List Node) (m : Module) (s : StreamSignals) : Type 0 where
  pub word : HasWideOutput m (width_at nodes s.node) s.word
  pub valid : HasBitOutput m s.valid
  pub ready : HasWidth m 1 s.ready

-- the nets of a stream's ports
abbrev pub channel_of : StreamSignals → PortChannel
channel_of s = record {
  node = s.node;
  channel = record { word = s.word.net; valid = s.valid.net; ready = s.ready.net };
}

-- the nets of all ports, and the net of the position
abbrev pub nets_by : KernelSignals → ℕ → ModuleNets
nets_by s position = record {
  clock = 0;
  reset = s.reset.net;
  hold = s.hold.net;
  ticks = s.ticks.net;
  scalars = map (λ (a : NodeSignal). a.signal.net) s.scalars;
  inputs = map channel_of s.inputs;
  outputs = map channel_of s.outputs;
  ended = s.ended.net;
  position = position;
}

-- The module has the name and the ports of the kernel's module, and nothing else. The signals are
-- those of its ports, each of its width, and their nets are those by which a run sees the module.
pub record HasKernelPorts (kernel : Kernel) (m : Module) (s : KernelSignals) : Type 0 where
  pub name : m.name ≡ codes "kernel$" ++ kernel.name
  pub ports : ports_of m ≡ module_ports kernel.nodes
  pub alone : HasPortsAlone m
  pub named : HasNamedPorts m
  pub reset : HasWidth m 1 s.reset
  pub hold : HasWidth m 1 s.hold
  pub ticks : HasWidth m 48 s.ticks
  pub scalars : All (IsScalarPort kernel.nodes m) s.scalars
  pub inputs : All (IsInputPort kernel.nodes m) s.inputs
  pub outputs : All (IsOutputPort kernel.nodes m) s.outputs
  pub ended : HasBitOutput m s.ended
  pub scalar_nodes : map (λ (a : NodeSignal). a.node) s.scalars ≡ scalars_of kernel.nodes
  pub nets : (position : ℕ) → nets_by s position ≡ nets_of kernel.nodes m position
