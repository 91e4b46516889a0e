-- Ports that a module gains, and their signals.
use Rattle.std.specs.Prelude.{◌≡◌, ℕ, ◌+◌, List, [], ◌∷◌, ◌++◌, length}
use Rattle.rtl_ir.specs.declared.design.Module.{Module}
use Rattle.rtl_ir.specs.Ports.{PortView, ports_of}
use Rattle.rtl_build.specs.declared.signal.Signal.{Signal}
use Rattle.rtl_delays.specs.Partial.{HasPortsAlone}
use Rattle.stream_graph.specs.declared.node.Node.{Node}
use Rattle.stream_graph.specs.LookUps.{width_at}
use Rattle.kernel_control.specs.Ports.{
  scalars_of,
  inputs_of,
  outputs_of,
  first_input,
  first_output,
  ended_port,
}
use Rattle.kernel_ports.specs.declared.signals.KernelSignals.{KernelSignals}
use Rattle.kernel_ports.specs.declared.signals.NodeSignal.{NodeSignal}
use Rattle.kernel_ports.specs.declared.signals.StreamSignals.{StreamSignals}

-- These ports were added, the last ones, each of a net of its own, and nothing else.
pub record AddsPorts (old new : Module) (more : List PortView) : Type 0 where
  pub name : new.name ≡ old.name
  pub ports : ports_of new ≡ ports_of old ++ more
  pub nets : length new.nets ≡ length old.nets + length more
  pub alone : HasPortsAlone new

-- net number k, of this width
abbrev pub signal_at : ℕ → ℕ → Signal
signal_at k width = record { net = k; width = width }

-- the port of a scalar, at net number k
abbrev pub scalar_at : ℕ → ℕ → ℕ → NodeSignal
scalar_at node k width = record { node = node; signal = signal_at k width }

-- the three ports of a stream, from net number k on
abbrev pub stream_at : ℕ → ℕ → ℕ → StreamSignals
stream_at node k width = record {
  node = node;
  word = signal_at k width;
  valid = signal_at (k + 1) 1;
  ready = signal_at (k + 2) 1;
}

-- the ports of these nodes, from net number k on, as scalars
abbrev pub scalars_at : List Node → ℕ → List ℕ → List NodeSignal
scalars_at nodes k [] = []
scalars_at nodes k (n ∷ ns) = scalar_at n k (width_at nodes n) ∷ scalars_at nodes (k + 1) ns

-- the ports of these nodes, from net number k on, as streams
abbrev pub streams_at : List Node → ℕ → List ℕ → List StreamSignals
streams_at nodes k [] = []
streams_at nodes k (n ∷ ns) = stream_at n k (width_at nodes n) ∷ streams_at nodes (k + 3) ns

-- the signals of the ports of a kernel of these nodes
abbrev pub signals_of : List Node → KernelSignals
signals_of nodes = record {
  reset = signal_at 1 1;
  hold = signal_at 2 1;
  ticks = signal_at 3 48;
  scalars = scalars_at nodes 4 (scalars_of nodes);
  inputs = streams_at nodes (first_input nodes) (inputs_of nodes);
  outputs = streams_at nodes (first_output nodes) (outputs_of nodes);
  ended = signal_at (ended_port nodes) 1;
}
