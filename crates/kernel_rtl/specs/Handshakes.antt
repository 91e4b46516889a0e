-- The handshakes of a kernel's ports, and the control that is made of them.
use Rattle.std.specs.Prelude.{
  ◌≡◌,
  ℕ,
  ◌+◌,
  ◌*◌,
  ◌<◌,
  ◌≤◌,
  true,
  Option,
  None,
  List,
  map,
  ◌++◌,
  length,
  slice_index_or,
}
use Rattle.rtl_ir.specs.declared.design.Module.{Module}
use Rattle.rtl_build.specs.declared.signal.Signal.{Signal}
use Rattle.rtl_delays.specs.Steps.{writes_reg}
use Rattle.rtl_delays.specs.Extends.{Extends, KeepsStill, LeavesFree}
use Rattle.rtl_delays.specs.Stored.{stored_bits}
use Rattle.stream_graph.specs.declared.node.Node.{Node}
use Rattle.kernel_control.specs.declared.handshakes.Handshake.{Handshake}
use Rattle.kernel_control.specs.declared.handshakes.ControlNets.{ControlNets}
use Rattle.kernel_control.specs.Ports.{ModuleNets}
use Rattle.kernel_control.specs.Nets.{HasWidth, told_nets, AreNetsOf}
use Rattle.kernel_control.specs.Outputs.{AreDriven, DrivesAtMost}
use Rattle.kernel_control.specs.IsControl.{IsControl}
use Rattle.kernel_ports.specs.declared.signals.StreamSignals.{StreamSignals}
use Rattle.kernel_ports.specs.declared.signals.KernelSignals.{KernelSignals}

-- the node of a port has a time, and a place among the controls
pub record IsTimed (times : List ℕ) (enables : List (Option Signal)) (port : StreamSignals) : Type 0
  where
    pub timed : port.node < length times
    pub controlled : port.node < length enables

-- the signal of a node's control, if it has one
abbrev pub enable_at : List (Option Signal) → ℕ → Option Signal
enable_at enables n = slice_index_or enables n None

-- an input waits for a word, and is told by `ready`
abbrev pub input_handshake : (ℕ → ℕ) → (ℕ → Option Signal) → StreamSignals → Handshake
input_handshake times enables port = record {
  time = times port.node;
  enable = enables port.node;
  waits_for = port.valid;
  answer = port.ready;
}

-- an output waits for room, and is told by `valid`
abbrev pub output_handshake : (ℕ → ℕ) → (ℕ → Option Signal) → StreamSignals → Handshake
output_handshake times enables port = record {
  time = times port.node;
  enable = enables port.node;
  waits_for = port.ready;
  answer = port.valid;
}

-- those of all inputs and then of all outputs
abbrev pub handshakes_of : (ℕ → ℕ) → (ℕ → Option Signal) → KernelSignals → List Handshake
handshakes_of times enables ports =
    map (input_handshake times enables) ports.inputs
    ++ map (output_handshake times enables) ports.outputs

-- the nets of the control of a module with these ports, and with its position at a register
abbrev pub control_nets : KernelSignals → Signal → ControlNets
control_nets ports position = record {
  position = position;
  reset = ports.reset;
  ticks = ports.ticks;
  hold = ports.hold;
  ended = ports.ended;
}

-- The control was added: the bit that is 1 where the kernel advances, the values of the outputs
-- that tell its ports, and what the position becomes. No register or memory was added.
pub record AddsControl (old new : Module) (nets : ControlNets) (ports : List Handshake)
    (run : Signal) : Type 0
  where
    pub extends : Extends old new
    pub still : KeepsStill old new run.net nets.reset.net
    pub others : LeavesFree old new nets.position.net None
    pub written : writes_reg nets.position.net new.updates ≡ true
    pub stored : stored_bits new ≡ stored_bits old
    pub leaves : DrivesAtMost old new (told_nets nets ports)
    pub driven : AreDriven new (told_nets nets ports)
    pub added : length new.nets ≤ length old.nets + 11 * length ports + 12
    pub one : HasWidth new 1 run
    pub control :
        (nodes : List Node) (times : ℕ → ℕ) (controls : ℕ → Option ℕ) (q : ModuleNets)
        → AreNetsOf nodes times controls q nets ports
        → IsControl new nodes times controls q run.net
