-- The words of a kernel's nodes in its module, and its outputs.
use Rattle.std.specs.Prelude.{
  ◌≡◌,
  ℕ,
  ◌+◌,
  ◌*◌,
  ◌<◌,
  ◌≤◌,
  true,
  List,
  map,
  length,
  All,
  Option,
  Some,
  None,
  slice_get,
}
use Rattle.rtl_ir.specs.declared.design.Module.{Module}
use Rattle.rtl_ir.specs.Value.{Family, Contents}
use Rattle.rtl_ir.specs.Grow.{Holds}
use Rattle.rtl_build.specs.declared.signal.Signal.{Signal}
use Rattle.rtl_build.specs.Signals.{HasSignal}
use Rattle.rtl_build.specs.Ports.{HasOutput}
use Rattle.rtl_delays.specs.Extends.{Extends, AddsNoRegister}
use Rattle.rtl_delays.specs.Stored.{stored_bits}
use Rattle.stream_graph.specs.declared.node.Kind.TheVariants as K
use Rattle.stream_graph.specs.declared.node.Node.{Node}
use Rattle.stream_graph.specs.LookUps.{kind_at}
use Rattle.kernel_control.specs.Ports.{scalars_of, inputs_of, outputs_of}
use Rattle.kernel_control.specs.Nets.{MayEnable}
use Rattle.kernel_control.specs.Outputs.{AreDriven, DrivesAtMost}
use Rattle.kernel_layout.specs.declared.layout.Layout.{Layout}
use Rattle.kernel_ports.specs.declared.signals.NodeSignal.{NodeSignal}
use Rattle.kernel_ports.specs.declared.signals.StreamSignals.{StreamSignals}
use Rattle.kernel_ports.specs.declared.signals.KernelSignals.{KernelSignals}
use Rattle.kernel_ports.specs.HasKernelPorts.{IsScalarPort, IsInputPort, IsOutputPort}
use Rattle.kernel_stages.specs.declared.node.NodeDelays.{NodeDelays}
use Rattle.kernel_stages.specs.Chains.{signals_of}
use Rattle.kernel_types.specs.Types.{counts}
use Rattle.kernel_states.specs.States.{state_at}
use Rattle.kernel_wiring.specs.declared.timing.Timing.{Timing}
use Rattle.kernel_wiring.specs.Words.{has_word, signal_at, taps_at, control_at, IsWordOf}
use Rattle.kernel_wiring.specs.Costs.{word_nets}
use Rattle.kernel_wiring.specs.OneNode.{IsWired}
use Rattle.kernel_wiring.specs.Controls.{AreThere}
use Rattle.kernel_rtl.specs.declared.storage.Storage.{Storage}

-- ---- words that are given

-- a node's word is that of one of these ports, which is its own
pub record IsGivenBy {A : Type 0} (node : A → ℕ) (word : A → Signal) (ports : List A)
    (words : List Signal) (n : ℕ) : Type 0
  where
    pub place : ℕ
    pub port : A
    pub at : slice_get ports place ≡ Some port
    pub own : node port ≡ n
    pub is : signal_at words n ≡ word port

-- so it is with one of these ports of inputs
abbrev pub IsGivenWord : List StreamSignals → List Signal → ℕ → Type 0
IsGivenWord inputs words n =
    IsGivenBy (λ (port : StreamSignals). port.node) (λ (port : StreamSignals). port.word) inputs
    words n

-- so it is with one of these ports of scalars
abbrev pub IsGivenScalar : List NodeSignal → List Signal → ℕ → Type 0
IsGivenScalar scalars words n =
    IsGivenBy (λ (port : NodeSignal). port.node) (λ (port : NodeSignal). port.signal) scalars
    words n

-- There is a signal for each node of a kernel. Of inputs and scalars it is that of their ports, and
-- of nodes that keep a state the register of it.
pub record AreGivenWords (nodes : List Node) (ports : KernelSignals)
    (states : List (Option Signal)) (words : List Signal) : Type 0
  where
    pub counted : length words ≡ length nodes
    pub inputs :
        (n : ℕ)
        → n < length nodes
        → kind_at nodes n ≡ K.Input
        → IsGivenWord ports.inputs words n
    pub scalars :
        (n : ℕ)
        → n < length nodes
        → kind_at nodes n ≡ K.Scalar
        → IsGivenScalar ports.scalars words n
    pub kept :
        (n : ℕ) (s : Signal)
        → n < length nodes
        → state_at states n ≡ Some s
        → signal_at words n ≡ s

-- ---- delays

-- the signals that the delays of each node show
abbrev pub late_signals : List NodeDelays → List (List Signal)
late_signals delays = map signals_of delays

-- ---- outputs

-- the nets of the words of these ports
abbrev pub data_nets : List StreamSignals → List ℕ
data_nets outputs = map (λ (port : StreamSignals). port.word.net) outputs

-- the word of a port may be given the word of its node
pub record MayBeDriven (m : Module) (words : List Signal) (port : StreamSignals) : Type 0 where
  pub node : port.node < length words
  pub output : HasOutput m port.word
  pub source : HasSignal m (signal_at words port.node)
  pub same : (signal_at words port.node).width ≡ port.word.width

-- the word of a port is that of its node
abbrev pub IsDriven : Module → List Signal → StreamSignals → Type 0
IsDriven m words port =
    (c : Contents) (v : Family)
    → Holds m c v
    → v port.word.net ≡ v (signal_at words port.node).net

-- the words of these ports were given those of their nodes, and nothing else was added
pub record DrivesWords (old new : Module) (words : List Signal) (outputs : List StreamSignals)
    : Type 0
  where
    pub extends : Extends old new
    pub updates : new.updates ≡ old.updates
    pub stored : stored_bits new ≡ stored_bits old
    pub registers : AddsNoRegister old new
    pub leaves : DrivesAtMost old new (data_nets outputs)
    pub driven : AreDriven new (data_nets outputs)
    pub nets : new.nets ≡ old.nets
    pub shows : All (IsDriven new words) outputs

-- ---- nodes

-- The ports of a kernel stand in a module, each with its node.
pub record HasStreams (m : Module) (nodes : List Node) (ports : KernelSignals) : Type 0 where
  pub scalars : All (IsScalarPort nodes m) ports.scalars
  pub inputs : All (IsInputPort nodes m) ports.inputs
  pub outputs : All (IsOutputPort nodes m) ports.outputs
  pub scalar_nodes : map (λ (a : NodeSignal). a.node) ports.scalars ≡ scalars_of nodes
  pub input_nodes : map (λ (port : StreamSignals). port.node) ports.inputs ≡ inputs_of nodes
  pub output_nodes : map (λ (port : StreamSignals). port.node) ports.outputs ≡ outputs_of nodes

-- the net of a register, and 0 where there is none
abbrev pub net_or_zero : Option Signal → ℕ
net_or_zero None = 0
net_or_zero (Some s) = s.net

-- The nodes of a kernel have their words, and its outputs theirs. The word of an input or a scalar
-- is that of its port, and that of a counter or a chain its register; each word stands in the
-- module with its node's width; the net of each node that got wires has its word, by the nets that
-- it reads and, for a hold, the register of its state; and the controls of ports are bits.
pub record AddsWords (old new : Module) (nodes : List Node) (layout : Layout)
    (ports : KernelSignals) (storage : Storage) (timing : Timing) (words : List Signal) : Type 0
  where
    pub extends : Extends old new
    pub updates : new.updates ≡ old.updates
    pub stored : stored_bits new ≡ stored_bits old
    pub registers : AddsNoRegister old new
    pub leaves : DrivesAtMost old new (data_nets ports.outputs)
    pub driven : AreDriven new (data_nets ports.outputs)
    pub nets : length new.nets ≤ length old.nets + word_nets nodes
    pub shows : All (IsDriven new words) ports.outputs
    pub counted : length words ≡ length nodes
    pub inputs :
        (n : ℕ)
        → n < length nodes
        → kind_at nodes n ≡ K.Input
        → IsGivenWord ports.inputs words n
    pub scalars :
        (n : ℕ)
        → n < length nodes
        → kind_at nodes n ≡ K.Scalar
        → IsGivenScalar ports.scalars words n
    pub states :
        (n : ℕ) (s : Signal)
        → n < length nodes
        → counts (kind_at nodes n) ≡ true
        → state_at storage.states n ≡ Some s
        → signal_at words n ≡ s
    pub stand :
        (n : ℕ)
        → n < length nodes
        → has_word (kind_at nodes n) ≡ true
        → IsWordOf new nodes n (signal_at words n)
    pub built :
        (n : ℕ)
        → n < length nodes
        → IsWired new nodes timing (taps_at layout (late_signals storage.delays) words n)
        (net_or_zero (state_at storage.states n)) (signal_at words n).net n (kind_at nodes n)
    pub there : AreThere layout (late_signals storage.delays) words nodes
    pub controls :
        (n : ℕ)
        → n < length nodes
        → MayEnable new (control_at nodes layout (late_signals storage.delays) words n)
