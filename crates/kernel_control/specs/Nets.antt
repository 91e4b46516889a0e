-- The nets from which a control is made, and the kernels whose nets they are.
use Rattle.std.specs.Prelude.{◌≡◌, ℕ, ◌≤◌, ◌^◌, false, List, [], ◌∷◌, Option, Some, None}
use Rattle.rtl_ir.specs.declared.design.Module.{Module}
use Rattle.rtl_build.specs.declared.signal.Signal.{Signal}
use Rattle.rtl_build.specs.Signals.{HasSignal}
use Rattle.rtl_build.specs.Ports.{HasOutput}
use Rattle.rtl_build.specs.Storage.{HasRegister}
use Rattle.rtl_delays.specs.Steps.{writes_reg}
use Rattle.stream_graph.specs.declared.node.Node.{Node}
use Rattle.kernel_control.specs.declared.handshakes.Handshake.{Handshake}
use Rattle.kernel_control.specs.declared.handshakes.ControlNets.{ControlNets}
use Rattle.kernel_control.specs.Ports.{PortChannel, ModuleNets, inputs_of, outputs_of}

-- the signal is one of the module, of this width
pub record HasWidth (m : Module) (w : ℕ) (s : Signal) : Type 0 where
  pub signal : HasSignal m s
  pub width : s.width ≡ w

-- the signal is an output of the module, of one bit
pub record HasBitOutput (m : Module) (s : Signal) : Type 0 where
  pub output : HasOutput m s
  pub bit : s.width ≡ 1

-- the signal is a register of the module, of 48 bits
pub record HasWideRegister (m : Module) (s : Signal) : Type 0 where
  pub signal : HasSignal m s
  pub register : HasRegister m s
  pub width : s.width ≡ 48

-- the net of a control, if there is one
abbrev pub net_of : Option Signal → Option ℕ
net_of None = None
net_of (Some s) = Some s.net

-- a control, if there is one, is a bit of the module
abbrev pub MayEnable : Module → Option Signal → Type 0
MayEnable m None = Unit {0}
MayEnable m (Some s) = HasWidth m 1 s

-- The time of a port is at most 2^46, its control, if it has one, is a bit, it waits for a bit, and
-- an output of one bit tells it.
pub record IsHandshake (m : Module) (h : Handshake) : Type 0 where
  pub small : h.time ≤ 2 ^ 46
  pub enable : MayEnable m h.enable
  pub waits_for : HasWidth m 1 h.waits_for
  pub answer : HasBitOutput m h.answer

-- the nets have their kinds and widths, and nothing writes the position yet
pub record AreControlNets (m : Module) (nets : ControlNets) : Type 0 where
  pub position : HasWideRegister m nets.position
  pub unwritten : writes_reg nets.position.net m.updates ≡ false
  pub reset : HasWidth m 1 nets.reset
  pub ticks : HasWidth m 48 nets.ticks
  pub hold : HasWidth m 1 nets.hold
  pub ended : HasBitOutput m nets.ended

-- the outputs by which ports are told whether the kernel takes or gives a word
abbrev pub told_ports : List Handshake → List ℕ
told_ports [] = []
told_ports (h ∷ hs) = h.answer.net ∷ told_ports hs

-- all outputs of a control
abbrev pub told_nets : ControlNets → List Handshake → List ℕ
told_nets nets hs = nets.ended.net ∷ told_ports hs

-- ---- the kernels whose nets they are

-- a handshake is that of a port: of this node, which waits for one net, and is told by another
pub record IsHandshakeOf (times : ℕ → ℕ) (controls : ℕ → Option ℕ) (node wait tell : ℕ)
    (h : Handshake) : Type 0
  where
    pub time : h.time ≡ times node
    pub enable : net_of h.enable ≡ controls node
    pub waits_for : h.waits_for.net ≡ wait
    pub answer : h.answer.net ≡ tell

-- These are the handshakes of all inputs and then of all outputs. An input waits for a word and is
-- told by `ready`; an output waits for room and is told by `valid`.
abbrev pub AreHandshakesOf :
    (ℕ → ℕ) → (ℕ → Option ℕ) → List PortChannel → List PortChannel → List Handshake → Type 0
AreHandshakesOf times controls [] [] [] = Unit {0}
AreHandshakesOf times controls [] [] (h ∷ hs) = ⊥
AreHandshakesOf times controls [] (y ∷ ys) [] = ⊥
AreHandshakesOf times controls [] (y ∷ ys) (h ∷ hs) =
    IsHandshakeOf times controls y.node y.channel.ready y.channel.valid h
    × AreHandshakesOf times controls [] ys hs
AreHandshakesOf times controls (x ∷ xs) ys [] = ⊥
AreHandshakesOf times controls (x ∷ xs) ys (h ∷ hs) =
    IsHandshakeOf times controls x.node x.channel.valid x.channel.ready h
    × AreHandshakesOf times controls xs ys hs

-- the nodes of some ports
abbrev pub nodes_of : List PortChannel → List ℕ
nodes_of [] = []
nodes_of (x ∷ xs) = x.node ∷ nodes_of xs

-- the nets are those of a kernel of these nodes, at these times and with the controls of its ports
-- at these nets, in a module with the nets q
pub record AreNetsOf (nodes : List Node) (times : ℕ → ℕ) (controls : ℕ → Option ℕ)
    (q : ModuleNets) (nets : ControlNets) (hs : List Handshake) : Type 0
  where
    pub position : q.position ≡ nets.position.net
    pub reset : q.reset ≡ nets.reset.net
    pub ticks : q.ticks ≡ nets.ticks.net
    pub hold : q.hold ≡ nets.hold.net
    pub ended : q.ended ≡ nets.ended.net
    pub inputs : nodes_of q.inputs ≡ inputs_of nodes
    pub outputs : nodes_of q.outputs ≡ outputs_of nodes
    pub ports : AreHandshakesOf times controls q.inputs q.outputs hs
