-- When a module refines a kernel at its times: what it shows, edge after edge, from any contents
-- and over any offers, room and holds.
use Rattle.std.specs.Prelude.{
  ◌≡◌,
  ℕ,
  suc,
  ◌+◌,
  ◌-◌,
  ◌^◌,
  ◌≤◌,
  max,
  Bool,
  true,
  false,
  not,
  ◌&&◌,
  ◌||◌,
  if◌then◌else◌,
  nat_eq,
  nat_lt,
  nat_le,
  List,
  [],
  ◌∷◌,
  ◌++◌,
  map,
  Option,
  Some,
  None,
  slice_get,
  codes,
}
use Rattle.rtl_ir.specs.declared.design.Design.{Design}
use Rattle.rtl_ir.specs.declared.design.Module.{Module}
use Rattle.rtl_ir.specs.Value.{Family, Contents, is_reg, width_of, bit}
use Rattle.rtl_ir.specs.Edge.{Edges, after_edge}
use Rattle.rtl_ir.specs.Formed.{name_of}
use Rattle.rtl_ir.specs.Ports.{ports_of}
use Rattle.rtl_ir.specs.Run.{Same}
use Rattle.rtl_ir.specs.Rules.{IsAccepted}
use Rattle.stream_graph.specs.declared.kernel.Kernel.{Kernel}
use Rattle.stream_graph.specs.declared.node.Node.{Node}
use Rattle.stream_equations.specs.Equations.{GivenRun, Values, StreamEquations, enabled, count_before}
use Rattle.stream_equations.specs.Words.{IsGuarded, port_words}
use Rattle.rtl_delays.specs.Delays.{IsWord}
use Rattle.kernel_control.specs.Ports.{
  PortChannel,
  ModuleNets,
  inputs_of,
  outputs_of,
  scalars_of,
  module_ports,
  nets_of,
}

-- ---- a kernel at its times. At position p node n is in tick p - times n

-- A run of a kernel at its times, by port and position: whether a port is due; whether the kernel
-- has ended; the word of an input by its number; and that of an output, none past its last one.
pub record TimedRun : Type 0 where
  pub due : ℕ → ℕ → Bool
  pub ends : ℕ → Bool
  pub in_word : ℕ → ℕ → Option ℕ
  pub out_word : ℕ → ℕ → Option (Option ℕ)

-- a node of this time is in a tick of the run
abbrev pub is_active : ℕ → ℕ → ℕ → Bool
is_active time ticks p = nat_le time p && nat_lt p (time + ticks)

-- the greatest time of these nodes, and 0 where there are none
abbrev pub greatest_time : (ℕ → ℕ) → List ℕ → ℕ
greatest_time times [] = 0
greatest_time times (n ∷ ns) = max (times n) (greatest_time times ns)

-- the greatest time of the ports
abbrev pub last_time : List Node → (ℕ → ℕ) → ℕ
last_time nodes times = greatest_time times (inputs_of nodes ++ outputs_of nodes)

-- a port is due where it is active and enabled, and the kernel has ended once all ports are past
-- their last tick
abbrev pub timed_run : List Node → (ℕ → ℕ) → GivenRun → Values → TimedRun
timed_run nodes times run val = record {
  due = λ n p. is_active (times n) run.ticks p && enabled nodes val n (p - times n);
  ends = λ p. nat_le (run.ticks + last_time nodes times) p;
  in_word = run.source;
  out_word = λ n k. slice_get (port_words nodes run val n) k;
}

-- ---- one edge

-- each input that is due has a word
abbrev pub all_valid : TimedRun → ℕ → List PortChannel → Family → Bool
all_valid k p [] v = true
all_valid k p (x ∷ xs) v =
    (not (k.due x.node p) || nat_eq (v x.channel.valid) 1) && all_valid k p xs v

-- each output that is due has room
abbrev pub all_ready : TimedRun → ℕ → List PortChannel → Family → Bool
all_ready k p [] v = true
all_ready k p (y ∷ ys) v =
    (not (k.due y.node p) || nat_eq (v y.channel.ready) 1) && all_ready k p ys v

-- the kernel advances exactly where it isn't held and hasn't ended, each due input has a word and
-- each due output has room
abbrev pub advances : TimedRun → ModuleNets → ℕ → Family → Bool
advances k q p v =
    not (nat_eq (v q.hold) 1)
    && (not (k.ends p) && (all_valid k p q.inputs v && all_ready k p q.outputs v))

-- there is a word of that number, and this is it
abbrev pub IsGiven : Option (Option ℕ) → ℕ → Type 0
IsGiven None x = ⊥
IsGiven (Some word) x = IsWord word x

-- the words that stand valid at due inputs are their next ones
abbrev pub StandsAgree : TimedRun → ℕ → List PortChannel → Family → Type 0
StandsAgree k p [] v = Unit {0}
StandsAgree k p (x ∷ xs) v =
    (k.due x.node p ≡ true
    → v x.channel.valid ≡ 1
    → IsWord (k.in_word x.node (count_before (k.due x.node) p)) (v x.channel.word))
    × StandsAgree k p xs v

-- each input takes a word exactly where the kernel advances and it is due
abbrev pub Takes : TimedRun → ℕ → Bool → List PortChannel → Family → Type 0
Takes k p go [] v = Unit {0}
Takes k p go (x ∷ xs) v = (v x.channel.ready ≡ bit (go && k.due x.node p)) × Takes k p go xs v

-- each output gives a word exactly there, and it is its next one
abbrev pub Gives : TimedRun → ℕ → Bool → List PortChannel → Family → Type 0
Gives k p go [] v = Unit {0}
Gives k p go (y ∷ ys) v =
    (v y.channel.valid ≡ bit (go && k.due y.node p))
    × (go && k.due y.node p ≡ true
    → IsGiven (k.out_word y.node (count_before (k.due y.node) p)) (v y.channel.word))
    × Gives k p go ys v

-- registers and memories are as before
pub record SameContents (m : Module) (c d : Contents) : Type 0 where
  pub regs : (n : ℕ) → is_reg m n ≡ true → d.regs n ≡ c.regs n
  pub cells : (k a : ℕ) → d.cells k a ≡ c.cells k a

-- an edge at a position, in which the kernel advances or not
pub record IsShown (m : Module) (k : TimedRun) (q : ModuleNets) (p : ℕ) (go : Bool) (c : Contents)
    (v : Family) : Type 0
  where
    pub position : v q.position ≡ p
    pub ended : v q.ended ≡ bit (k.ends p)
    pub takes : Takes k p go q.inputs v
    pub gives : Gives k p go q.outputs v
    pub keeps : go ≡ false → SameContents m c (after_edge m c v)

-- ---- edge after edge

abbrev pub next_position : Bool → ℕ → ℕ
next_position go p = if go then suc p else p

-- from a position and contents on, as long as the words that stand at due inputs are their next
-- ones
abbrev pub KernelRuns : Module → TimedRun → ModuleNets → ℕ → Contents → List Family → Type 0
KernelRuns m k q p c [] = Unit {0}
KernelRuns m k q p c (v ∷ vs) =
    StandsAgree k p q.inputs v
    → IsShown m k q p (advances k q p v) c v
    × KernelRuns m k q (next_position (advances k q p v) p) (after_edge m c v) vs

-- no edge is a reset edge, and the ticks and the scalars are those of the run
abbrev pub AreSteady : ModuleNets → ℕ → List ℕ → List Family → Type 0
AreSteady q ticks scalars [] = Unit {0}
AreSteady q ticks scalars (v ∷ vs) =
    (v q.reset ≡ 0) × (v q.ticks ≡ ticks) × Same q.scalars scalars v × AreSteady q ticks scalars vs

-- so it is from any contents, after a reset edge, in every guarded run of at most 2^40 ticks
abbrev pub RunsAs : Module → ModuleNets → List Node → (ℕ → ℕ) → Type 0
RunsAs m q nodes times =
    (run : GivenRun) (val : Values) (c : Contents) (v : Family) (vs : List Family)
    → run.ticks ≤ 2 ^ 40
    → StreamEquations nodes run val
    → IsGuarded nodes run val
    → Edges m c (v ∷ vs)
    → v q.reset ≡ 1
    → AreSteady q run.ticks (map run.scalar (scalars_of nodes)) vs
    → KernelRuns m (timed_run nodes times run val) q 0 (after_edge m c v) vs

-- the position is a register of 48 bits of this name
pub record IsPositionNet (m : Module) (position : ℕ) : Type 0 where
  pub name : name_of m position ≡ codes "position"
  pub register : is_reg m position ≡ true
  pub width : width_of m position ≡ 48

-- The module refines the kernel at its times: it has the kernel's name and ports, no instances,
-- keeps the rules of designs, and runs as the kernel.
pub record Refines (m : Module) (kernel : Kernel) (times : ℕ → ℕ) : Type 0 where
  pub name : m.name ≡ codes "kernel$" ++ kernel.name
  pub ports : ports_of m ≡ module_ports kernel.nodes
  pub instances : m.instances ≡ []
  pub accepted : (d : Design) → d.modules ≡ m ∷ [] → IsAccepted d
  pub position : ℕ
  pub place : IsPositionNet m position
  pub runs : RunsAs m (nets_of kernel.nodes m position) kernel.nodes times
