-- Which nodes keep a state between edges of the clock, and the registers that keep it.
use Rattle.std.specs.Prelude.{
  ◌≡◌,
  ℕ,
  ◌+◌,
  ◌*◌,
  ◌<◌,
  ◌≤◌,
  Bool,
  true,
  false,
  ◌||◌,
  if◌then◌else◌,
  nat_eq,
  List,
  [],
  ◌∷◌,
  length,
  slice_index_or,
  sum_by,
  Option,
  Some,
  None,
}
use Rattle.fix_arith.specs.Types.{width_of}
use Rattle.rtl_ir.specs.declared.design.Module.{Module}
use Rattle.rtl_build.specs.declared.signal.Signal.{Signal}
use Rattle.rtl_build.specs.Signals.{HasSignal}
use Rattle.rtl_build.specs.Storage.{HasRegister}
use Rattle.rtl_delays.specs.Steps.{writes_reg}
use Rattle.stream_graph.specs.declared.node.Kind.{Kind}
use Rattle.stream_graph.specs.declared.node.Kind.TheVariants as K
use Rattle.stream_graph.specs.declared.node.Node.{Node}
use Rattle.stream_graph.specs.LookUps.{kind_at, width_at}

-- A node of this kind keeps a state: a hold the word that was stored last, a counter its value, and
-- a chain those of all its counters.
abbrev pub has_state : Kind → Bool
has_state K.Hold = true
has_state K.Counter = true
has_state K.Chain = true
has_state _ = false

-- the bits of the states of these nodes
abbrev pub state_bits : List Node → ℕ
state_bits nodes =
    sum_by (λ (node : Node). if has_state node.view.kind then width_of node.view.t else 0) nodes

-- how many of these nodes keep a state
abbrev pub state_count : List Node → ℕ
state_count nodes =
    sum_by (λ (node : Node). if has_state node.view.kind then 1 else 0) nodes

-- the most wires by which the state of a node steps: 10 for a counter and 8 beside
abbrev pub step_wires : Node → ℕ
step_wires node = if has_state node.view.kind then 10 * length node.digits + 8 else 0

-- those of all these nodes
abbrev pub step_nets : List Node → ℕ
step_nets nodes = sum_by step_wires nodes

-- the register of a node's state, if it keeps one
abbrev pub state_at : List (Option Signal) → ℕ → Option Signal
state_at states n = slice_index_or states n None

-- the register of a node's state, of the width of its words
pub record IsStateRegister (m : Module) (nodes : List Node) (n : ℕ) (s : Signal) : Type 0 where
  pub signal : HasSignal m s
  pub register : HasRegister m s
  pub width : s.width ≡ width_at nodes n

-- a node has a register exactly where it keeps a state
abbrev pub IsState : Module → List Node → ℕ → Option Signal → Type 0
IsState m nodes n None = has_state (kind_at nodes n) ≡ false
IsState m nodes n (Some s) = (has_state (kind_at nodes n) ≡ true) × IsStateRegister m nodes n s

-- there is a register for each node that keeps a state, in node order
pub record AreStates (m : Module) (nodes : List Node) (states : List (Option Signal)) : Type 0 where
  pub counted : length states ≡ length nodes
  pub each : (n : ℕ) → n < length nodes → IsState m nodes n (state_at states n)

-- nothing writes the register of a state yet, if there is one
abbrev pub IsUnwritten : Module → Option Signal → Type 0
IsUnwritten m None = Unit {0}
IsUnwritten m (Some s) = writes_reg s.net m.updates ≡ false

-- registers that nothing writes yet, with rising numbers from this one on and below that one
abbrev pub AreFree : Module → ℕ → List (Option Signal) → ℕ → Type 0
AreFree m k [] nets = k ≤ nets
AreFree m k (None ∷ states) nets = AreFree m k states nets
AreFree m k (Some s ∷ states) nets =
    (k ≤ s.net) × (writes_reg s.net m.updates ≡ false) × AreFree m (s.net + 1) states nets

-- whether net n is one of these registers
abbrev pub is_state_of : List (Option Signal) → ℕ → Bool
is_state_of [] n = false
is_state_of (None ∷ states) n = is_state_of states n
is_state_of (Some s ∷ states) n = nat_eq s.net n || is_state_of states n
