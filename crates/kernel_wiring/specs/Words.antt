-- Where the words of a kernel's nodes stand while its module gets their wires.
use Rattle.std.specs.Prelude.{
  ◌≡◌,
  ℕ,
  ◌<◌,
  Bool,
  true,
  false,
  if◌then◌else◌,
  ◌==◌,
  List,
  [],
  ◌∷◌,
  map,
  length,
  slice_get,
  slice_index_or,
  Option,
  None,
  All,
  Contains,
}
use Rattle.cycle_find.specs.Constraints.{Numbers}
use Rattle.rtl_ir.specs.declared.design.Module.{Module}
use Rattle.rtl_build.specs.declared.signal.Signal.{Signal}
use Rattle.rtl_build.specs.Signals.{HasSignal}
use Rattle.stream_graph.specs.declared.node.Kind.{Kind}
use Rattle.stream_graph.specs.declared.node.Kind.TheVariants as K
use Rattle.stream_graph.specs.declared.node.Node.{Node}
use Rattle.stream_graph.specs.LookUps.{kind_at, width_at}
use Rattle.kernel_layout.specs.declared.layout.Layout.{Layout}
use Rattle.kernel_layout.specs.declared.reads.Read.{Read}
use Rattle.kernel_layout.specs.Reads.{read_at}
use Rattle.kernel_layout.specs.Layouts.{stages_at, IsLayout}

-- ---- kinds of nodes

-- A node of this kind has a word that others read. The readers of an offset look past it.
abbrev pub has_word : Kind → Bool
has_word (K.Offset ticks) = false
has_word _ = true

-- a node of this kind gets its wires here; the words of the others are given, and of a hold the one
-- that it keeps
abbrev pub is_wired : Kind → Bool
is_wired K.Output = true
is_wired (K.Constant word) = true
is_wired (K.Operation op mode amount) = true
is_wired K.Feed = true
is_wired K.Hold = true
is_wired (K.Part place) = true
is_wired _ = false

-- ---- signals by nodes

-- what stands past the last signal
abbrev pub no_signal : Signal
no_signal = record { net = 0; width = 0 }

-- the signal of a node's word
abbrev pub signal_at : List Signal → ℕ → Signal
signal_at words n = slice_index_or words n no_signal

-- the signals that show a node's word later, one for each stage
abbrev pub late_at : List (List Signal) → ℕ → List Signal
late_at late n = slice_index_or late n []

-- the signal of the first stage with this number of advances
abbrev pub late_of : List ℕ → List Signal → ℕ → Signal
late_of [] signals behind = no_signal
late_of (stage ∷ stages) [] behind = no_signal
late_of (stage ∷ stages) (signal ∷ signals) behind =
    if stage == behind then signal else late_of stages signals behind

-- the signal of a read: its source's word as it was computed, or so many advances after
abbrev pub read_signal : Layout → List (List Signal) → List Signal → Read → Signal
read_signal layout late words read =
    if read.behind == 0
    then signal_at words read.source
    else late_of (stages_at layout read.source) (late_at late read.source) read.behind

-- its net
abbrev pub read_net : Layout → List (List Signal) → List Signal → Read → ℕ
read_net layout late words read = (read_signal layout late words read).net

-- how a node reads its operands
abbrev pub reads_at : Layout → ℕ → List Read
reads_at layout n = slice_index_or layout.reads n []

-- the signal from which a node reads the operand with this place
abbrev pub operand_signal : Layout → List (List Signal) → List Signal → ℕ → ℕ → Signal
operand_signal layout late words n place =
    read_signal layout late words (read_at (reads_at layout n) place)

-- the signals from which a node reads its operands
abbrev pub signals_at : Layout → List (List Signal) → List Signal → ℕ → List Signal
signals_at layout late words n = map (read_signal layout late words) (reads_at layout n)

-- the signal of a port's control, if it has one, among those from which a node of this kind reads
abbrev pub control_among : Kind → List Signal → Option Signal
control_among K.Input signals = slice_get signals 0
control_among K.Output signals = slice_get signals 1
control_among _ signals = None

-- that of a node
abbrev pub control_at : List Node → Layout → List (List Signal) → List Signal → ℕ → Option Signal
control_at nodes layout late words n =
    control_among (kind_at nodes n) (signals_at layout late words n)

-- the nets from which a node reads its operands
abbrev pub taps_at : Layout → List (List Signal) → List Signal → ℕ → List ℕ
taps_at layout late words n = map (read_net layout late words) (reads_at layout n)

-- ---- what is known of them

-- the signal is one of the module, with the width of a node's words
pub record IsWordOf (m : Module) (nodes : List Node) (n : ℕ) (s : Signal) : Type 0 where
  pub signal : HasSignal m s
  pub bits : s.width ≡ width_at nodes n

-- something is given of a node of this kind: its word, or what a hold keeps
abbrev pub is_given : Kind → Bool
is_given K.Input = true
is_given K.Scalar = true
is_given K.Hold = true
is_given K.Counter = true
is_given K.Chain = true
is_given _ = false

-- There is a signal for each node. Those that are given stand in the module.
pub record AreGiven (m : Module) (nodes : List Node) (words : List Signal) : Type 0 where
  pub counted : length words ≡ length nodes
  pub each :
      (n : ℕ)
      → n < length nodes
      → is_given (kind_at nodes n) ≡ true
      → IsWordOf m nodes n (signal_at words n)

-- there is a signal for each stage of each node, which stands in the module with the node's width
pub record AreLate (m : Module) (nodes : List Node) (layout : Layout)
    (late : List (List Signal)) : Type 0
  where
    pub counted : length late ≡ length nodes
    pub same :
        (n : ℕ) → n < length nodes → length (late_at late n) ≡ length (stages_at layout n)
    pub each : (n : ℕ) → n < length nodes → All (IsWordOf m nodes n) (late_at late n)

-- the layout is that of a kernel of these nodes, with some latencies and at some times
pub record IsLaidOut (nodes : List Node) (layout : Layout) : Type 0 where
  pub ticks : ℕ → ℕ
  pub times : Numbers
  pub is : IsLayout nodes ticks times layout

-- the word of a read is kept so late as it is read
pub record IsKept (layout : Layout) (late : List (List Signal)) (read : Read) : Type 0
  where
    pub node : read.source < length layout.pipeline
    pub waits : read.source < length layout.waits
    pub known : read.source < length late
    pub same : length (late_at late read.source) ≡ length (stages_at layout read.source)
    pub kept : Contains (stages_at layout read.source) read.behind

-- the signal of a read is there
pub record IsReadIn (layout : Layout) (late : List (List Signal)) (words : List Signal)
    (read : Read) : Type 0
  where
    pub source : read.source < length words
    pub later : (read.behind ≡ 0 → ⊥) → IsKept layout late read
