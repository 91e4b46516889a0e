-- The parts of a kernel's module, and how they stand together.
use Rattle.std.specs.Prelude.{
  ◌≡◌,
  ◌⊎◌,
  ℕ,
  ◌+◌,
  ◌^◌,
  ◌<◌,
  ◌≤◌,
  Bool,
  true,
  false,
  ◌&&◌,
  if◌then◌else◌,
  nat_eq,
  nat_le,
  pos,
  List,
  [],
  ◌∷◌,
  All,
  map,
  length,
  slice_get,
  Option,
  Some,
  IfSome,
}
use Rattle.cycle_find.specs.Constraints.{Numbers}
use Rattle.mx_bits.specs.declared.op.Op.{Op}
use Rattle.fix_arith.specs.declared.types.RoundMode.{RoundMode}
use Rattle.fix_arith.specs.Table.{applied}
use Rattle.rtl_ir.specs.declared.design.Module.{Module}
use Rattle.rtl_ir.specs.Value.{Family, Contents, bit}
use Rattle.rtl_ir.specs.Grow.{Holds}
use Rattle.stream_graph.specs.declared.node.Kind.{Kind}
use Rattle.stream_graph.specs.declared.node.Kind.TheVariants as K
use Rattle.stream_graph.specs.declared.node.Node.{Node}
use Rattle.offset_edges.specs.declared.edge.Edge.{Edge}
use Rattle.stream_graph.specs.LookUps.{kind_at, operands_at, operand_at, type_at, digits_at}
use Rattle.offset_edges.specs.Edges.{source_of}
use Rattle.stream_graph.specs.Kinds.{is_steady, is_offset, control_in}
use Rattle.offset_edges.specs.Schedules.{delay_of}
use Rattle.counter_chains.specs.Chains.{part_at, chain_at}
use Rattle.rtl_delays.specs.Steps.{IsSound}
use Rattle.rtl_delays.specs.Delays.{Shows, IsTap}
use Rattle.rtl_delays.specs.Extends.{AllOff}
use Rattle.kernel_control.specs.Ports.{PortChannel, ModuleNets, scalars_of}
use Rattle.kernel_control.specs.Due.{is_let}
use Rattle.kernel_control.specs.Refines.{TimedRun, is_active, last_time}
use Rattle.kernel_control.specs.IsControl.{ControlAt}
use Rattle.kernel_refinement.specs.States.{IsCounter, IsKeeper, IsPosition}

-- ---- where words stand

-- The words of nodes, and where they are read: a node's word before its latency, a value that a net
-- may show or not; the nets from which it reads its operands, in their order; and its rank in an
-- order in which no node reads a later one in the same edge of the clock.
pub record Layout : Type 0 where
  pub word : ℕ → Family → ℕ
  pub taps : ℕ → List ℕ
  pub rank : ℕ → ℕ

-- the edge over which a node reads an operand
abbrev pub edge_from : List Node → ℕ → ℕ → Edge
edge_from nodes n operand = record {
  from = (source_of nodes operand).node;
  to = n;
  offset = (source_of nodes operand).offset;
}

-- the times as whole numbers
abbrev pub as_numbers : (ℕ → ℕ) → Numbers
as_numbers times = λ n. pos (times n)

-- A net shows the word of an edge's producer as much later as its latency and the edge's delay say.
-- Where they are 0, the producer comes before the reader in the order.
pub record IsBehind (m : Module) (ticks times : ℕ → ℕ) (run reset : ℕ) (l : Layout) (edge : Edge)
    (tap : ℕ) : Type 0
  where
    pub delay : ℕ
    pub waits : delay_of ticks (as_numbers times) edge ≡ pos delay
    pub late : IsTap m run reset (l.word edge.from) tap (ticks edge.from + delay)
    pub ranked : ticks edge.from + delay ≡ 0 → l.rank edge.from < l.rank edge.to

-- Node n reads an operand from this net. Past offsets, it shows one word in all ticks, or is one
-- behind the producer's word.
pub record TapOf (m : Module) (nodes : List Node) (ticks times : ℕ → ℕ) (run reset : ℕ) (l : Layout)
    (n operand tap : ℕ) : Type 0
  where
    pub inside : (source_of nodes operand).node < length nodes
    pub stream : is_offset (kind_at nodes (source_of nodes operand).node) ≡ false
    pub shows :
        ((is_steady (kind_at nodes (source_of nodes operand).node) ≡ true)
        × Shows m (l.word (source_of nodes operand).node) tap)
        ⊎ IsBehind m ticks times run reset l (edge_from nodes n operand) tap

-- A node of this kind reads its operands from nets. The readers of an offset look past it.
abbrev pub has_taps : Kind → Bool
has_taps (K.Offset ticks) = false
has_taps _ = true

-- each operand from its net
abbrev pub TapsOf : Module → List Node → (ℕ → ℕ) → (ℕ → ℕ) → ℕ → ℕ → Layout → ℕ → List ℕ → List ℕ
    → Type 0
TapsOf m nodes ticks times run reset l n [] [] = Unit {0}
TapsOf m nodes ticks times run reset l n (operand ∷ operands) (tap ∷ taps) =
    TapOf m nodes ticks times run reset l n operand tap
    × TapsOf m nodes ticks times run reset l n operands taps
TapsOf m nodes ticks times run reset l n [] (tap ∷ taps) = ⊥
TapsOf m nodes ticks times run reset l n (operand ∷ operands) [] = ⊥

-- ---- what nets show of controls

-- the net of a port's control or of a hold's store, by the node
abbrev pub control_tap : List Node → Layout → ℕ → Option ℕ
control_tap nodes l n = control_in (kind_at nodes n) (l.taps n)

-- a node is in one of so many ticks at a position, and its control is 1 or it has none
abbrev pub is_shown : List Node → (ℕ → ℕ) → Layout → ℕ → ℕ → ℕ → Family → Bool
is_shown nodes times l count n p f =
    is_active (times n) count p && is_let (control_tap nodes l n) f

-- ---- nodes

-- an input's word is that of its port
pub record IsPortWord (m : Module) (q : ModuleNets) (l : Layout) (n : ℕ) : Type 0 where
  pub place : ℕ
  pub port : PortChannel
  pub at : slice_get q.inputs place ≡ Some port
  pub node : port.node ≡ n
  pub word : Shows m (l.word n) port.channel.word

-- a scalar's word is that of its port
pub record IsScalarWord (m : Module) (nodes : List Node) (q : ModuleNets) (l : Layout) (n : ℕ) : Type 0
  where
    pub place : ℕ
    pub net : ℕ
    pub node : slice_get (scalars_of nodes) place ≡ Some n
    pub at : slice_get q.scalars place ≡ Some net
    pub word : Shows m (l.word n) net

-- a node's word is its first operand's
pub record IsFirstTap (m : Module) (l : Layout) (n : ℕ) : Type 0 where
  pub tap : ℕ
  pub first : slice_get (l.taps n) 0 ≡ Some tap
  pub same : (c : Contents) (f : Family) → Holds m c f → l.word n f ≡ f tap

-- a hold's word is its first operand's where its store is 1, and else the one that was kept
pub record IsHoldWord (m : Module) (nodes : List Node) (times : ℕ → ℕ) (q : ModuleNets) (run : ℕ)
    (l : Layout) (n : ℕ) : Type 0
  where
    pub tap : ℕ
    pub first : slice_get (l.taps n) 0 ≡ Some tap
    pub on : ℕ
    pub store :
        (c : Contents) (f : Family) (count : ℕ)
        → Holds m c f
        → f q.ticks ≡ count
        → count ≤ 2 ^ 40
        → f q.position ≤ count + last_time nodes times
        → f on ≡ bit (is_shown nodes times l count n (f q.position) f)
    pub kept : ℕ
    pub keeper : IsKeeper m run q.reset on tap kept
    pub word :
        (c : Contents) (f : Family)
        → Holds m c f
        → l.word n f ≡ if nat_eq (f on) 1 then f tap else f kept

-- an operation's word is what it gives on the words of its taps, where that is defined
abbrev pub IsApplied : Module → List Node → Layout → ℕ → Op → RoundMode → ℕ → Type 0
IsApplied m nodes l n op mode amount =
    (c : Contents) (f : Family)
    → Holds m c f
    → IfSome (applied op mode (map (type_at nodes) (operands_at nodes n)) (map f (l.taps n)) amount
    (type_at nodes n)) (λ x. l.word n f ≡ x)

-- a node's word is that of a net that counts
pub record IsCounted (m : Module) (run reset : ℕ) (l : Layout) (n time : ℕ) (word : ℕ → ℕ) : Type 0
  where
    pub net : ℕ
    pub shows : Shows m (l.word n) net
    pub counts : IsCounter m run reset net time word

-- The word of a node of this kind is its own, if its taps have its operands'.
abbrev pub HasWord : Module → List Node → (ℕ → ℕ) → ModuleNets → ℕ → Layout → ℕ → Kind → Type 0
HasWord m nodes times q run l n K.Input = IsPortWord m q l n
HasWord m nodes times q run l n K.Output = IsFirstTap m l n
HasWord m nodes times q run l n K.Scalar = IsScalarWord m nodes q l n
HasWord m nodes times q run l n (K.Constant word) =
    (c : Contents) (f : Family) → Holds m c f → l.word n f ≡ word.bits
HasWord m nodes times q run l n (K.Operation op mode amount) =
    IsApplied m nodes l n op mode amount
HasWord m nodes times q run l n (K.Offset ticks) = Unit {0}
HasWord m nodes times q run l n K.Feed = IsFirstTap m l n
HasWord m nodes times q run l n K.Hold = IsHoldWord m nodes times q run l n
HasWord m nodes times q run l n K.Counter =
    IsCounted m run q.reset l n (times n) (part_at (digits_at nodes n) 0)
HasWord m nodes times q run l n K.Chain =
    IsCounted m run q.reset l n (times n) (chain_at (digits_at nodes n))
HasWord m nodes times q run l n (K.Part place) =
    IsCounted m run q.reset l n (times n)
    (part_at (digits_at nodes (operand_at nodes n 0)) place)

-- a node with its operands
pub record NodeBuilt (m : Module) (nodes : List Node) (ticks times : ℕ → ℕ) (q : ModuleNets)
    (run : ℕ) (l : Layout) (n : ℕ) : Type 0
  where
    pub word : HasWord m nodes times q run l n (kind_at nodes n)
    pub taps :
        has_taps (kind_at nodes n) ≡ true
        → TapsOf m nodes ticks times run q.reset l n (operands_at nodes n) (l.taps n)

-- the data of an output port is its node's word
pub record OutputBuilt (m : Module) (nodes : List Node) (l : Layout) (port : PortChannel) : Type 0
  where
    pub output : kind_at nodes port.node ≡ K.Output
    pub word : Shows m (l.word port.node) port.channel.word

-- ---- control

-- The position; and what the control shows at each position up to the end, in every run whose ports
-- are due where the nets show it.
pub record ControlsPorts (m : Module) (nodes : List Node) (times : ℕ → ℕ) (q : ModuleNets) (run : ℕ)
    (l : Layout) : Type 0
  where
    pub position : IsPosition m run q.reset q.position
    pub shows :
        (k : TimedRun) (c : Contents) (f : Family) (count : ℕ)
        → Holds m c f
        → f q.ticks ≡ count
        → count ≤ 2 ^ 40
        → f q.position ≤ count + last_time nodes times
        → ((n : ℕ) → k.due n (f q.position) ≡ is_shown nodes times l count n (f q.position) f)
        → k.ends (f q.position) ≡ nat_le (count + last_time nodes times) (f q.position)
        → ControlAt q run k (f q.position) f

-- ---- the module

-- The module has the parts of the kernel of these nodes at its times: each node's word, the data of
-- each output and the control; and nothing changes in an edge without an advance and a reset.
pub record IsBuilt (m : Module) (nodes : List Node) (ticks times : ℕ → ℕ) (q : ModuleNets) (run : ℕ)
    (l : Layout) : Type 0
  where
    pub sound : IsSound m
    pub small : last_time nodes times ≤ 2 ^ 46
    pub control : ControlsPorts m nodes times q run l
    pub each : (n : ℕ) → n < length nodes → NodeBuilt m nodes ticks times q run l n
    pub outputs : All (OutputBuilt m nodes l) q.outputs
    pub still :
        (c : Contents) (f : Family)
        → Holds m c f
        → f run ≡ 0
        → f q.reset ≡ 0
        → AllOff f m.updates
