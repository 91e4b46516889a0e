-- The wires of one node.
use Rattle.std.specs.Prelude.{
  ◌≡◌,
  ℕ,
  ◌+◌,
  ◌*◌,
  ◌/◌,
  ◌%◌,
  ◌^◌,
  ◌<◌,
  Bool,
  true,
  false,
  ◌&&◌,
  ◌==◌,
  nat_eq,
  if◌then◌else◌,
  List,
  map,
  length,
  All,
  Option,
  Some,
  IfSome,
  is_some,
  slice_get,
  sum_by,
}
use Rattle.counter_chains.specs.Chains.{bits_below}
use Rattle.fix_arith.specs.Table.{applied}
use Rattle.rtl_ir.specs.declared.design.Module.{Module}
use Rattle.rtl_ir.specs.Value.{Family, Contents, bit}
use Rattle.rtl_ir.specs.Grow.{Holds}
use Rattle.rtl_build.specs.declared.signal.Signal.{Signal}
use Rattle.rtl_build.specs.Wires.{AddsWires}
use Rattle.stream_graph.specs.declared.node.Kind.{Kind}
use Rattle.stream_graph.specs.declared.node.Kind.TheVariants as K
use Rattle.stream_graph.specs.declared.node.Node.{Node}
use Rattle.stream_graph.specs.LookUps.{
  kind_at,
  width_at,
  operands_at,
  operand_at,
  type_at,
  digits_at,
}
use Rattle.kernel_control.specs.Due.{is_in_ticks}
use Rattle.kernel_layout.specs.declared.layout.Layout.{Layout}
use Rattle.kernel_wiring.specs.declared.timing.Timing.{Timing}
use Rattle.kernel_wiring.specs.Costs.{word_wires}
use Rattle.kernel_wiring.specs.Timing.{time_at}
use Rattle.kernel_wiring.specs.Words.{
  is_wired,
  signal_at,
  operand_signal,
  reads_at,
  taps_at,
  IsWordOf,
  IsReadIn,
}

-- the word of a part is that of its counter in the word of its chain
pub record IsPartWord (m : Module) (nodes : List Node) (taps : List ℕ) (net n place : ℕ) : Type 0
  where
    pub chain : ℕ
    pub first : slice_get taps 0 ≡ Some chain
    pub shows :
        (c : Contents) (f : Family)
        → Holds m c f
        → f net
        ≡ f chain / 2 ^ bits_below (digits_at nodes (operand_at nodes n 0)) place
        % 2 ^ width_at nodes n

-- The word of a hold is its first operand's in the ticks of the run in which its second one is 1,
-- and else the one that is kept.
pub record IsHeldWord (m : Module) (timing : Timing) (taps : List ℕ) (kept net n : ℕ) : Type 0
  where
    pub from : ℕ
    pub first : slice_get taps 0 ≡ Some from
    pub store : ℕ
    pub second : slice_get taps 1 ≡ Some store
    pub on : ℕ
    pub stores :
        (c : Contents) (f : Family)
        → Holds m c f
        → f on
        ≡ bit (is_in_ticks (f timing.position.net) (f timing.ticks.net) (time_at timing n)
        && nat_eq (f store) 1)
    pub shows :
        (c : Contents) (f : Family)
        → Holds m c f
        → f net ≡ if nat_eq (f on) 1 then f from else f kept

-- The net of a node of this kind has its word, if its taps have those of its operands: a constant's
-- bits, what an operation gives where it is defined, for an output and a feed the first operand's,
-- for a part its counter's, and for a hold its first operand's or the one that is kept.
abbrev pub IsWired : Module → List Node → Timing → List ℕ → ℕ → ℕ → ℕ → Kind → Type 0
IsWired m nodes timing taps kept net n K.Output = slice_get taps 0 ≡ Some net
IsWired m nodes timing taps kept net n (K.Constant word) =
    (c : Contents) (f : Family) → Holds m c f → f net ≡ word.bits
IsWired m nodes timing taps kept net n (K.Operation op mode amount) =
    (c : Contents) (f : Family)
    → Holds m c f
    → IfSome (applied op mode (map (type_at nodes) (operands_at nodes n)) (map f taps) amount
    (type_at nodes n)) (λ x. f net ≡ x)
IsWired m nodes timing taps kept net n K.Feed = slice_get taps 0 ≡ Some net
IsWired m nodes timing taps kept net n (K.Part place) = IsPartWord m nodes taps net n place
IsWired m nodes timing taps kept net n K.Hold = IsHeldWord m timing taps kept net n
IsWired m nodes timing taps kept net n _ = Unit {0}

-- the wires of a node of this kind take the word of the operand with this place
abbrev pub takes : Kind → ℕ → Bool
takes K.Output place = place == 0
takes (K.Operation op mode amount) place = true
takes K.Feed place = place == 0
takes (K.Part part) place = true
takes K.Hold place = true
takes _ place = false

-- All signals that a node reads are there, and those that its wires take stand in the module with
-- the widths of its operands.
pub record IsReadable (m : Module) (nodes : List Node) (layout : Layout)
    (late : List (List Signal)) (words : List Signal) (n : ℕ) : Type 0
  where
    pub reads : n < length layout.reads
    pub counted :
        is_wired (kind_at nodes n) ≡ true
        → length (reads_at layout n) ≡ length (operands_at nodes n)
    pub each : All (IsReadIn layout late words) (reads_at layout n)
    pub typed :
        (place : ℕ)
        → place < length (operands_at nodes n)
        → takes (kind_at nodes n) place ≡ true
        → IsWordOf m nodes (operand_at nodes n place) (operand_signal layout late words n place)

-- how many operands all nodes have together
abbrev pub operand_count : List Node → ℕ
operand_count nodes = sum_by (λ (node : Node). length node.operands) nodes

-- The wires of a node were added, no more than it may take for its word, if it is of a kind that
-- gets them here, and the signal is that of its word.
pub record AddsWord (old new : Module) (nodes : List Node) (layout : Layout)
    (late : List (List Signal)) (words : List Signal) (timing : Timing) (n : ℕ)
    (word : Option Signal) : Type 0
  where
    pub adds : AddsWires old new (word_wires nodes (kind_at nodes n) (operands_at nodes n))
    pub some : is_some word ≡ is_wired (kind_at nodes n)
    pub shows :
        IfSome word (λ s.
        IsWordOf new nodes n s
        × IsWired new nodes timing (taps_at layout late words n) (signal_at words n).net s.net n
        (kind_at nodes n))
