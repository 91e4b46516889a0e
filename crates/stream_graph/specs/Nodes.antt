-- The nodes that calls make. A list of calls so far has the newest call first.
use Rattle.std.specs.Prelude.{◌≡◌, ℕ, ◌+◌, ◌&&◌, ◌==◌, nat_lt, Bool, false, if◌then◌else◌, List, [], ◌∷◌, ◌++◌, length, Option, Some, None, is_some, slice_get}
use Rattle.counter_chains.specs.declared.digits.CounterDigit.{CounterDigit}
use Rattle.fix_arith.specs.declared.types.StreamType.{StreamType}
use Rattle.fix_arith.specs.declared.types.StreamType.TheVariants.{UInt}
use Rattle.fix_arith.specs.Types.{width_of}
use Rattle.mx_bits.specs.declared.word.Word.{Word}
use Rattle.kernel_calls.specs.declared.call.Call.{Call}
use Rattle.kernel_calls.specs.declared.call.Call.TheVariants as C
use Rattle.kernel_calls.specs.Calls.{count_of, bits_in, Makes}
use Rattle.stream_graph.specs.declared.node.Kind.{Kind}
use Rattle.stream_graph.specs.declared.node.Kind.TheVariants as K
use Rattle.stream_graph.specs.declared.node.Node.{Node}

-- the calls so far once further ones, in their order, are made too
abbrev pub later : List Call → List Call → List Call
later so_far [] = so_far
later so_far (call ∷ calls) = later (call ∷ so_far) calls

-- the values that are connected to a feed, in the order of their calls
abbrev pub connected_to : List Call → ℕ → List ℕ
connected_to [] n = []
connected_to (C.Connect feed value ∷ older) n = connected_to older n ++ (if feed == n then value ∷ [] else [])
connected_to (_ ∷ older) n = connected_to older n

-- the digits of a chain, in the order of their calls
abbrev pub digits_to : List Call → ℕ → List CounterDigit
digits_to [] n = []
digits_to (C.ChainDigit chain d ∷ older) n = digits_to older n ++ (if chain == n then d ∷ [] else [])
digits_to (_ ∷ older) n = digits_to older n

-- how many digits of a chain are nodes before this one
abbrev pub place_of : List Call → ℕ → ℕ → ℕ
place_of [] chain n = 0
place_of (C.ChainDigit other d ∷ older) chain n = place_of older chain n +
    (if (other == chain) && nat_lt (count_of older) n then 1 else 0)
place_of (_ ∷ older) chain n = place_of older chain n

-- what the node of a call is
abbrev pub IsKind : List Call → ℕ → Call → Kind → Type 0
IsKind so_far n (C.Input name t control) kind = kind ≡ K.Input
IsKind so_far n (C.Output name value control t) kind = kind ≡ K.Output
IsKind so_far n (C.Scalar name t) kind = kind ≡ K.Scalar
IsKind so_far n (C.Constant bits t) kind = (word : Word) × (kind ≡ K.Constant word) × (word.bits ≡ bits) ×
    (word.width ≡ width_of t)
IsKind so_far n (C.Operation op mode amount args t) kind = kind ≡ K.Operation op mode amount
IsKind so_far n (C.Offset value k t) kind = kind ≡ K.Offset k
IsKind so_far n (C.Feed t) kind = kind ≡ K.Feed
IsKind so_far n (C.Connect feed value) kind = ⊥
IsKind so_far n (C.Hold value store t) kind = kind ≡ K.Hold
IsKind so_far n (C.Counter d) kind = kind ≡ K.Counter
IsKind so_far n C.Chain kind = kind ≡ K.Chain
IsKind so_far n (C.ChainDigit chain d) kind = kind ≡ K.Part (place_of so_far chain n)

-- the type of its words; a chain has the bits of all its digits
abbrev pub type_of : List Call → ℕ → Call → StreamType
type_of so_far n (C.Input name t control) = t
type_of so_far n (C.Output name value control t) = t
type_of so_far n (C.Scalar name t) = t
type_of so_far n (C.Constant bits t) = t
type_of so_far n (C.Operation op mode amount args t) = t
type_of so_far n (C.Offset value k t) = t
type_of so_far n (C.Feed t) = t
type_of so_far n (C.Connect feed value) = UInt 0
type_of so_far n (C.Hold value store t) = t
type_of so_far n (C.Counter d) = UInt d.bits
type_of so_far n C.Chain = UInt (bits_in so_far n)
type_of so_far n (C.ChainDigit chain d) = UInt d.bits

-- whether it is a port with a control
abbrev pub is_controlled : Call → Bool
is_controlled (C.Input name t control) = is_some control
is_controlled (C.Output name value control t) = is_some control
is_controlled _ = false

abbrev pub one_or_none : Option ℕ → List ℕ
one_or_none None = []
one_or_none (Some n) = n ∷ []

-- its operands, in the order of the call's arguments; those of a feed are what is connected to it
abbrev pub operands_by : List Call → ℕ → Call → List ℕ
operands_by so_far n (C.Input name t control) = one_or_none control
operands_by so_far n (C.Output name value control t) = value ∷ one_or_none control
operands_by so_far n (C.Operation op mode amount args t) = args
operands_by so_far n (C.Offset value k t) = value ∷ []
operands_by so_far n (C.Feed t) = connected_to so_far n
operands_by so_far n (C.Hold value store t) = value ∷ store ∷ []
operands_by so_far n (C.ChainDigit chain d) = chain ∷ []
operands_by so_far n _ = []

-- a port's name, and else nothing
abbrev pub name_by : Call → List ℕ
name_by (C.Input name t control) = name
name_by (C.Output name value control t) = name
name_by (C.Scalar name t) = name
name_by _ = []

-- the digits that it counts with, of a chain all of them from the outermost on
abbrev pub digits_by : List Call → ℕ → Call → List CounterDigit
digits_by so_far n (C.Counter d) = d ∷ []
digits_by so_far n C.Chain = digits_to so_far n
digits_by so_far n (C.ChainDigit chain d) = d ∷ []
digits_by so_far n _ = []

-- this is the node of a call
pub record IsNode (so_far : List Call) (n : ℕ) (call : Call) (node : Node) : Type 0 where
  pub kind : IsKind so_far n call node.view.kind
  pub t : node.view.t ≡ type_of so_far n call
  pub controlled : node.view.controlled ≡ is_controlled call
  pub operands : node.operands ≡ operands_by so_far n call
  pub name : node.name ≡ name_by call
  pub digits : node.digits ≡ digits_by so_far n call

-- these are the nodes of the calls, in their order
pub record AreNodes (so_far : List Call) (nodes : List Node) : Type 0 where
  pub count : length nodes ≡ count_of so_far
  pub each : (n : ℕ) (call : Call) → Makes so_far n call →
      (node : Node) × (slice_get nodes n ≡ Some node) × IsNode so_far n call node
