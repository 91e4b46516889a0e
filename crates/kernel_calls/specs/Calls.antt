-- The calls that make a kernel, and the nodes that they make.
use Rattle.std.specs.Prelude.{◌≡◌, ◌⊎◌, ℕ, ◌+◌, ◌==◌, List, [], ◌∷◌, length, Option, Some, None, Bool, true, false}
use Rattle.counter_chains.specs.declared.digits.CounterDigit.{CounterDigit}
use Rattle.fix_arith.specs.declared.types.StreamType.{StreamType}
use Rattle.fix_arith.specs.declared.types.StreamType.TheVariants.{UInt}
use Rattle.kernel_calls.specs.declared.call.Call.{Call}
use Rattle.kernel_calls.specs.declared.call.Call.TheVariants as C

-- how many nodes a call makes
abbrev pub nodes_of : Call → ℕ
nodes_of (C.Connect feed value) = 0
nodes_of _ = 1

-- how many nodes calls make
abbrev pub count_of : List Call → ℕ
count_of [] = 0
count_of (call ∷ calls) = count_of calls + nodes_of call

-- the words of the type that a node has; an output and a chain are no streams
abbrev pub stream_of : Call → Option StreamType
stream_of (C.Input name t control) = Some t
stream_of (C.Output name value control t) = None
stream_of (C.Scalar name t) = Some t
stream_of (C.Constant bits t) = Some t
stream_of (C.Operation op mode amount args t) = Some t
stream_of (C.Offset value k t) = Some t
stream_of (C.Feed t) = Some t
stream_of (C.Connect feed value) = None
stream_of (C.Hold value store t) = Some t
stream_of (C.Counter d) = Some (UInt d.bits)
stream_of C.Chain = None
stream_of (C.ChainDigit chain d) = Some (UInt d.bits)

-- the node of a number is made by this call, one of those so far, of which the newest is first
abbrev pub Makes : List Call → ℕ → Call → Type 0
Makes [] n call = ⊥
Makes (C.Connect feed value ∷ older) n call = Makes older n call
Makes (newest ∷ older) n call = ((n ≡ count_of older) × (call ≡ newest)) ⊎ Makes older n call

-- the bits that a call gives to a chain
abbrev pub bits_given : ℕ → Call → ℕ
bits_given chain (C.ChainDigit other d) = elim (other == chain) [ true ↦ d.bits | false ↦ 0 ]
bits_given chain _ = 0

-- the bits of a chain's digits so far
abbrev pub bits_in : List Call → ℕ → ℕ
bits_in [] chain = 0
bits_in (call ∷ older) chain = bits_in older chain + bits_given chain call
