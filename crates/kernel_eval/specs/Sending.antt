-- What a call needs so that a builder can be sent it, and what sending gives.
use Rattle.std.specs.Prelude.{
  ◌≡◌,
  ◌<◌,
  ◌^◌,
  ◌+◌,
  ℕ,
  List,
  [],
  ◌∷◌,
  length,
  Option,
  Some,
  None,
  All,
  slice_get,
}
use Rattle.fix_arith.specs.Types.{width_of, HasWidth}
use Rattle.kernel_calls.specs.declared.call.Call.{Call}
use Rattle.kernel_calls.specs.declared.call.Call.TheVariants as C
use Rattle.kernel_calls.specs.Calls.{nodes_of, count_of}
use Rattle.kernel_calls.specs.Laws.{Received}

-- each handle has its place as its number
abbrev pub AreNumbered : {V : Type 0} → (V → ℕ) → List V → Type 0
AreNumbered {V} number vars =
    (n : ℕ) (var : V) → slice_get vars n ≡ Some var → number var ≡ n

-- the node of a control is below this number, where there is one
abbrev pub MayName : ℕ → Option ℕ → Type 0
MayName made None = Unit {0}
MayName made (Some n) = n < made

-- the call names nodes below this number alone, and the bits of a constant fit its type
abbrev pub IsSendable : ℕ → Call → Type 0
IsSendable made (C.Input name t control) = MayName made control
IsSendable made (C.Output name value control t) = (value < made) × MayName made control
IsSendable made (C.Constant bits t) = HasWidth t × (bits < 2 ^ width_of t)
IsSendable made (C.Operation op mode amount args t) = All (λ n. n < made) args
IsSendable made (C.Offset value k t) = value < made
IsSendable made (C.Connect feed value) = (feed < made) × (value < made)
IsSendable made (C.Hold value store t) = (value < made) × (store < made)
IsSendable made (C.ChainDigit chain d) = chain < made
IsSendable made _ = Unit {0}

-- so do all of the calls, one after another
abbrev pub AreSendable : ℕ → List Call → Type 0
AreSendable made [] = Unit {0}
AreSendable made (call ∷ calls) = IsSendable made call × AreSendable (made + nodes_of call) calls

-- what a call gives that makes so many nodes: the handle of the node of this number, or none
abbrev pub IsHandle : {V : Type 0} → (V → ℕ) → ℕ → ℕ → Option V → Type 0
IsHandle number nodes n None = nodes ≡ 0
IsHandle number nodes n (Some var) = (nodes ≡ 1) × (number var ≡ n)

-- there is room for each of the calls, as long as fewer than 2^32 nodes are made
abbrev pub HasRoomBelow : {S : Type 0} → (S → ℕ) → (S → Call → Type 0)
    → (S → Call → S → Type 0) → S → List Call
    → Type 0
HasRoomBelow made has_room receives old [] = Unit {0}
HasRoomBelow {S} made has_room receives old (call ∷ calls) =
    (made old + 1 < 2 ^ 32 → has_room old call)
    × ((mid : S) → receives old call mid → HasRoomBelow made has_room receives mid calls)

-- the builder received the call, and gave this handle
pub record IsTold {S V : Type 0} (receives : S → Call → S → Type 0) (made : S → ℕ)
    (number : V → ℕ) (old : S) (call : Call) (new : S) (handle : Option V) : Type 0 where
  pub received : receives old call new
  pub nodes : made new ≡ made old + nodes_of call
  pub is_handle : IsHandle number (nodes_of call) (made old) handle

-- the builder received the call, and the handle of its node, where it makes one, stands last
pub record IsSent {S V : Type 0} (receives : S → Call → S → Type 0) (made : S → ℕ)
    (number : V → ℕ) (old : S) (call : Call) (new : S) (before after : List V) : Type 0 where
  pub received : receives old call new
  pub numbered : AreNumbered number after
  pub nodes : made new ≡ length after
  pub more : length after ≡ length before + nodes_of call

-- the builder received the calls, in their order
pub record AreSent {S V : Type 0} (receives : S → Call → S → Type 0) (made : S → ℕ)
    (number : V → ℕ) (old : S) (calls : List Call) (new : S) (before after : List V)
    : Type 0 where
  pub received : Received receives old calls new
  pub numbered : AreNumbered number after
  pub nodes : made new ≡ length after
  pub more : length after ≡ length before + count_of calls
