-- When a call is lawful after others, and what lists of calls need of a builder.
use Rattle.std.specs.Prelude.{◌≡◌, ◌⊎◌, ◌≤◌, ◌<◌, ◌^◌, ℕ, ◌+◌, ◌&&◌, Bool, true, false, List, [], ◌∷◌, Option, Some, None, length, unsigned_abs, IsTrue}
use Rattle.std.specs.List.{list_all}
use Rattle.grammar.specs.Bytes.{is_letter}
use Rattle.maxj_tokens.specs.Tokens.{is_name_byte}
use Rattle.counter_chains.specs.Digits.{IsDigit}
use Rattle.fix_arith.specs.declared.types.StreamType.{StreamType}
use Rattle.fix_arith.specs.declared.types.StreamType.TheVariants.{UInt, Bool as OneBit}
use Rattle.fix_arith.specs.Types.{width_of, HasWidth}
use Rattle.fix_arith.specs.Table.{GivesType}
use Rattle.kernel_calls.specs.declared.call.Call.{Call}
use Rattle.kernel_calls.specs.declared.call.Call.TheVariants as C
use Rattle.kernel_calls.specs.Calls.{Makes, stream_of, bits_in}

-- a letter, and then letters, digits and `_`
abbrev pub is_port_name : List ℕ → Bool
is_port_name [] = false
is_port_name (b ∷ bs) = is_letter b && list_all is_name_byte bs

-- what a port may be called: a name of at most 64 bytes
abbrev pub IsPortName : List ℕ → Type 0
IsPortName name = IsTrue (is_port_name name) × (length name ≤ 64)

-- the node is a stream of this type
abbrev pub IsStream : List Call → ℕ → StreamType → Type 0
IsStream so_far n t = (call : Call) × Makes so_far n call × (stream_of call ≡ Some t)

-- the nodes are streams of these types, one by one
abbrev pub AreStreams : List Call → List ℕ → List StreamType → Type 0
AreStreams so_far [] [] = Unit {0}
AreStreams so_far (n ∷ ns) (t ∷ ts) = IsStream so_far n t × AreStreams so_far ns ts
AreStreams so_far _ _ = ⊥

-- a stream of one bit
abbrev pub IsControl : List Call → ℕ → Type 0
IsControl so_far n = IsStream so_far n OneBit ⊎ IsStream so_far n (UInt 1)

abbrev pub MayControl : List Call → Option ℕ → Type 0
MayControl so_far None = Unit {0}
MayControl so_far (Some n) = IsControl so_far n

-- the call may come after those so far, of which the newest is first
abbrev pub IsLawful : List Call → Call → Type 0
IsLawful so_far (C.Input name t control) = IsPortName name × HasWidth t × MayControl so_far control
IsLawful so_far (C.Output name value control t) = IsPortName name × IsStream so_far value t × MayControl
    so_far control × HasWidth t
IsLawful so_far (C.Scalar name t) = IsPortName name × HasWidth t
IsLawful so_far (C.Constant bits t) = HasWidth t × (bits < 2 ^ width_of t)
IsLawful so_far (C.Operation op mode amount args t) = (types : List StreamType) × AreStreams so_far args types ×
    GivesType op types amount t × HasWidth t
IsLawful so_far (C.Offset value k t) = IsStream so_far value t × (unsigned_abs k ≤ 1048576) × HasWidth t
IsLawful so_far (C.Feed t) = HasWidth t
IsLawful so_far (C.Connect feed value) = (t : StreamType) × Makes so_far feed (C.Feed t) × IsStream so_far value t
IsLawful so_far (C.Hold value store t) = IsStream so_far value t × IsControl so_far store × HasWidth t
IsLawful so_far (C.Counter d) = IsDigit d
IsLawful so_far C.Chain = Unit {0}
IsLawful so_far (C.ChainDigit chain d) = Makes so_far chain C.Chain × IsDigit d ×
    (bits_in so_far chain + d.bits ≤ 128)

-- each of the calls may come after those before it
abbrev pub AreLawful : List Call → List Call → Type 0
AreLawful so_far [] = Unit {0}
AreLawful so_far (call ∷ calls) = IsLawful so_far call × AreLawful (call ∷ so_far) calls

-- the calls take the first state to the second, one after another
abbrev pub Received : {S : Type 0} → (S → Call → S → Type 0) → S → List Call → S → Type 0
Received receives old [] new = old ≡ new
Received {S} receives old (call ∷ calls) new = (mid : S) × receives old call mid × Received receives mid calls new

-- there is room for all of the calls
abbrev pub HasRoom : {S : Type 0} → (S → Call → Type 0) → (S → Call → S → Type 0) → S → List Call → Type 0
HasRoom has_room receives old [] = Unit {0}
HasRoom {S} has_room receives old (call ∷ calls) =
    has_room old call × ((mid : S) → receives old call mid → HasRoom has_room receives mid calls)
