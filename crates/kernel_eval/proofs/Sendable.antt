-- A lawful call can be sent: it names nodes that were made.
use Rattle.std.proofs.Common.{◌<◌, ℕ, List, [], ◌∷◌, ◌++◌, Some, None, inl, inr, arith}
use Rattle.std.specs.Prelude.{Option, All}
use Rattle.std.proofs.lemmas.List.Elements.{All-nil, All-cons}
use Rattle.fix_arith.specs.declared.types.StreamType.{StreamType}
use Rattle.kernel_calls.specs.declared.call.Call.{Call}
use Rattle.kernel_calls.specs.declared.call.Call.TheVariants as C
use Rattle.kernel_calls.specs.Calls.{Makes, count_of}
use Rattle.kernel_calls.specs.Laws.{IsStream, MayControl, AreStreams, IsLawful, AreLawful}
use Rattle.kernel_eval.specs.Sending.{MayName, IsSendable, AreSendable}

below : (so_far : List Call) (n : ℕ) (call : Call) → Makes so_far n call → n < count_of so_far
below [] n call h = absurd h
below (C.Connect feed value ∷ older) n call h = let l = below older n call h in omega arith
below (newest ∷ older) n call (inl h) = let e = h.0 in omega arith
below (newest ∷ older) n call (inr h) = let l = below older n call h in omega arith

named : (so_far : List Call) (n : ℕ) (t : StreamType) → IsStream so_far n t → n < count_of so_far
named so_far n t h = below so_far n h.0 h.1

may_name : (so_far : List Call) (control : Option ℕ) → MayControl so_far control
    → MayName (count_of so_far) control
may_name so_far None h = tt
may_name so_far (Some n) (inl h) = named so_far n _ h
may_name so_far (Some n) (inr h) = named so_far n _ h

all_named : (so_far : List Call) (args : List ℕ) (types : List StreamType)
    → AreStreams so_far args types → All (λ n. n < count_of so_far) args
all_named so_far [] [] h = All-nil _
all_named so_far (n ∷ ns) (t ∷ ts) h =
    All-cons (λ x. x < count_of so_far) n ns (named so_far n t h.0) (all_named so_far ns ts h.1)
all_named so_far [] (t ∷ ts) h = absurd h
all_named so_far (n ∷ ns) [] h = absurd h

pub sendable : (so_far : List Call) (call : Call) → IsLawful so_far call
    → IsSendable (count_of so_far) call
sendable so_far (C.Input name t control) h = may_name so_far control h.2
sendable so_far (C.Output name value control t) h =
    (named so_far value t h.1, may_name so_far control h.2)
sendable so_far (C.Scalar name t) h = tt
sendable so_far (C.Constant bits t) h = h
sendable so_far (C.Operation op mode amount args t) h = all_named so_far args h.0 h.1
sendable so_far (C.Offset value k t) h = named so_far value t h.0
sendable so_far (C.Feed t) h = tt
sendable so_far (C.Connect feed value) h =
    (below so_far feed (C.Feed h.0) h.1, named so_far value h.0 h.2)
sendable so_far (C.Hold value store t) h =
    (named so_far value t h.0, may_name so_far (Some store) h.1)
sendable so_far (C.Counter d) h = tt
sendable so_far C.Chain h = tt
sendable so_far (C.ChainDigit chain d) h = below so_far chain C.Chain h.0

pub all_sendable : (so_far calls more : List Call) → AreLawful so_far (calls ++ more)
    → AreSendable (count_of so_far) calls
all_sendable so_far [] more h = tt
all_sendable so_far (call ∷ calls) more h =
    (sendable so_far call h.0, all_sendable (call ∷ so_far) calls more h.1)
