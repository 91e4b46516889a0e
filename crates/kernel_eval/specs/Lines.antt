-- The line that a building run says that is refused.
use Rattle.std.specs.Prelude.{List, [], ◌∷◌, ℕ, Option, Some, None, codes}
use Rattle.std.specs.Fmt.{decimal, signed_decimal}
use Rattle.counter_chains.specs.declared.digits.CounterError.{CounterError}
use Rattle.counter_chains.specs.declared.digits.CounterError.TheVariants as C
use Rattle.fix_arith.specs.declared.types.TypeError.{TypeError}
use Rattle.fix_arith.specs.declared.types.TypeError.TheVariants as T
use Rattle.kernel_meaning.specs.declared.error.EvalError.{EvalError}
use Rattle.kernel_meaning.specs.declared.error.EvalError.TheVariants as E
use Rattle.latency_table.specs.Names.{name_of}
use Rattle.refusal_line.specs.Lines.{refused}

-- a fault of types: its number, and its values
abbrev pub type_words : TypeError → List (List ℕ)
type_words T.TypesDiffer = decimal 1 ∷ []
type_words (T.NotForType op) = decimal 2 ∷ name_of op ∷ []
type_words T.MulTooWide = decimal 3 ∷ []
type_words T.LiteralRange = decimal 4 ∷ []
type_words (T.ShiftRange amount) = decimal 5 ∷ signed_decimal amount ∷ []
type_words (T.MuxCount options) = decimal 6 ∷ decimal options ∷ []

-- a fault of a counter: its number, and its values
abbrev pub counter_words : CounterError → List (List ℕ)
counter_words (C.CounterRange max bits) = decimal 1 ∷ signed_decimal max ∷ decimal bits ∷ []
counter_words (C.IncRange inc) = decimal 2 ∷ signed_decimal inc ∷ []
counter_words (C.TooWide bits) = decimal 3 ∷ decimal bits ∷ []

-- The line of a refusal: its code, the place, and of an inner fault its number and its values. Want of memory says none.
abbrev pub refusal_of : EvalError → Option (List ℕ)
refusal_of (E.UnknownName at) = Some (refused (codes "E1") (decimal at ∷ []))
refusal_of (E.WrongKind at) = Some (refused (codes "E2") (decimal at ∷ []))
refusal_of (E.Typing at fault) = Some (refused (codes "E3") (decimal at ∷ type_words fault))
refusal_of (E.ArrayRange at) = Some (refused (codes "E4") (decimal at ∷ []))
refusal_of (E.DivByZero at) = Some (refused (codes "E5") (decimal at ∷ []))
refusal_of (E.Unset at) = Some (refused (codes "E6") (decimal at ∷ []))
refusal_of E.StepLimit = Some (refused (codes "E7") [])
refusal_of (E.CallDepth at) = Some (refused (codes "E8") (decimal at ∷ []))
refusal_of (E.OffsetRange at ticks) =
    Some (refused (codes "E9") (decimal at ∷ decimal 5 ∷ signed_decimal ticks ∷ []))
refusal_of (E.TextTooLong at) = Some (refused (codes "E10") (decimal at ∷ []))
refusal_of (E.BadPortName at) = Some (refused (codes "E11") (decimal at ∷ []))
refusal_of (E.PopEmpty at) = Some (refused (codes "E12") (decimal at ∷ []))
refusal_of (E.Counter at fault) = Some (refused (codes "E13") (decimal at ∷ counter_words fault))
refusal_of (E.TypeRange at) = Some (refused (codes "E14") (decimal at ∷ []))
refusal_of (E.NameTwice at) = Some (refused (codes "E15") (decimal at ∷ []))
refusal_of E.NoMemory = None
