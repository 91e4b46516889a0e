-- The operands of an operation, against those of the meaning.
use Rattle.std.specs.Prelude.{◌≡◌, ◌≤◌, ◌++◌, ◌∷◌, [], ◌&&◌, ℕ, ℤ, pos, List, Option, Some, None, Result, Ok, Err, unsigned_abs}
use Rattle.mx_bits.specs.declared.op.Op.{Op}
use Rattle.mx_bits.specs.declared.op.Op.TheVariants as O
use Rattle.std.specs.Int.{is_negative}
use Rattle.fix_arith.specs.declared.types.RoundMode.{RoundMode}
use Rattle.fix_arith.specs.declared.types.StreamType.{StreamType}
use Rattle.fix_arith.specs.declared.types.TypeError.{TypeError}
use Rattle.fix_arith.specs.declared.types.TypeError.TheVariants.{TypesDiffer}
use Rattle.kernel_meaning.specs.declared.error.EvalError.{EvalError}
use Rattle.kernel_meaning.specs.declared.error.EvalError.TheVariants.{NoMemory, Typing}
use Rattle.kernel_meaning.specs.declared.value.Value.{Value}
use Rattle.kernel_meaning.specs.declared.value.Value.TheVariants as V
use Rattle.kernel_meaning.specs.declared.error.EvalError.TheVariants as E
use Rattle.kernel_meaning.specs.declared.state.State.{State}
use Rattle.kernel_meaning.specs.declared.row.Sign.{Sign}
use Rattle.kernel_meaning.specs.declared.row.Sign.TheVariants as S
use Rattle.kernel_meaning.specs.Answer.{Outcome}
use Rattle.kernel_meaning.specs.Outcomes.{wrong, where_so}
use Rattle.std.specs.Fmt.{signed_decimal}
use Rattle.kernel_meaning.specs.HostRows.{whole_between, flag_between, texts_between}
use Rattle.kernel_meaning.specs.SignRows.{op_of, operation_with, stream_between}
use Rattle.kernel_meaning.specs.StreamRows as Rows
use Rattle.kernel_meaning.specs.Typing.{literal_bits}
use Rattle.kernel_rows.specs.declared.operands.Operands.{Operands}

-- the operands as the meaning has them
abbrev pub meant : Operands → Rows.Operands
meant o = record { calls = o.calls; args = o.args; types = o.types; made = o.made }

-- these operands stand before those of the rest
abbrev pub before : Operands → Result Rows.Operands TypeError → Result Rows.Operands TypeError
before o (Err e) = Err e
before o (Ok rest) =
    Ok (record {
      calls = o.calls ++ rest.calls;
      args = o.args ++ rest.args;
      types = o.types ++ rest.types;
      made = rest.made;
    })

-- there are no operands, for this reason; want of memory says nothing of it
abbrev pub IsFault : ℕ → Result Rows.Operands TypeError → EvalError → Type 0
IsFault at operands NoMemory = Unit {0}
IsFault at operands (Typing place e) = (place ≡ at) × (operands ≡ Err e)
IsFault at operands _ = ⊥

-- the operands are these, or there are none for this reason
abbrev pub AreOperands : ℕ → Result Rows.Operands TypeError → Result Operands EvalError → Type 0
AreOperands at operands (Ok o) = operands ≡ Ok (meant o)
AreOperands at operands (Err e) = IsFault at operands e

-- whatever operands come after it, this one is the next, or there are none for this reason
abbrev pub IsNext : ℕ → ((ℕ → Result Rows.Operands TypeError) → Result Rows.Operands TypeError)
    → Operands → Operands → Result (Unit {0}) EvalError → Type 0
IsNext at with_rest old new (Ok done) =
    (rest : ℕ → Result Rows.Operands TypeError) → before old (with_rest rest)
    ≡ before new (rest new.made)
IsNext at with_rest old new (Err e) =
    (rest : ℕ → Result Rows.Operands TypeError) → IsFault at (with_rest rest) e

-- the value is the next operand, and numbers are constants of the type
abbrev pub operand_before : RoundMode → StreamType → ℕ → Value
    → (ℕ → Result Rows.Operands TypeError) → Result Rows.Operands TypeError
operand_before mode t made (V.Stream n u feed) rest = Rows.with_node n u (rest made)
operand_before mode t made (V.Int n) rest =
    Rows.literal_before (literal_bits mode (is_negative n) (unsigned_abs n) 0 t) made t rest
operand_before mode t made (V.Literal negative digits tens) rest =
    Rows.literal_before (literal_bits mode negative digits tens t) made t rest
operand_before mode t made _ rest = Err TypesDiffer

-- an operation has so many operands, with the type that a cast is given
abbrev pub HasCount : Op → ℕ → Type 0
HasCount O.Neg n = n ≡ 1
HasCount O.Not n = n ≡ 1
HasCount O.Shl n = n ≡ 1
HasCount O.Shr n = n ≡ 1
HasCount O.Mux n = 1 ≤ n
HasCount _ n = n ≡ 2

-- only a shift has an amount
abbrev pub HasAmount : Op → ℤ → Type 0
HasAmount O.Shl k = Unit {0}
HasAmount O.Shr k = Unit {0}
HasAmount _ k = k ≡ pos 0

-- the operation of a sign that shifts
abbrev pub shift_of : Sign → Option Op
shift_of S.ShiftLeft = Some O.Shl
shift_of S.ShiftRight = Some O.Shr
shift_of _ = None

-- a stream is shifted by a number
abbrev pub shifted_pair : Op → ℕ → List Value → State → Outcome
shifted_pair op at (V.Stream n t feed ∷ V.Int k ∷ []) state =
    Rows.operation at op k t [] (V.Stream n t feed ∷ []) state
shifted_pair op at _ state = wrong at

-- a sign that is no shift, between two values
abbrev pub operation_pair : Sign → ℕ → List Value → State → Outcome
operation_pair sign at (a ∷ b ∷ []) state =
    where_so (Rows.is_operand a && Rows.is_operand b) (E.WrongKind at)
    (operation_with at (op_of sign) (Rows.first_stream (a ∷ b ∷ [])) (a ∷ b ∷ []) state)
operation_pair sign at _ state = wrong at

-- a sign between two values of which one is a stream
abbrev pub stream_pair : Sign → ℕ → List Value → State → Outcome
stream_pair sign at (a ∷ b ∷ []) state = stream_between sign at a b state
stream_pair sign at _ state = wrong at

-- a sign between two values of which none is a stream
abbrev pub host_values : Sign → ℕ → Value → Value → State → Outcome
host_values sign at (V.Int x) (V.Int y) state = whole_between sign at x y state
host_values sign at (V.Flag a) (V.Flag b) state = flag_between sign at a b state
host_values sign at (V.Str a) (V.Str b) state = texts_between sign at a b state
host_values sign at (V.Str a) (V.Int y) state = texts_between sign at a (signed_decimal y) state
host_values sign at (V.Int x) (V.Str b) state = texts_between sign at (signed_decimal x) b state
host_values sign at _ _ state = wrong at
