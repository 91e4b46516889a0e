-- Operations on streams and numbers, multiplexers and casts.
use Rattle.std.specs.Prelude.{
  ◌==◌,
  ◌&&◌,
  ℕ,
  ◌+◌,
  List,
  [],
  ◌∷◌,
  ◌++◌,
  Bool,
  true,
  false,
  Option,
  Some,
  None,
  Result,
  Ok,
  Err,
  if◌then◌else◌,
  is_none,
  not,
  ℤ,
  pos,
  nat_lt,
  unsigned_abs,
}
use Rattle.std.specs.Int.{is_negative}
use Rattle.std.specs.List.{list_all}
use Rattle.mx_bits.specs.declared.op.Op.{Op}
use Rattle.mx_bits.specs.declared.op.Op.TheVariants as O
use Rattle.fix_arith.specs.declared.types.TypeError.TheVariants.{TypesDiffer}
use Rattle.fix_arith.specs.Types.{frac_of}
use Rattle.fix_arith.specs.declared.types.RoundMode.{RoundMode}
use Rattle.fix_arith.specs.declared.types.TypeError.{TypeError}
use Rattle.fix_arith.specs.declared.types.StreamType.{StreamType}
use Rattle.fix_arith.specs.declared.types.RoundMode.TheVariants.{ToNearEven}
use Rattle.fix_arith.specs.declared.types.StreamType.TheVariants as T
use Rattle.kernel_calls.specs.declared.call.Call.{Call}
use Rattle.kernel_calls.specs.declared.call.Call.TheVariants as C
use Rattle.kernel_meaning.specs.declared.value.Value.{Value}
use Rattle.kernel_meaning.specs.declared.state.State.{State}
use Rattle.kernel_meaning.specs.declared.error.EvalError.TheVariants as E
use Rattle.kernel_meaning.specs.declared.value.Value.TheVariants as V
use Rattle.kernel_meaning.specs.Answer.{Outcome, Fails, Does}
use Rattle.kernel_meaning.specs.Typing.{typing, literal_bits}
use Rattle.kernel_meaning.specs.Outcomes.{wrong, where_so}

-- the mode of rounding, as it was set last
abbrev pub mode_of : List RoundMode → RoundMode
mode_of [] = ToNearEven
mode_of (mode ∷ modes) = mode

-- operands as nodes: numbers are made constants of a type, and the nodes so far are so many
pub record Operands : Type 0 where
  pub calls : List Call
  pub args : List ℕ
  pub types : List StreamType
  pub made : ℕ

abbrev pub with_node : ℕ → StreamType → Result Operands TypeError → Result Operands TypeError
with_node n t (Err e) = Err e
with_node n t (Ok o) =
    Ok (record { calls = o.calls; args = n ∷ o.args; types = t ∷ o.types; made = o.made })

abbrev pub with_constant : ℕ → ℕ → StreamType → Result Operands TypeError
    → Result Operands TypeError
with_constant bits n t (Err e) = Err e
with_constant bits n t (Ok o) =
    Ok (record {
      calls = C.Constant bits t ∷ o.calls;
      args = n ∷ o.args;
      types = t ∷ o.types;
      made =
          o.made;
    })

abbrev pub literal_before : Result ℕ TypeError → ℕ → StreamType → (ℕ → Result Operands TypeError)
    → Result Operands TypeError
literal_before (Err e) made t others = Err e
literal_before (Ok bits) made t others = with_constant bits made t (others (made + 1))

abbrev pub operands_of : RoundMode → StreamType → ℕ → List Value → Result Operands TypeError
operands_of mode t made [] = Ok (record { calls = []; args = []; types = []; made = made })
operands_of mode t made (V.Stream n u feed ∷ values) =
    with_node n u (operands_of mode t made values)
operands_of mode t made (V.Int n ∷ values) =
    literal_before (literal_bits mode (is_negative n) (unsigned_abs n) 0 t) made t
    (λ made. operands_of mode t made values)
operands_of mode t made (V.Literal negative digits tens ∷ values) =
    literal_before (literal_bits mode negative digits tens t) made t
    (λ made. operands_of mode t made values)
operands_of mode t made (_ ∷ values) = Err TypesDiffer

-- the operation is made of the operands
abbrev pub operation_of : ℕ → Op → RoundMode → ℕ → Operands → State → Result StreamType TypeError
    → Outcome
operation_of at op mode amount o state (Err e) = Fails (E.Typing at e)
operation_of at op mode amount o state (Ok t) =
    Does (o.calls ++ C.Operation op mode amount o.args t ∷ []) (V.Stream o.made t false)
    (record state { made = o.made + 1 })

abbrev pub operation_by : ℕ → Op → ℤ → List StreamType → State → Result Operands TypeError → Outcome
operation_by at op amount given state (Err e) = Fails (E.Typing at e)
operation_by at op amount given state (Ok o) =
    operation_of at op (mode_of state.modes) (unsigned_abs amount) o state
    (typing op (o.types ++ given) amount)

-- an operation on streams and on numbers, which become constants of a type; a cast has its type
-- given
abbrev pub operation : ℕ → Op → ℤ → StreamType → List StreamType → List Value → State → Outcome
operation at op amount t given values state =
    operation_by at op amount given state (operands_of (mode_of state.modes) t state.made values)

-- streams and numbers
abbrev pub is_operand : Value → Bool
is_operand (V.Stream n t feed) = true
is_operand (V.Int n) = true
is_operand (V.Literal negative digits tens) = true
is_operand _ = false

-- the type of the first stream
abbrev pub first_stream : List Value → Option StreamType
first_stream [] = None
first_stream (V.Stream n t feed ∷ values) = Some t
first_stream (_ ∷ values) = first_stream values

-- the selector is a stream, and the options are streams and numbers, among them a stream
abbrev pub mux_by : ℕ → Value → List Value → Option StreamType → State → Outcome
mux_by at (V.Stream n t feed) options (Some u) state =
    where_so (list_all is_operand options) (E.WrongKind at)
    (operation at O.Mux (pos 0) u [] (V.Stream n t feed ∷ options) state)
mux_by at _ options _ state = wrong at

abbrev pub mux : ℕ → List Value → State → Outcome
mux at [] state = wrong at
mux at (selector ∷ options) state = mux_by at selector options (first_stream options) state

-- a stream of one bit
abbrev pub is_bit : StreamType → Bool
is_bit T.Bool = true
is_bit (T.UInt n) = n == 1
is_bit _ = false

-- a condition that is a stream chooses between two values
abbrev pub choose : ℕ → List Value → State → Outcome
choose at (V.Stream n t feed ∷ a ∷ b ∷ []) state =
    where_so (list_all is_operand (a ∷ b ∷ []) && not (is_none (first_stream (a ∷ b ∷ []))))
    (E.WrongKind at)
    (where_so (is_bit t) (E.Typing at TypesDiffer) (mux at (V.Stream n t feed ∷ b ∷ a ∷ []) state))
choose at _ state = wrong at

abbrev pub cast_op : StreamType → StreamType → Op
cast_op from to = if nat_lt (frac_of to) (frac_of from) then O.Round else O.Cast

abbrev pub cast : ℕ → List Value → State → Outcome
cast at (V.Stream n t feed ∷ V.«Type» u ∷ []) state =
    operation at (cast_op t u) (pos 0) t (u ∷ []) (V.Stream n t feed ∷ []) state
cast at _ state = wrong at
