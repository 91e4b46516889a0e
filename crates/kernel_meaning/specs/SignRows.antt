-- Operators between two values, and before one.
use Rattle.std.specs.Prelude.{◌&&◌, ℕ, List, [], ◌∷◌, true, false, Option, Some, None, not, pos}
use Rattle.std.specs.Int.{int_wrapping_neg, int_bit_not, w32}
use Rattle.std.specs.Fmt.{signed_decimal}
use Rattle.mx_bits.specs.declared.op.Op.{Op}
use Rattle.mx_bits.specs.declared.op.Op.TheVariants as O
use Rattle.fix_arith.specs.declared.types.StreamType.{StreamType}
use Rattle.kernel_meaning.specs.declared.row.Sign.{Sign}
use Rattle.kernel_meaning.specs.declared.value.Value.{Value}
use Rattle.kernel_meaning.specs.declared.state.State.{State}
use Rattle.kernel_meaning.specs.declared.row.Sign.TheVariants as S
use Rattle.kernel_meaning.specs.declared.error.EvalError.TheVariants as E
use Rattle.kernel_meaning.specs.declared.value.Value.TheVariants as V
use Rattle.kernel_meaning.specs.HostRows.{whole_between, flag_between, texts_between}
use Rattle.kernel_meaning.specs.Answer.{Outcome}
use Rattle.kernel_meaning.specs.Outcomes.{gives, wrong, where_so}
use Rattle.kernel_meaning.specs.StreamRows.{operation, is_operand, first_stream}

abbrev pub op_of : Sign → Option Op
op_of S.Add = Some O.Add
op_of S.Subtract = Some O.Sub
op_of S.Multiply = Some O.Mul
op_of S.Divide = Some O.Div
op_of S.And = Some O.And
op_of S.Or = Some O.Or
op_of S.Xor = Some O.Xor
op_of S.StreamEqual = Some O.Eq
op_of S.StreamNotEqual = Some O.Ne
op_of S.Less = Some O.Lt
op_of S.LessEqual = Some O.Le
op_of S.Greater = Some O.Gt
op_of S.GreaterEqual = Some O.Ge
op_of _ = None

abbrev pub operation_with : ℕ → Option Op → Option StreamType → List Value → State → Outcome
operation_with at (Some op) (Some t) values state = operation at op (pos 0) t [] values state
operation_with at _ _ values state = wrong at

-- a sign between values of which one is a stream
abbrev pub stream_between : Sign → ℕ → Value → Value → State → Outcome
stream_between S.ShiftLeft at (V.Stream n t feed) (V.Int k) state =
    operation at O.Shl k t [] (V.Stream n t feed ∷ []) state
stream_between S.ShiftRight at (V.Stream n t feed) (V.Int k) state =
    operation at O.Shr k t [] (V.Stream n t feed ∷ []) state
stream_between sign at a b state =
    where_so (is_operand a && is_operand b) (E.WrongKind at)
    (operation_with at (op_of sign) (first_stream (a ∷ b ∷ [])) (a ∷ b ∷ []) state)

-- a sign between values
abbrev pub between : Sign → ℕ → Value → Value → State → Outcome
between sign at (V.Stream n t feed) b state = stream_between sign at (V.Stream n t feed) b state
between sign at a (V.Stream n t feed) state = stream_between sign at a (V.Stream n t feed) state
between sign at (V.Int x) (V.Int y) state = whole_between sign at x y state
between sign at (V.Flag a) (V.Flag b) state = flag_between sign at a b state
between sign at (V.Str a) (V.Str b) state = texts_between sign at a b state
between sign at (V.Str a) (V.Int y) state = texts_between sign at a (signed_decimal y) state
between sign at (V.Int x) (V.Str b) state = texts_between sign at (signed_decimal x) b state
between sign at _ _ state = wrong at

abbrev pub prefixed : ℕ → Op → List Value → State → Outcome
prefixed at op (V.Stream n t feed ∷ []) state =
    operation at op (pos 0) t [] (V.Stream n t feed ∷ []) state
prefixed at op _ state = wrong at

abbrev pub minus : ℕ → List Value → State → Outcome
minus at (V.Int n ∷ []) state = gives (V.Int (int_wrapping_neg w32 n)) state
minus at (V.Literal false digits tens ∷ []) state = gives (V.Literal true digits tens) state
minus at values state = prefixed at O.Neg values state

abbrev pub complemented : ℕ → List Value → State → Outcome
complemented at (V.Int n ∷ []) state = gives (V.Int (int_bit_not w32 n)) state
complemented at values state = prefixed at O.Not values state

abbrev pub negated : ℕ → List Value → State → Outcome
negated at (V.Flag b ∷ []) state = gives (V.Flag (not b)) state
negated at _ state = wrong at

abbrev pub between_two : Sign → ℕ → List Value → State → Outcome
between_two sign at (a ∷ b ∷ []) state = between sign at a b state
between_two sign at _ state = wrong at
