-- A sign between two values is a shift by a number or another operation.
use Rattle.std.proofs.Common.{◌≡◌, ◌≤◌, ◌<◌, ℕ, List, [], ◌∷◌, arith, length, get_or, refl, true, Some, None}
use Rattle.std.specs.Prelude.{pos}
use Rattle.fix_arith.specs.declared.types.StreamType.{StreamType}
use Rattle.mx_bits.specs.declared.op.Op.{Op}
use Rattle.mx_bits.specs.declared.op.Op.TheVariants as O
use Rattle.kernel_meaning.specs.declared.value.Value.{Value}
use Rattle.kernel_meaning.specs.declared.value.Value.TheVariants as V
use Rattle.kernel_meaning.specs.declared.state.State.{State}
use Rattle.kernel_meaning.specs.declared.row.Sign.{Sign}
use Rattle.kernel_meaning.specs.declared.row.Sign.TheVariants as S
use Rattle.kernel_meaning.specs.SignRows.{op_of, stream_between}
use Rattle.kernel_meaning.specs.StreamRows as Rows
use Rattle.kernel_rows.specs.Operation.{stream_pair, operation_pair, shifted_pair, shift_of}

left : (at : ℕ) (a b : Value) (s : State)
    → stream_between S.ShiftLeft at a b s ≡ shifted_pair O.Shl at (a ∷ b ∷ []) s
left at (V.Stream n t feed) (V.Int k) s = refl
left at (V.Stream n t feed) (V.Stream m u feed') s = refl
left at (V.Stream n t feed) (V.Literal negative digits tens) s = refl
left at (V.Stream n t feed) _ s = refl
left at (V.Int k) (V.Stream n t feed) s = refl
left at (V.Int k) (V.Int j) s = refl
left at (V.Int k) (V.Literal negative digits tens) s = refl
left at (V.Int k) _ s = refl
left at (V.Literal negative digits tens) (V.Stream n t feed) s = refl
left at (V.Literal negative digits tens) (V.Int j) s = refl
left at (V.Literal negative digits tens) (V.Literal negative' digits' tens') s = refl
left at (V.Literal negative digits tens) _ s = refl
left at _ b s = refl

right : (at : ℕ) (a b : Value) (s : State)
    → stream_between S.ShiftRight at a b s ≡ shifted_pair O.Shr at (a ∷ b ∷ []) s
right at (V.Stream n t feed) (V.Int k) s = refl
right at (V.Stream n t feed) (V.Stream m u feed') s = refl
right at (V.Stream n t feed) (V.Literal negative digits tens) s = refl
right at (V.Stream n t feed) _ s = refl
right at (V.Int k) (V.Stream n t feed) s = refl
right at (V.Int k) (V.Int j) s = refl
right at (V.Int k) (V.Literal negative digits tens) s = refl
right at (V.Int k) _ s = refl
right at (V.Literal negative digits tens) (V.Stream n t feed) s = refl
right at (V.Literal negative digits tens) (V.Int j) s = refl
right at (V.Literal negative digits tens) (V.Literal negative' digits' tens') s = refl
right at (V.Literal negative digits tens) _ s = refl
right at _ b s = refl

left_pair : (at : ℕ) (values : List Value) (s : State)
    → stream_pair S.ShiftLeft at values s ≡ shifted_pair O.Shl at values s
left_pair at [] s = refl
left_pair at (V.Stream n t feed ∷ []) s = refl
left_pair at (_ ∷ []) s = refl
left_pair at (a ∷ b ∷ []) s = left at a b s
left_pair at (V.Stream n t feed ∷ V.Int k ∷ c ∷ values) s = refl
left_pair at (V.Stream n t feed ∷ _ ∷ c ∷ values) s = refl
left_pair at (_ ∷ b ∷ c ∷ values) s = refl

right_pair : (at : ℕ) (values : List Value) (s : State)
    → stream_pair S.ShiftRight at values s ≡ shifted_pair O.Shr at values s
right_pair at [] s = refl
right_pair at (V.Stream n t feed ∷ []) s = refl
right_pair at (_ ∷ []) s = refl
right_pair at (a ∷ b ∷ []) s = right at a b s
right_pair at (V.Stream n t feed ∷ V.Int k ∷ c ∷ values) s = refl
right_pair at (V.Stream n t feed ∷ _ ∷ c ∷ values) s = refl
right_pair at (_ ∷ b ∷ c ∷ values) s = refl

pub pair_of_shift : (sign : Sign) (op : Op) (at : ℕ) (values : List Value) (s : State)
    → shift_of sign ≡ Some op → stream_pair sign at values s ≡ shifted_pair op at values s
pair_of_shift S.ShiftLeft O.Shl at values s e = left_pair at values s
pair_of_shift S.ShiftRight O.Shr at values s e = right_pair at values s
pair_of_shift _ _ at values s e = absurd (cc)

other_pair : (sign : Sign) → shift_of sign ≡ None → (at : ℕ) (a b : Value) (s : State)
    → stream_pair sign at (a ∷ b ∷ []) s ≡ operation_pair sign at (a ∷ b ∷ []) s
other_pair S.ShiftLeft e at a b s = absurd (cc)
other_pair S.ShiftRight e at a b s = absurd (cc)
other_pair _ e at a b s = refl

pub pair_of_operation : (sign : Sign) (at : ℕ) (values : List Value) (s : State)
    → shift_of sign ≡ None → stream_pair sign at values s ≡ operation_pair sign at values s
pair_of_operation sign at [] s e = refl
pair_of_operation sign at (a ∷ []) s e = refl
pair_of_operation sign at (a ∷ b ∷ []) s e = other_pair sign e at a b s
pair_of_operation sign at (a ∷ b ∷ c ∷ values) s e = refl

-- the operation between two operands
pub operation_between : (sign : Sign) (at : ℕ) (a b : Value) (op : Op) (t : StreamType) (s : State)
    → Rows.is_operand a ≡ true → Rows.is_operand b ≡ true → op_of sign ≡ Some op
    → Rows.first_stream (a ∷ b ∷ []) ≡ Some t
    → operation_pair sign at (a ∷ b ∷ []) s
    ≡ Rows.operation at op (pos 0) t [] (a ∷ b ∷ []) s
operation_between sign at a b op t s p q o f = rw (p, q, o, f) refl

-- a list of two items
pub two_items : (xs : List Value) (x y : Value) → 2 ≤ length xs → length xs < 3
    → x ≡ get_or xs 0 x → y ≡ get_or xs 1 y → xs ≡ x ∷ y ∷ []
two_items [] x y l m e f = absurd (omega (arith, l))
two_items (a ∷ []) x y l m e f = absurd (omega (arith, l))
two_items (a ∷ b ∷ []) x y l m e f = let g : x ≡ a = e in let h : y ≡ b = f in cc
two_items (a ∷ b ∷ c ∷ xs) x y l m e f = absurd (omega (arith, m))
