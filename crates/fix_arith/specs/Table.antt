-- The operations on words: exact on their numbers, then rounded, then reduced.
use Rattle.std.specs.Prelude.{◌≡◌, ℕ, ◌-◌, ◌^◌, Bool, false, ◌==◌, if◌then◌else◌, IsTrue, Option, Some}
use Rattle.std.specs.Prelude.{None, List, length, map, drop, slice_get, slice_index_or, bit_and}
use Rattle.std.specs.Prelude.{bit_or, bit_xor, ℤ, pos, ◌+ℤ◌, ◌-ℤ◌, ◌*ℤ◌, int_div}
use Rattle.std.specs.Ordering.{int_cmp, is_eq, is_ne, is_lt, is_le, is_gt, is_ge}
use Rattle.std.specs.declared.cmp.Ordering.{Ordering}
use Rattle.mx_bits.specs.declared.op.Op.{Op}
use Rattle.mx_bits.specs.declared.op.Op.TheVariants.{Add, Sub, Mul, Div, Neg, And, Or, Xor, Not, Shl, Shr, Eq, Ne, Lt, Le, Gt, Ge, Mux, Cast, Round}
use Rattle.mx_bits.specs.declared.word.Word.{Word}
use Rattle.fix_arith.specs.declared.types.StreamType.{StreamType}
use Rattle.fix_arith.specs.declared.types.StreamType.TheVariants.{UInt, Int, Fix, Bool as OneBit}
use Rattle.fix_arith.specs.declared.types.RoundMode.{RoundMode}
use Rattle.fix_arith.specs.Types.{width_of, frac_of}
use Rattle.fix_arith.specs.Typing.{first, can_cast, HasOperands, HasType}
use Rattle.fix_arith.specs.Values.{value_of, reduced}
use Rattle.fix_arith.specs.Rounding.{rounded, floor_of}

-- a word cast to another type: its number times 2 to the new bits behind the point over 2 to the
-- old ones, rounded
abbrev pub cast_of : RoundMode → StreamType → StreamType → ℕ → ℕ
cast_of mode from to bits =
    reduced (width_of to)
    (rounded mode (value_of from bits *ℤ pos (2 ^ frac_of to)) (2 ^ frac_of from))

-- the product of two numbers of a type
abbrev pub product_of : RoundMode → StreamType → ℤ → ℤ → ℤ
product_of mode (UInt bits) x y = x *ℤ y
product_of mode (Int bits) x y = x *ℤ y
product_of mode (Fix whole frac signed) x y = rounded mode (x *ℤ y) (2 ^ frac)
product_of mode OneBit x y = x *ℤ y

-- a word of one bit
abbrev pub bit_of : Bool → ℕ
bit_of test = if test then 1 else 0

-- whether a comparison holds of operands that compare so
abbrev pub test_of : Op → Ordering → Bool
test_of Eq order = is_eq order
test_of Ne order = is_ne order
test_of Lt order = is_lt order
test_of Le order = is_le order
test_of Gt order = is_gt order
test_of Ge order = is_ge order
test_of _ order = false

-- A row on operands of type t, of which the first has the bits a and the second, where there is
-- one, the bits b; k is the number of bits of a shift.
abbrev pub row_of : Op → RoundMode → StreamType → ℕ → ℕ → ℕ → Option ℕ
row_of Add mode t k a b = Some (reduced (width_of t) (value_of t a +ℤ value_of t b))
row_of Sub mode t k a b = Some (reduced (width_of t) (value_of t a -ℤ value_of t b))
row_of Mul mode t k a b = Some (reduced (width_of t) (product_of mode t (value_of t a) (value_of t b)))
row_of Div mode t k a b =
    if b == 0 then None else Some (reduced (width_of t) (int_div (value_of t a) (value_of t b)))
row_of Neg mode t k a b = Some (reduced (width_of t) (pos 0 -ℤ value_of t a))
row_of And mode t k a b = Some (bit_and a b)
row_of Or mode t k a b = Some (bit_or a b)
row_of Xor mode t k a b = Some (bit_xor a b)
row_of Not mode t k a b = Some (2 ^ width_of t - 1 - a)
row_of Shl mode t k a b = Some (reduced (width_of t) (value_of t a *ℤ pos (2 ^ k)))
row_of Shr mode t k a b = Some (reduced (width_of t) (floor_of (value_of t a) (2 ^ k)))
row_of Eq mode t k a b = Some (bit_of (is_eq (int_cmp (value_of t a) (value_of t b))))
row_of Ne mode t k a b = Some (bit_of (is_ne (int_cmp (value_of t a) (value_of t b))))
row_of Lt mode t k a b = Some (bit_of (is_lt (int_cmp (value_of t a) (value_of t b))))
row_of Le mode t k a b = Some (bit_of (is_le (int_cmp (value_of t a) (value_of t b))))
row_of Gt mode t k a b = Some (bit_of (is_gt (int_cmp (value_of t a) (value_of t b))))
row_of Ge mode t k a b = Some (bit_of (is_ge (int_cmp (value_of t a) (value_of t b))))
row_of _ mode t k a b = None

abbrev pub bits_of : List Word → List ℕ
bits_of words = map (λ w. w.bits) words

abbrev pub widths_of : List Word → List ℕ
widths_of words = map (λ w. w.width) words

-- the bits of an operand
abbrev pub operand : List ℕ → ℕ → ℕ
operand words place = slice_index_or words place 0

-- The bits of an operation's result, none where it is undefined. A multiplexer's selector numbers
-- its options from 0, and a cast gives the type `out`.
abbrev pub applied : Op → RoundMode → List StreamType → List ℕ → ℕ → StreamType → Option ℕ
applied Mux mode types words k out = slice_get (drop 1 words) (operand words 0)
applied Cast mode types words k out = Some (cast_of mode (first types) out (operand words 0))
applied Round mode types words k out = Some (cast_of mode (first types) out (operand words 0))
applied op mode types words k out = row_of op mode (first types) k (operand words 0) (operand words 1)

-- the operation on operands of these types gives words of the type `out`
abbrev pub GivesType : Op → List StreamType → ℕ → StreamType → Type 0
GivesType Cast types k out = (length types ≡ 1) × IsTrue (can_cast (first types) out)
GivesType Round types k out = (length types ≡ 1) × IsTrue (can_cast (first types) out)
GivesType op types k out = HasOperands op types × HasType op types (pos k) out
