-- The types of operations and the words of literals, computed.
use Rattle.std.specs.Prelude.{
  ◌==◌,
  ◌&&◌,
  ℕ,
  ◌-◌,
  nat_le,
  List,
  length,
  Bool,
  true,
  false,
  Result,
  Ok,
  Err,
  if◌then◌else◌,
  not,
  ◌^◌,
  ℤ,
  pos,
  ◌*ℤ◌,
  int_le,
}
use Rattle.std.specs.List.{list_all}
use Rattle.std.specs.Ordering.{int_cmp, is_eq}
use Rattle.mx_bits.specs.declared.op.Op.TheVariants.{Mul, Mux, Cast, Round}
use Rattle.mx_bits.specs.declared.op.Op.{Op}
use Rattle.fix_arith.specs.declared.types.StreamType.TheVariants.{UInt, Int, Fix, Bool as OneBit}
use Rattle.fix_arith.specs.declared.types.TypeError.TheVariants.{
  TypesDiffer,
  NotForType,
  MulTooWide,
  LiteralRange,
  ShiftRange,
  MuxCount,
}
use Rattle.fix_arith.specs.Types.{frac_of, width_of}
use Rattle.fix_arith.specs.declared.types.RoundMode.{RoundMode}
use Rattle.fix_arith.specs.declared.types.TypeError.{TypeError}
use Rattle.fix_arith.specs.declared.types.StreamType.{StreamType}
use Rattle.fix_arith.specs.Typing.{
  first,
  second,
  takes,
  can_cast,
  is_selector,
  is_fix,
  is_shift,
  alike,
  type_of,
}
use Rattle.fix_arith.specs.Rounding.{rounded}
use Rattle.fix_arith.specs.Values.{signed_of, reduced, value_of}

abbrev pub same_bit : Bool → Bool → Bool
same_bit true b = b
same_bit false b = not b

abbrev pub same_type : StreamType → StreamType → Bool
same_type (UInt n) (UInt m) = n == m
same_type (Int n) (Int m) = n == m
same_type (Fix whole frac signed) (Fix whole' frac' signed') =
    whole == whole' && (frac == frac' && same_bit signed signed')
same_type OneBit OneBit = true
same_type _ _ = false

abbrev pub all_same : List StreamType → Bool
all_same types = list_all (λ t. same_type t (first types)) types

abbrev pub is_for : Op → List StreamType → Bool
is_for Mux types = is_selector (first types)
is_for Cast types = can_cast (first types) (second types)
is_for Round types = can_cast (first types) (second types)
is_for op types = list_all (λ t. takes op t) types

abbrev pub is_narrow : Op → List StreamType → Bool
is_narrow Mul types = if is_fix (first types) then nat_le (width_of (first types)) 64 else true
is_narrow op types = true

abbrev pub in_range : Op → ℤ → Bool
in_range op amount = if is_shift op then int_le (pos 0) amount && int_le amount (pos 127) else true

abbrev pub can_choose : Op → List StreamType → ℕ → Bool
can_choose Mux types options = nat_le 2 options
    && (nat_le options 64 && nat_le options (2 ^ width_of (first types)))
can_choose op types options = true

-- the type of the result, or the first fault
unfoldable pub typing : Op → List StreamType → ℤ → Result StreamType TypeError
typing op types amount =
    if not (all_same (alike op types)) then Err TypesDiffer else
    (if not (is_for op types) then Err (NotForType op) else
    (if not (is_narrow op types) then Err MulTooWide else
    (if not (in_range op amount) then Err (ShiftRange amount) else
    (if not (can_choose op types (length types - 1)) then Err (MuxCount (length types - 1))
    else Ok (type_of op types)))))

abbrev pub literal_value : RoundMode → Bool → ℕ → ℕ → StreamType → ℤ
literal_value mode negative digits tens t =
    rounded mode (signed_of negative digits *ℤ pos (2 ^ frac_of t)) (10 ^ tens)

-- the word of these bits is this number
abbrev pub is_number_of : ℕ → StreamType → ℤ → Bool
is_number_of bits t z = is_eq (int_cmp (value_of t bits) z)

-- the bits of the word of this type that stands for a number
unfoldable pub literal_bits : RoundMode → Bool → ℕ → ℕ → StreamType → Result ℕ TypeError
literal_bits mode negative digits tens t =
    if not (is_fix t) && not (tens == 0) then Err (NotForType Cast) else
    (if is_number_of (reduced (width_of t) (literal_value mode negative digits tens t)) t
    (literal_value mode negative digits tens t)
    then Ok (reduced (width_of t) (literal_value mode negative digits tens t))
    else Err LiteralRange)
