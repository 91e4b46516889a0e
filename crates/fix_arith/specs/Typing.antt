-- The types that an operation takes, the type that it gives, and the faults that can stand.
use Rattle.std.specs.Prelude.{◌≡◌, ℕ, ◌-◌, ◌≤◌, ◌^◌, Bool, true, false, ◌==◌, not, List, length, drop, slice_index_or, [], All, IsTrue, ℤ, pos, ◌≤ℤ◌}
use Rattle.mx_bits.specs.declared.op.Op.{Op}
use Rattle.mx_bits.specs.declared.op.Op.TheVariants.{Add, Sub, Mul, Div, Neg, And, Or, Xor, Not, Shl, Shr, Eq, Ne, Lt, Le, Gt, Ge, Mux, Cast, Round}
use Rattle.fix_arith.specs.declared.types.StreamType.{StreamType}
use Rattle.fix_arith.specs.declared.types.StreamType.TheVariants.{UInt, Int, Fix, Bool as OneBit}
use Rattle.fix_arith.specs.declared.types.TypeError.{TypeError}
use Rattle.fix_arith.specs.declared.types.TypeError.TheVariants.{TypesDiffer, NotForType, MulTooWide, LiteralRange, ShiftRange, MuxCount}
use Rattle.fix_arith.specs.Types.{width_of, is_signed}

abbrev pub first : List StreamType → StreamType
first types = slice_index_or types 0 OneBit

abbrev pub second : List StreamType → StreamType
second types = slice_index_or types 1 OneBit

-- one type per operand: a multiplexer's selector and any number of options, a cast's operand and
-- the given type
abbrev pub HasOperands : Op → List StreamType → Type 0
HasOperands Neg types = length types ≡ 1
HasOperands Not types = length types ≡ 1
HasOperands Shl types = length types ≡ 1
HasOperands Shr types = length types ≡ 1
HasOperands Mux types = 1 ≤ length types
HasOperands _ types = length types ≡ 2

-- UInt, Int
abbrev pub is_whole : StreamType → Bool
is_whole (UInt bits) = true
is_whole (Int bits) = true
is_whole (Fix whole frac signed) = false
is_whole OneBit = false

-- Fix
abbrev pub is_fix : StreamType → Bool
is_fix (UInt bits) = false
is_fix (Int bits) = false
is_fix (Fix whole frac signed) = true
is_fix OneBit = false

-- UInt, Bool
abbrev pub is_selector : StreamType → Bool
is_selector (UInt bits) = true
is_selector (Int bits) = false
is_selector (Fix whole frac signed) = false
is_selector OneBit = true

-- UInt, Int, Fix
abbrev pub is_number : StreamType → Bool
is_number (UInt bits) = true
is_number (Int bits) = true
is_number (Fix whole frac signed) = true
is_number OneBit = false

-- the types of an operand
abbrev pub takes : Op → StreamType → Bool
takes Add t = is_number t
takes Sub t = is_number t
takes Mul t = is_number t
takes Div t = is_whole t
takes Neg t = is_signed t
takes And t = not (is_fix t)
takes Or t = not (is_fix t)
takes Xor t = not (is_fix t)
takes Not t = not (is_fix t)
takes Shl t = is_whole t
takes Shr t = is_whole t
takes Lt t = is_number t
takes Le t = is_number t
takes Gt t = is_number t
takes Ge t = is_number t
takes _ t = true

-- from any type to a number, and from one bit to Bool
abbrev pub can_cast : StreamType → StreamType → Bool
can_cast from OneBit = width_of from == 1
can_cast from _ = true

-- the operation is defined on these types
abbrev pub IsFor : Op → List StreamType → Type 0
IsFor Mux types = IsTrue (is_selector (first types))
IsFor Cast types = IsTrue (can_cast (first types) (second types))
IsFor Round types = IsTrue (can_cast (first types) (second types))
IsFor op types = All (λ t. IsTrue (takes op t)) types

-- the operands that must have one type
abbrev pub alike : Op → List StreamType → List StreamType
alike Mux types = drop 1 types
alike Cast types = []
alike Round types = []
alike _ types = types

abbrev pub AllSame : List StreamType → Type 0
AllSame types = All (λ t. t ≡ first types) types

-- the type of the result
abbrev pub type_of : Op → List StreamType → StreamType
type_of Eq types = OneBit
type_of Ne types = OneBit
type_of Lt types = OneBit
type_of Le types = OneBit
type_of Gt types = OneBit
type_of Ge types = OneBit
type_of Mux types = second types
type_of Cast types = second types
type_of Round types = second types
type_of _ types = first types

-- the operation shifts by a number
abbrev pub is_shift : Op → Bool
is_shift Shl = true
is_shift Shr = true
is_shift _ = false

-- Fix numerators multiply within 128 bits
abbrev pub IsNarrow : Op → List StreamType → Type 0
IsNarrow op types = op ≡ Mul → IsTrue (is_fix (first types)) → width_of (first types) ≤ 64

abbrev pub InShiftRange : Op → ℤ → Type 0
InShiftRange op amount = IsTrue (is_shift op) → (pos 0 ≤ℤ amount) × (amount ≤ℤ pos 127)

-- this number of options, which the selector can number
abbrev pub CanChoose : Op → List StreamType → ℕ → Type 0
CanChoose op types options =
    op ≡ Mux → (2 ≤ options) × (options ≤ 64) × (options ≤ 2 ^ width_of (first types))

-- the rule that a fault breaks isn't kept
abbrev pub Breaks : Op → List StreamType → ℤ → TypeError → Type 0
Breaks op types amount TypesDiffer = ¬ AllSame (alike op types)
Breaks op types amount (NotForType named) = (named ≡ op) × ¬ IsFor op types
Breaks op types amount MulTooWide = ¬ IsNarrow op types
Breaks op types amount LiteralRange = ⊥
Breaks op types amount (ShiftRange k) = (k ≡ amount) × ¬ InShiftRange op amount
Breaks op types amount (MuxCount n) = (n ≡ length types - 1) × ¬ CanChoose op types n

-- the faults by number
abbrev pub number_of : TypeError → ℕ
number_of TypesDiffer = 1
number_of (NotForType op) = 2
number_of MulTooWide = 3
number_of LiteralRange = 4
number_of (ShiftRange k) = 5
number_of (MuxCount n) = 6

-- this fault stands, and none of a lesser number
pub record IsFirstFault (op : Op) (types : List StreamType) (amount : ℤ) (e : TypeError) : Type 0 where
  pub stands : Breaks op types amount e
  pub least : (other : TypeError) → Breaks op types amount other → number_of e ≤ number_of other

-- every rule is kept, and the result has this type
pub record HasType (op : Op) (types : List StreamType) (amount : ℤ) (t : StreamType) : Type 0 where
  pub one_type : AllSame (alike op types)
  pub defined : IsFor op types
  pub narrow : IsNarrow op types
  pub in_range : InShiftRange op amount
  pub options : CanChoose op types (length types - 1)
  pub result : t ≡ type_of op types
