-- Numbers written with a decimal point, and the words that they become.
use Rattle.std.specs.Prelude.{◌≡◌, ◌^◌, IsTrue, Result, Ok, Err, ℤ, pos, ◌*ℤ◌}
use Rattle.mx_bits.specs.declared.op.Op.TheVariants.{Cast}
use Rattle.mx_bits.specs.declared.word.Word.{Word}
use Rattle.fix_arith.specs.declared.number.Number.{Number}
use Rattle.fix_arith.specs.declared.types.RoundMode.{RoundMode}
use Rattle.fix_arith.specs.declared.types.StreamType.{StreamType}
use Rattle.fix_arith.specs.declared.types.TypeError.{TypeError}
use Rattle.fix_arith.specs.declared.types.TypeError.TheVariants.{TypesDiffer, NotForType, MulTooWide, LiteralRange, ShiftRange, MuxCount}
use Rattle.fix_arith.specs.Types.{width_of, frac_of}
use Rattle.fix_arith.specs.Typing.{is_fix}
use Rattle.fix_arith.specs.Values.{value_of, signed_of, IsValue}
use Rattle.fix_arith.specs.Rounding.{rounded}

-- the number times 2 to the bits behind the type's point, rounded
abbrev pub literal_of : Number → RoundMode → StreamType → ℤ
literal_of n mode t = rounded mode (signed_of n.negative n.digits *ℤ pos (2 ^ frac_of t)) (10 ^ n.tens)

-- digits behind the decimal point are for Fix
abbrev pub IsWritable : Number → StreamType → Type 0
IsWritable n t = ¬ IsTrue (is_fix t) → n.tens ≡ 0

-- each answer, and exactly when it comes
abbrev pub IsLiteral : Number → RoundMode → StreamType → Result Word TypeError → Type 0
IsLiteral n mode t (Ok word) =
    IsWritable n t × (word.width ≡ width_of t) × (value_of t word.bits ≡ literal_of n mode t)
IsLiteral n mode t (Err (NotForType op)) = (op ≡ Cast) × ¬ IsWritable n t
IsLiteral n mode t (Err LiteralRange) = IsWritable n t × ¬ IsValue t (literal_of n mode t)
IsLiteral n mode t (Err TypesDiffer) = ⊥
IsLiteral n mode t (Err MulTooWide) = ⊥
IsLiteral n mode t (Err (ShiftRange k)) = ⊥
IsLiteral n mode t (Err (MuxCount k)) = ⊥
