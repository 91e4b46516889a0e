-- The definitions at values that were worked out by hand.
use Rattle.std.proofs.Common.{◌≡◌, ◌-◌, ◌^◌, refl, true, false, pos, negsuc, Some, None, [], ◌∷◌}
use Rattle.mx_bits.specs.declared.op.Op.TheVariants.{Mul, Div, Neg, Shr, Lt, Mux}
use Rattle.fix_arith.specs.declared.types.StreamType.{StreamType}
use Rattle.fix_arith.specs.declared.types.StreamType.TheVariants.{UInt, Int, Fix, Bool as OneBit}
use Rattle.fix_arith.specs.declared.types.RoundMode.TheVariants.{Truncate, ToNear, ToNearEven}
use Rattle.fix_arith.specs.Values.{value_of, reduced}
use Rattle.fix_arith.specs.Rounding.{rounded}
use Rattle.fix_arith.specs.Table.{applied, cast_of}

-- four whole bits and four behind the point, and none behind it
sixteenths : StreamType
sixteenths = Fix 4 4 true

wholes : StreamType
wholes = Fix 4 0 true

-- 5/2, 7/2 and -5/2
two_and_a_half : value_of sixteenths 0x28 ≡ pos 40
unfolding value_of sixteenths
two_and_a_half = refl

less_than_zero : value_of sixteenths 0xd8 ≡ negsuc 39
unfolding value_of sixteenths
less_than_zero = refl

-- rounded down they are 2, 3 and -3
down_1 : cast_of Truncate sixteenths wholes 0x28 ≡ 0x2
unfolding value_of reduced rounded sixteenths wholes
down_1 = refl

down_2 : cast_of Truncate sixteenths wholes 0x38 ≡ 0x3
unfolding value_of reduced rounded sixteenths wholes
down_2 = refl

down_3 : cast_of Truncate sixteenths wholes 0xd8 ≡ 0xd
unfolding value_of reduced rounded sixteenths wholes
down_3 = refl

-- halves up they are 3, 4 and -2
up_1 : cast_of ToNear sixteenths wholes 0x28 ≡ 0x3
unfolding value_of reduced rounded sixteenths wholes
up_1 = refl

up_2 : cast_of ToNear sixteenths wholes 0x38 ≡ 0x4
unfolding value_of reduced rounded sixteenths wholes
up_2 = refl

up_3 : cast_of ToNear sixteenths wholes 0xd8 ≡ 0xe
unfolding value_of reduced rounded sixteenths wholes
up_3 = refl

-- halves to the even number they are 2, 4 and -2
even_1 : cast_of ToNearEven sixteenths wholes 0x28 ≡ 0x2
unfolding value_of reduced rounded sixteenths wholes
even_1 = refl

even_2 : cast_of ToNearEven sixteenths wholes 0x38 ≡ 0x4
unfolding value_of reduced rounded sixteenths wholes
even_2 = refl

even_3 : cast_of ToNearEven sixteenths wholes 0xd8 ≡ 0xe
unfolding value_of reduced rounded sixteenths wholes
even_3 = refl

-- -7 over 2 is -3, -128 over -1 is -128 again, and nothing is over 0
quotient_1 : applied Div Truncate (Int 8 ∷ Int 8 ∷ []) (0xf9 ∷ 0x02 ∷ []) 0 (Int 8) ≡ Some 0xfd
unfolding value_of reduced
quotient_1 = refl

quotient_2 : applied Div Truncate (Int 8 ∷ Int 8 ∷ []) (0x80 ∷ 0xff ∷ []) 0 (Int 8) ≡ Some 0x80
unfolding value_of reduced
quotient_2 = refl

quotient_3 : applied Div Truncate (Int 8 ∷ Int 8 ∷ []) (0x05 ∷ 0x00 ∷ []) 0 (Int 8) ≡ None
quotient_3 = refl

-- the square of 2^128 - 1
square : applied Mul Truncate (UInt 128 ∷ UInt 128 ∷ []) ((2 ^ 128 - 1) ∷ (2 ^ 128 - 1) ∷ []) 0 (UInt 128) ≡ Some 1
unfolding value_of reduced
square = refl

-- 3/4 times 1/2 in quarters is 3/8, which is rounded to 1/2, and to 1/4 where it is rounded down
product_even : applied Mul ToNearEven (Fix 2 2 false ∷ Fix 2 2 false ∷ []) (3 ∷ 2 ∷ []) 0 (Fix 2 2 false) ≡ Some 2
unfolding value_of reduced rounded
product_even = refl

product_down : applied Mul Truncate (Fix 2 2 false ∷ Fix 2 2 false ∷ []) (3 ∷ 2 ∷ []) 0 (Fix 2 2 false) ≡ Some 1
unfolding value_of reduced rounded
product_down = refl

-- -128 less than 127, its opposite is itself, and a quarter of -127 is -32
less : applied Lt Truncate (Int 8 ∷ Int 8 ∷ []) (0x80 ∷ 0x7f ∷ []) 0 OneBit ≡ Some 1
unfolding value_of
less = refl

opposite : applied Neg Truncate (Int 8 ∷ []) (0x80 ∷ []) 0 (Int 8) ≡ Some 0x80
unfolding value_of reduced
opposite = refl

quarter : applied Shr Truncate (Int 8 ∷ []) (0x81 ∷ []) 2 (Int 8) ≡ Some 0xe0
unfolding value_of reduced
quarter = refl

-- the option that the selector numbers, and none past the last
chosen : applied Mux Truncate (UInt 2 ∷ Int 8 ∷ Int 8 ∷ Int 8 ∷ []) (2 ∷ 5 ∷ 6 ∷ 7 ∷ []) 0 (Int 8) ≡ Some 7
chosen = refl

past : applied Mux Truncate (UInt 2 ∷ Int 8 ∷ Int 8 ∷ Int 8 ∷ []) (3 ∷ 5 ∷ 6 ∷ 7 ∷ []) 0 (Int 8) ≡ None
past = refl
