-- How operators are written (IEEE 1364-2005, 5.1.1).
use Rattle.std.specs.Prelude.{ℕ, List, codes}
use Rattle.rtl_ir.specs.declared.design.Sign.{Sign}
use Rattle.rtl_ir.specs.declared.design.Sign.TheVariants.{Add, Sub, Mul, Div, And, Or, Xor, Eq, Lt}

abbrev pub sign_bytes : Sign → List ℕ
sign_bytes Add = codes "+"
sign_bytes Sub = codes "-"
sign_bytes Mul = codes "*"
sign_bytes Div = codes "/"
sign_bytes And = codes "&"
sign_bytes Or = codes "|"
sign_bytes Xor = codes "^"
sign_bytes Eq = codes "=="
sign_bytes Lt = codes "<"
