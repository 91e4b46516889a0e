-- Whole numbers with a sign.
use Rattle.std.specs.Prelude.{ℤ, pos, negsuc}
use Rattle.fix_arith.specs.declared.integer.Integer.{Integer}
use Rattle.fix_arith.specs.declared.integer.Integer.TheVariants.{Natural, Negative}

abbrev pub exact : Integer → ℤ
exact (Natural n) = pos n
exact (Negative n) = negsuc n
