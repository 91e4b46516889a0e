-- The calls of a kernel that adds up three neighbours of a stream.
use Rattle.std.specs.Prelude.{List, [], ◌∷◌, None, negsuc, pos}
use Rattle.fix_arith.specs.declared.types.StreamType.TheVariants.{UInt}
use Rattle.fix_arith.specs.declared.types.RoundMode.TheVariants.{ToNearEven}
use Rattle.mx_bits.specs.declared.op.Op.TheVariants.{Add}
use Rattle.kernel_calls.specs.declared.call.Call.{Call}
use Rattle.kernel_calls.specs.declared.call.Call.TheVariants as C

abbrev pub sum3 : List Call
sum3 =
    C.Input (120 ∷ []) (UInt 32) None
    ∷ C.Offset 0 (negsuc 0) (UInt 32)
    ∷ C.Operation Add ToNearEven 0 (1 ∷ 0 ∷ []) (UInt 32)
    ∷ C.Offset 0 (pos 1) (UInt 32)
    ∷ C.Operation Add ToNearEven 0 (2 ∷ 3 ∷ []) (UInt 32)
    ∷ C.Output (121 ∷ []) 4 None (UInt 32)
    ∷ []
