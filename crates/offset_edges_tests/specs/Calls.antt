-- The calls of worked kernels.
use Rattle.std.specs.Prelude.{List, [], ◌∷◌, None}
use Rattle.fix_arith.specs.declared.types.StreamType.TheVariants.{UInt}
use Rattle.fix_arith.specs.declared.types.RoundMode.TheVariants.{ToNearEven}
use Rattle.mx_bits.specs.declared.op.Op.TheVariants.{Add}
use Rattle.kernel_calls.specs.declared.call.Call.{Call}
use Rattle.kernel_calls.specs.declared.call.Call.TheVariants as C

abbrev pub double : List Call
double =
    C.Input (120 ∷ []) (UInt 8) None
    ∷ C.Operation Add ToNearEven 0 (0 ∷ 0 ∷ []) (UInt 8)
    ∷ C.Output (121 ∷ []) 1 None (UInt 8)
    ∷ []

abbrev pub self_fed : List Call
self_fed =
    C.Feed (UInt 8)
    ∷ C.Connect 0 0
    ∷ C.Output (121 ∷ []) 0 None (UInt 8)
    ∷ []
