-- The calls of the worked kernels are lawful.
use Rattle.std.proofs.Common.{rules, [], ◌∷◌, refl, arith, inl, inr}
use Rattle.std.specs.Prelude.{None, negsuc, pos}
use Rattle.fix_arith.specs.declared.types.StreamType.TheVariants.{UInt}
use Rattle.fix_arith.specs.declared.types.RoundMode.TheVariants.{ToNearEven}
use Rattle.fix_arith.specs.Types.{HasWidth}
use Rattle.fix_arith.specs.Table.{GivesType}
use Rattle.mx_bits.specs.declared.op.Op.TheVariants.{Add}
use Rattle.kernel_calls.specs.declared.call.Call.{Call}
use Rattle.kernel_calls.specs.declared.call.Call.TheVariants as C
use Rattle.kernel_calls.specs.Laws.{AreLawful}
use Rattle.stream_graph_tests.specs.Sum3.{sum3}
use Rattle.offset_edges_tests.specs.Calls.{double, self_fed}

byte : HasWidth (UInt 8)
byte = (omega arith, omega arith)

wide : HasWidth (UInt 32)
wide = (omega arith, omega arith)

adds_bytes : GivesType Add (UInt 8 ∷ UInt 8 ∷ []) 0 (UInt 8)
adds_bytes = search rules

adds : GivesType Add (UInt 32 ∷ UInt 32 ∷ []) 0 (UInt 32)
adds = search rules

abbrev x8 : Call
x8 = C.Input (120 ∷ []) (UInt 8) None

abbrev twice : Call
twice = C.Operation Add ToNearEven 0 (0 ∷ 0 ∷ []) (UInt 8)

pub double_lawful : AreLawful [] double
double_lawful = (
  ((search rules, omega arith), byte, tt),
  (
    (UInt 8 ∷ UInt 8 ∷ [], ((x8, inl (refl, refl), refl), ((x8, inl (refl, refl), refl), tt)), adds_bytes, byte),
    (
      ((search rules, omega arith), (twice, inl (refl, refl), refl), tt, byte),
      tt,
    ),
  ),
)

pub self_fed_lawful : AreLawful [] self_fed
self_fed_lawful = (
  byte,
  (
    (UInt 8, inl (refl, refl), (C.Feed (UInt 8), inl (refl, refl), refl)),
    (
      ((search rules, omega arith), (C.Feed (UInt 8), inl (refl, refl), refl), tt, byte),
      tt,
    ),
  ),
)

abbrev x : Call
x = C.Input (120 ∷ []) (UInt 32) None

abbrev before : Call
before = C.Offset 0 (negsuc 0) (UInt 32)

abbrev after : Call
after = C.Offset 0 (pos 1) (UInt 32)

abbrev two : Call
two = C.Operation Add ToNearEven 0 (1 ∷ 0 ∷ []) (UInt 32)

abbrev three : Call
three = C.Operation Add ToNearEven 0 (2 ∷ 3 ∷ []) (UInt 32)

pub sum3_lawful : AreLawful [] sum3
sum3_lawful = (
  ((search rules, omega arith), wide, tt),
  (
    ((x, inl (refl, refl), refl), omega arith, wide),
    (
      (UInt 32 ∷ UInt 32 ∷ [], ((before, inl (refl, refl), refl), ((x, inr (inl (refl, refl)), refl), tt)), adds, wide),
      (
        ((x, inr (inr (inl (refl, refl))), refl), omega arith, wide),
        (
          (UInt 32 ∷ UInt 32 ∷ [], ((two, inr (inl (refl, refl)), refl), ((after, inl (refl, refl), refl), tt)), adds, wide),
          (
            ((search rules, omega arith), (three, inl (refl, refl), refl), tt, wide),
            tt,
          ),
        ),
      ),
    ),
  ),
)
