-- The calls of the kernel are lawful.
use Rattle.std.proofs.Common.{rules, [], ◌∷◌, refl, arith, inl, inr}
use Rattle.std.specs.Prelude.{None, negsuc, pos}
use Rattle.fix_arith.specs.declared.types.StreamType.TheVariants.{UInt}
use Rattle.fix_arith.specs.Types.{HasWidth}
use Rattle.fix_arith.specs.Table.{GivesType}
use Rattle.mx_bits.specs.declared.op.Op.TheVariants.{Add}
use Rattle.kernel_calls.specs.declared.call.Call.{Call}
use Rattle.kernel_calls.specs.declared.call.Call.TheVariants as C
use Rattle.kernel_calls.specs.Laws.{AreLawful}
use Rattle.stream_graph_tests.specs.Sum3.{sum3}
use Rattle.stream_graph_tests.proofs.Steps.{sum}

abbrev x : Call
x = C.Input (120 ∷ []) (UInt 32) None

abbrev before : Call
before = C.Offset 0 (negsuc 0) (UInt 32)

abbrev after : Call
after = C.Offset 0 (pos 1) (UInt 32)

wide : HasWidth (UInt 32)
wide = (omega arith, omega arith)

adds : GivesType Add (UInt 32 ∷ UInt 32 ∷ []) 0 (UInt 32)
adds = search rules

pub lawful : AreLawful [] sum3
lawful = (
  ((search rules, omega arith), wide, tt),
  (
    ((x, inl (refl, refl), refl), omega arith, wide),
    (
      (UInt 32 ∷ UInt 32 ∷ [], ((before, inl (refl, refl), refl), ((x, inr (inl (refl, refl)), refl), tt)), adds, wide),
      (
        ((x, inr (inr (inl (refl, refl))), refl), omega arith, wide),
        (
          (UInt 32 ∷ UInt 32 ∷ [], ((sum 1 0, inr (inl (refl, refl)), refl), ((after, inl (refl, refl), refl), tt)), adds, wide),
          (
            ((search rules, omega arith), (sum 2 3, inl (refl, refl), refl), tt, wide),
            tt,
          ),
        ),
      ),
    ),
  ),
)
