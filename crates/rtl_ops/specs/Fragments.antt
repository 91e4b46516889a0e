-- What a fragment is.
use Rattle.std.specs.Prelude.{◌≡◌, ℕ, List, map, IfSome}
use Rattle.mx_bits.specs.declared.op.Op.{Op}
use Rattle.fix_arith.specs.declared.types.StreamType.{StreamType}
use Rattle.fix_arith.specs.declared.types.RoundMode.{RoundMode}
use Rattle.fix_arith.specs.Types.{width_of as type_width}
use Rattle.fix_arith.specs.Table.{applied}
use Rattle.rtl_ir.specs.declared.design.Module.{Module}
use Rattle.rtl_ir.specs.Value.{Family, Contents}
use Rattle.rtl_ir.specs.Grow.{Holds}
use Rattle.rtl_build.specs.declared.signal.Signal.{Signal}
use Rattle.rtl_build.specs.Wires.{AddsWires}
use Rattle.rtl_build.specs.Signals.{HasSignal}
use Rattle.rtl_ops.specs.Costs.{most_wires}

-- The new module is the old one and the wires of an operation on these nets, and the signal has its result: in every family that
-- satisfies the new module its value is the word that the operation gives for the values of the operands, where it gives one. Signals
-- of the old module stay, and what satisfies the new module satisfies the old one.
pub record IsFragment (old new : Module) (op : Op) (mode : RoundMode) (types : List StreamType)
    (args : List ℕ) (amount : ℕ) (out : StreamType) (s : Signal) : Type 0 where
  pub adds : AddsWires old new (most_wires op types)
  pub signal : HasSignal new s
  pub width : s.width ≡ type_width out
  pub value : (c : Contents) (v : Family) → Holds new c v → IfSome (applied op mode types (map v args) amount out) (λ x. v s.net ≡ x)
  pub keeps : (t : Signal) → HasSignal old t → HasSignal new t
  pub before : (c : Contents) (v : Family) → Holds new c v → Holds old c v
