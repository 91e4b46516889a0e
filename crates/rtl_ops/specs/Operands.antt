-- The operands of an operation.
use Rattle.std.specs.Prelude.{◌≡◌, ℕ, Bool, true, false, List, map}
use Rattle.mx_bits.specs.declared.op.Op.{Op}
use Rattle.mx_bits.specs.declared.op.Op.TheVariants.{Neg, Not, Shl, Shr, Mux, Cast, Round}
use Rattle.fix_arith.specs.declared.types.StreamType.{StreamType}
use Rattle.fix_arith.specs.Types.{width_of as type_width}
use Rattle.rtl_ir.specs.declared.design.Module.{Module}
use Rattle.rtl_ir.specs.Value.{width_of}
use Rattle.rtl_build.specs.Wires.{AreInner}

-- the operation has two operands of one type
abbrev pub takes_two : Op → Bool
takes_two Neg = false
takes_two Not = false
takes_two Shl = false
takes_two Shr = false
takes_two Mux = false
takes_two Cast = false
takes_two Round = false
takes_two _ = true

-- one net of the module for each type, of its width, none of them that of an output
pub record HasNets (m : Module) (types : List StreamType) (args : List ℕ) : Type 0 where
  pub widths : map (width_of m) args ≡ map type_width types
  pub inner : AreInner m.ports args
