-- Modules that grow by wires, registers, memories, updates and the values of outputs.
use Rattle.std.specs.Prelude.{
  ◌≡◌,
  ℕ,
  ◌<◌,
  List,
  [],
  ◌∷◌,
  length,
  Option,
  Some,
  None,
  Bool,
  true,
  false,
  nat_eq,
}
use Rattle.rtl_ir.specs.declared.design.Module.{Module}
use Rattle.rtl_ir.specs.declared.design.Update.{Update}
use Rattle.rtl_ir.specs.Value.{Family, Contents, is_reg, depth_of}
use Rattle.rtl_ir.specs.Typed.{word_width}
use Rattle.rtl_ir.specs.Grow.{Grows, Holds}
use Rattle.rtl_build.specs.declared.signal.Signal.{Signal}
use Rattle.rtl_build.specs.Signals.{HasSignal}
use Rattle.rtl_build.specs.Ports.{HasOutput}
use Rattle.rtl_build.specs.Storage.{HasRegister, HasMemory}
use Rattle.rtl_delays.specs.Steps.{Step, HasUpdate, writes_reg, writes_mem, IsSound}
use Rattle.rtl_delays.specs.Ordered.{IsOrdered}
use Rattle.rtl_delays.specs.Partial.{IsPartial}

-- What stood in the module stands in the new one, which does at an edge what the old one did with
-- it, and keeps the rules of designs that it kept.
pub record Extends (old new : Module) : Type 0 where
  pub grows : Grows old new
  pub name : new.name ≡ old.name
  pub sound : IsSound new
  pub keeps : (t : Signal) → HasSignal old t → HasSignal new t
  pub outputs : (t : Signal) → HasOutput old t → HasOutput new t
  pub registers : (t : Signal) → HasRegister old t → HasRegister new t
  pub memories : (k : ℕ) → HasMemory old k → HasMemory new k
  pub regs : (n : ℕ) → is_reg old n ≡ true → is_reg new n ≡ true
  pub depths : (k : ℕ) → k < length old.mems → depth_of new k ≡ depth_of old k
  pub widths : (k : ℕ) → k < length old.mems → word_width new k ≡ word_width old k
  pub before : (c : Contents) (v : Family) → Holds new c v → Holds old c v
  pub steps : (c : Contents) (v : Family) (d : Contents) → Step new c v d → Step old c v d
  pub updated : (u : Update) → HasUpdate old u → HasUpdate new u
  pub ordered : IsOrdered old → IsOrdered new
  pub partial : IsPartial old → IsPartial new

-- each register of the new module was one of the old one
abbrev pub AddsNoRegister : Module → Module → Type 0
AddsNoRegister old new = (n : ℕ) → is_reg new n ≡ true → is_reg old n ≡ true

-- each register of the new module is net k or was one of the old one
abbrev pub AddsOneRegister : Module → Module → ℕ → Type 0
AddsOneRegister old new k =
    (n : ℕ) → is_reg new n ≡ true → nat_eq k n ≡ false → is_reg old n ≡ true

-- no update is enabled
abbrev pub AllOff : Family → List Update → Type 0
AllOff f [] = Unit {0}
AllOff f (u ∷ us) = (nat_eq (f u.enable) 1 ≡ false) × AllOff f us

-- where two nets are 0 no update is enabled, if none was before
abbrev pub KeepsStill : Module → Module → ℕ → ℕ → Type 0
KeepsStill old new run reset =
    (c : Contents) (f : Family)
    → Holds new c f
    → f run ≡ 0
    → f reset ≡ 0
    → AllOff f old.updates
    → AllOff f new.updates

-- whether a number is there and is this one
abbrev pub is_number : Option ℕ → ℕ → Bool
is_number None n = false
is_number (Some k) n = nat_eq k n

-- of registers and memories that were not written, no others are written than these are
pub record LeavesFree (old new : Module) (r : ℕ) (k : Option ℕ) : Type 0 where
  pub regs :
      (n : ℕ)
      → writes_reg n old.updates ≡ false
      → nat_eq r n ≡ false
      → writes_reg n new.updates ≡ false
  pub mems :
      (n : ℕ)
      → writes_mem n old.updates ≡ false
      → is_number k n ≡ false
      → writes_mem n new.updates ≡ false
