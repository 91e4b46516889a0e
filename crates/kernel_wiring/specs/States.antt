-- The words of holds.
use Rattle.std.specs.Prelude.{◌≡◌, ℕ, ◌&&◌, if◌then◌else◌, nat_eq}
use Rattle.rtl_ir.specs.declared.design.Module.{Module}
use Rattle.rtl_ir.specs.Value.{Family, Contents, bit}
use Rattle.rtl_ir.specs.Grow.{Holds}
use Rattle.rtl_build.specs.declared.signal.Signal.{Signal}
use Rattle.rtl_build.specs.Wires.{AddsWires}
use Rattle.kernel_control.specs.Nets.{HasWidth}
use Rattle.kernel_control.specs.Due.{is_in_ticks}

-- At most 8 wires were added. One of them says whether the word is stored, and the answered one has
-- it.
pub record MakesHeld (old new : Module) (position ticks time store : ℕ) (from : Signal) (kept : ℕ)
    (word : Signal) : Type 0
  where
    pub adds : AddsWires old new 8
    pub wide : HasWidth new from.width word
    pub on : ℕ
    pub stores :
        (c : Contents) (f : Family)
        → Holds new c f
        → f on ≡ bit (is_in_ticks (f position) (f ticks) time && nat_eq (f store) 1)
    pub shows :
        (c : Contents) (f : Family)
        → Holds new c f
        → f word.net ≡ if nat_eq (f on) 1 then f from.net else f kept
