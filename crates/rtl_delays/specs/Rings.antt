-- Rings in memories.
use Rattle.std.specs.Prelude.{◌≡◌, ℕ, ◌+◌, ◌-◌, ◌*◌, ◌<◌, ◌≤◌, ◌^◌, length, false}
use Rattle.rtl_ir.specs.declared.design.Module.{Module}
use Rattle.rtl_ir.specs.Value.{Family, Contents, depth_of}
use Rattle.rtl_ir.specs.Typed.{word_width}
use Rattle.rtl_ir.specs.Grow.{Holds}
use Rattle.rtl_build.specs.Signals.{HasSignal}
use Rattle.rtl_build.specs.Storage.{HasRegister}
use Rattle.rtl_delays.specs.declared.rings.Ring.{Ring}
use Rattle.rtl_delays.specs.Steps.{writes_reg, writes_mem}
use Rattle.rtl_delays.specs.Extends.{Extends, AddsOneRegister}
use Rattle.rtl_delays.specs.Driven.{KeepsUndriven}
use Rattle.rtl_delays.specs.Stored.{stored_bits}

-- so many bits hold each number below `words`, and fewer don't
pub record IsPointerWidth (words bits : ℕ) : Type 0 where
  pub some : 1 ≤ bits
  pub holds : words ≤ 2 ^ bits
  pub least : 2 ^ (bits - 1) < words

-- A ring whose pointer and memory stand in the module, with a wire of the word at the pointer.
pub record HasRing (m : Module) (r : Ring) : Type 0 where
  pub pointer : HasSignal m r.pointer
  pub register : HasRegister m r.pointer
  pub memory : r.memory < length m.mems
  pub depth : depth_of m r.memory ≡ r.words
  pub width : word_width m r.memory ≡ r.word.width
  pub word : HasSignal m r.word
  pub some : 2 ≤ r.words
  pub fits : IsPointerWidth r.words r.pointer.width
  pub shows :
      (c : Contents) (v : Family)
      → Holds m c v
      → v r.pointer.net < r.words
      → v r.word.net ≡ c.cells r.memory (v r.pointer.net)

-- nothing writes the ring
pub record IsUnwritten (m : Module) (r : Ring) : Type 0 where
  pub pointer : writes_reg r.pointer.net m.updates ≡ false
  pub memory : writes_mem r.memory m.updates ≡ false

-- A ring was added that nothing writes yet, of so many words of a width. Its register and its
-- memory come after all that stood.
pub record AddsRing (old new : Module) (width words : ℕ) (r : Ring) : Type 0 where
  pub extends : Extends old new
  pub has : HasRing new r
  pub free : IsUnwritten new r
  pub long : r.words ≡ words
  pub wide : r.word.width ≡ width
  pub pointer : r.pointer.net ≡ length old.nets
  pub memory : r.memory ≡ length old.mems
  pub nets : length new.nets ≡ length old.nets + 2
  pub mems : length new.mems ≡ length old.mems + 1
  pub updates : new.updates ≡ old.updates
  pub only : AddsOneRegister old new r.pointer.net
  pub undriven : KeepsUndriven old new
  pub stored : stored_bits new ≡ stored_bits old + width * words + r.pointer.width
