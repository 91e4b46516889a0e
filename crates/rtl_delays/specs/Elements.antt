-- Delays that are registers or rings.
use Rattle.std.specs.Prelude.{◌≡◌, ℕ, ◌+◌, ◌*◌, ◌≤◌, length, false, Option, Some, None, List, [], ◌∷◌}
use Rattle.rtl_ir.specs.declared.design.Module.{Module}
use Rattle.rtl_build.specs.declared.signal.Signal.{Signal}
use Rattle.rtl_build.specs.Signals.{HasSignal}
use Rattle.rtl_build.specs.Storage.{HasRegister}
use Rattle.rtl_delays.specs.declared.elements.Element.{Element}
use Rattle.rtl_delays.specs.declared.elements.Element.TheVariants.{Register, Ring}
use Rattle.rtl_delays.specs.Steps.{writes_reg}
use Rattle.rtl_delays.specs.Extends.{Extends, AddsOneRegister}
use Rattle.rtl_delays.specs.Driven.{KeepsUndriven}
use Rattle.rtl_delays.specs.Stored.{stored_bits}
use Rattle.rtl_delays.specs.Rings.{IsPointerWidth, HasRing, IsUnwritten}

-- the signal that is late
abbrev pub shown : Element → Signal
shown (Register s) = s
shown (Ring r) = r.word

-- how many advances late it is
abbrev pub advances_of : Element → ℕ
advances_of (Register s) = 1
advances_of (Ring r) = r.words

-- the net of the register that it writes
abbrev pub reg_of : Element → ℕ
reg_of (Register s) = s.net
reg_of (Ring r) = r.pointer.net

-- the memory that it writes, if it has one
abbrev pub mem_of : Element → Option ℕ
mem_of (Register s) = None
mem_of (Ring r) = Some r.memory

-- the bits of a ring's pointer, and none of a register
abbrev pub pointer_bits : Element → ℕ
pointer_bits (Register s) = 0
pointer_bits (Ring r) = r.pointer.width

-- the nets that it adds when it is started: a register is one, and a ring's are its pointer and the
-- wire of its word
abbrev pub starting_nets : Element → ℕ
starting_nets (Register s) = 1
starting_nets (Ring r) = 2

-- the memories that it adds
abbrev pub starting_mems : Element → ℕ
starting_mems (Register s) = 0
starting_mems (Ring r) = 1

-- the most nets that are added when it is closed
abbrev pub closing_nets : Element → ℕ
closing_nets (Register s) = 0
closing_nets (Ring r) = 8

-- a ring's pointer is as wide as it has to be
abbrev pub IsLean : Element → Type 0
IsLean (Register s) = Unit {0}
IsLean (Ring r) = IsPointerWidth r.words r.pointer.width

-- it stands in the module
abbrev pub HasElement : Module → Element → Type 0
HasElement m (Register s) = HasSignal m s × HasRegister m s
HasElement m (Ring r) = HasRing m r

-- nothing writes it
abbrev pub IsFreeElement : Module → Element → Type 0
IsFreeElement m (Register s) = writes_reg s.net m.updates ≡ false
IsFreeElement m (Ring r) = IsUnwritten m r

-- its memory, if it has one, comes after so many
abbrev pub IsNewMemory : ℕ → Option ℕ → Type 0
IsNewMemory n None = Unit {0}
IsNewMemory n (Some k) = k ≡ n

-- A delay was added that nothing writes yet, of so many advances of words of a width. Its
-- register, and its memory if it has one, come after all that stood.
pub record AddsElement (old new : Module) (width advances : ℕ) (e : Element) : Type 0 where
  pub extends : Extends old new
  pub has : HasElement new e
  pub free : IsFreeElement new e
  pub late : advances_of e ≡ advances
  pub wide : (shown e).width ≡ width
  pub lean : IsLean e
  pub reg : reg_of e ≡ length old.nets
  pub mem : IsNewMemory (length old.mems) (mem_of e)
  pub nets : length new.nets ≡ length old.nets + starting_nets e
  pub mems : length new.mems ≡ length old.mems + starting_mems e
  pub updates : new.updates ≡ old.updates
  pub only : AddsOneRegister old new (reg_of e)
  pub undriven : KeepsUndriven old new
  pub stored : stored_bits new ≡ stored_bits old + width * advances + pointer_bits e

-- a memory's number, if there is one, is at least this
abbrev pub IsPast : ℕ → Option ℕ → Type 0
IsPast k None = Unit {0}
IsPast k (Some j) = k ≤ j

-- the number after that of a memory, and else this one
abbrev pub past : ℕ → Option ℕ → ℕ
past k None = k
past k (Some j) = j + 1

-- Delays that nothing writes yet, whose registers and memories have rising numbers, from these on
-- and up to those.
abbrev pub AreFree : Module → ℕ → ℕ → List Element → ℕ → ℕ → Type 0
AreFree m n k [] nets mems = (n ≤ nets) × (k ≤ mems)
AreFree m n k (e ∷ es) nets mems =
    (n ≤ reg_of e)
    × IsPast k (mem_of e)
    × HasElement m e
    × IsFreeElement m e
    × AreFree m (reg_of e + 1) (past k (mem_of e)) es nets mems
