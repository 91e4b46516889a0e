-- Modules that grow by registers, memories and their updates.
use Rattle.std.specs.Prelude.{◌≡◌, ℕ, ◌<◌, ◌≤◌, List, [], ◌∷◌, ◌++◌, length, true, false, nat_lt, if◌then◌else◌}
use Rattle.rtl_ir.specs.declared.design.Module.{Module}
use Rattle.rtl_ir.specs.declared.design.Update.{Update}
use Rattle.rtl_ir.specs.declared.design.Instance.{Instance}
use Rattle.rtl_ir.specs.declared.design.Expr.TheVariants as exprs
use Rattle.rtl_ir.specs.Value.{Family, Contents, width_of, is_reg, depth_of}
use Rattle.rtl_ir.specs.Typed.{word_width}
use Rattle.rtl_ir.specs.Grow.{Grows, Holds}
use Rattle.rtl_build.specs.declared.signal.Signal.{Signal}
use Rattle.rtl_build.specs.Wires.{wire_name}
use Rattle.rtl_build.specs.Signals.{HasSignal}

-- the signal is a register of the module, with its width
pub record HasRegister (m : Module) (s : Signal) : Type 0 where
  pub net : s.net < length m.nets
  pub register : is_reg m s.net ≡ true
  pub width : width_of m s.net ≡ s.width

-- the module with one register more, its last net
abbrev pub with_register : Module → List ℕ → ℕ → Module
with_register m name w = record m { nets = m.nets ++ record { name = name; width = w; reg = true } ∷ [] }

-- the module with this update beside its own
abbrev pub with_update : Module → Update → Module
with_update m u = record m { updates = m.updates ++ u ∷ [] }

-- the module with one memory more, its last one
abbrev pub with_memory : Module → List ℕ → ℕ → ℕ → Module
with_memory m name w depth = record m { mems = m.mems ++ record { name = name; width = w; depth = depth } ∷ [] }

-- What the old module had the new one has, and what satisfies the new one satisfies the old one.
pub record Keeps (old new : Module) : Type 0 where
  pub grows : Grows old new
  pub signals : (t : Signal) → HasSignal old t → HasSignal new t
  pub before : (c : Contents) (v : Family) → Holds new c v → Holds old c v

-- A register was added, and the signal is its net, which shows what is kept.
pub record AddsRegister (old new : Module) (name : List ℕ) (w : ℕ) (s : Signal) : Type 0 where
  pub is : new ≡ with_register old name w
  pub net : s.net ≡ length old.nets
  pub width : s.width ≡ w
  pub signal : HasSignal new s
  pub register : HasRegister new s
  pub value : (c : Contents) (v : Family) → Holds new c v → v s.net ≡ c.regs s.net
  pub keeps : Keeps old new

-- An update was added.
pub record AddsUpdate (old new : Module) (u : Update) : Type 0 where
  pub is : new ≡ with_update old u
  pub keeps : Keeps old new

-- A memory was added, and this is its number.
pub record AddsMemory (old new : Module) (name : List ℕ) (w d n : ℕ) : Type 0 where
  pub is : new ≡ with_memory old name w d
  pub number : n ≡ length old.mems
  pub within : n < length new.mems
  pub width : word_width new n ≡ w
  pub depth : depth_of new n ≡ d
  pub keeps : Keeps old new

-- the number is that of a memory of the module, with words of 1 to 128 bits
pub record HasMemory (m : Module) (k : ℕ) : Type 0 where
  pub within : k < length m.mems
  pub some : 1 ≤ word_width m k
  pub at_most : word_width m k ≤ 128

-- the module with one wire more, of the word of memory k at the address that net a has
abbrev pub with_cell : Module → ℕ → ℕ → Module
with_cell m k a = record m {
  nets = m.nets ++ record { name = wire_name (length m.nets); width = word_width m k; reg = false } ∷ [];
  assigns = m.assigns ++ record { target = length m.nets; expr = exprs.Cell k a } ∷ [];
}

-- A wire was added, which has the word of a memory at the address that a signal has, and 0 past the depth.
pub record ReadsCell (old new : Module) (k : ℕ) (address s : Signal) : Type 0 where
  pub is : new ≡ with_cell old k address.net
  pub net : s.net ≡ length old.nets
  pub signal : HasSignal new s
  pub width : s.width ≡ word_width old k
  pub value : (c : Contents) (v : Family) → Holds new c v → v s.net ≡ (if nat_lt (v address.net) (depth_of old k) then c.cells k (v address.net) else 0)
  pub keeps : Keeps old new

-- the module with this instance beside its own
abbrev pub with_instance : Module → Instance → Module
with_instance m i = record m { instances = m.instances ++ i ∷ [] }

-- An instance was added, and nothing else.
pub record AddsInstance (old new : Module) (i : Instance) : Type 0 where
  pub is : new ≡ with_instance old i
  pub signals : (t : Signal) → HasSignal old t → HasSignal new t
  pub before : (c : Contents) (v : Family) → Holds new c v → Holds old c v
