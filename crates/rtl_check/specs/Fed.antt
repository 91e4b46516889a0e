-- What is known of the sources of each net, and of the updates of each memory, when some of them were seen.
use Rattle.std.specs.Prelude.{◌≡◌, ◌⊎◌, ℕ, ◌<◌, Bool, true, false, List, length, Some, slice_get}
use Rattle.rtl_ir.specs.declared.design.Design.{Design}
use Rattle.rtl_ir.specs.declared.design.Module.{Module}
use Rattle.rtl_ir.specs.declared.design.Update.{Update}
use Rattle.rtl_ir.specs.declared.design.Target.TheVariants.{Cell}
use Rattle.rtl_check.specs.declared.drivers.Drivers.{Drivers}
use Rattle.rtl_check.specs.declared.drivers.Fed.{Fed}
use Rattle.rtl_check.specs.declared.drivers.Fed.TheVariants.{Never, Input, Once, Wrongly}
use Rattle.rtl_ir.specs.Typed.{is_input}
use Rattle.rtl_ir.specs.Rules.{ByAssign, ByPort}
use Rattle.rtl_ir.specs.Faults.{Source, Wired, Updated, Gives, May, HasTwo, IsWrittenTwice}

-- the mark after one more source, which may be one or not
abbrev pub after : Fed → Bool → Fed
after Never true = Once
after Never false = Wrongly
after Input may = Wrongly
after Once may = Wrongly
after Wrongly may = Wrongly

-- the sources among the first assignments, the ports of the first instances and the first ports of the next one, and the
-- first updates
abbrev pub IsSeen : ℕ → ℕ → ℕ → ℕ → Source → Type 0
IsSeen assigns instances ports updates (Wired (ByAssign j)) = j < assigns
IsSeen assigns instances ports updates (Wired (ByPort k j)) = (k < instances) ⊎ ((k ≡ instances) × (j < ports))
IsSeen assigns instances ports updates (Updated j) = j < updates

-- one of the sources seen gives the net its value, and may, and no other one does
pub record HasOne (d : Design) (m : Module) (Seen : Source → Type 0) (n : ℕ) : Type 0 where
  pub source : Source
  pub seen : Seen source
  pub gives : Gives d m source n
  pub may : May m source n
  pub only : (other : Source) → Seen other → Gives d m other n → other ≡ source

-- what a net's mark says of the sources seen
abbrev pub IsFed : Design → Module → (Source → Type 0) → ℕ → Fed → Type 0
IsFed d m Seen n Never = (is_input m.ports n ≡ false) × ((s : Source) → Seen s → Gives d m s n → ⊥)
IsFed d m Seen n Input = (is_input m.ports n ≡ true) × ((s : Source) → Seen s → Gives d m s n → ⊥)
IsFed d m Seen n Once = (is_input m.ports n ≡ false) × HasOne d m Seen n
IsFed d m Seen n Wrongly = HasTwo d m n

abbrev pub AreFed : Design → Module → (Source → Type 0) → List Fed → Type 0
AreFed d m Seen marks = (n : ℕ) (mark : Fed) → slice_get marks n ≡ Some mark → IsFed d m Seen n mark

-- an update writes a memory
abbrev pub Writes : Module → ℕ → ℕ → Type 0
Writes m j k = (u : Update) × (address : ℕ) × (slice_get m.updates j ≡ Some u) × (u.target ≡ Cell k address)

-- one of the first updates writes the memory, and no other one of them
pub record HasOneWrite (m : Module) (updates k : ℕ) : Type 0 where
  pub update : ℕ
  pub seen : update < updates
  pub writes : Writes m update k
  pub only : (other : ℕ) → other < updates → Writes m other k → other ≡ update

-- what a memory's mark says of the first updates
abbrev pub IsWritten : Module → ℕ → ℕ → Fed → Type 0
IsWritten m updates k Never = (j : ℕ) → j < updates → Writes m j k → ⊥
IsWritten m updates k Input = ⊥
IsWritten m updates k Once = HasOneWrite m updates k
IsWritten m updates k Wrongly = IsWrittenTwice m k

abbrev pub AreWritten : Module → ℕ → List Fed → Type 0
AreWritten m updates marks = (k : ℕ) (mark : Fed) → slice_get marks k ≡ Some mark → IsWritten m updates k mark

-- the marks of all nets and memories, with all sources seen
pub record AreMarked (d : Design) (m : Module) (x : Drivers) : Type 0 where
  pub nets : AreFed d m (λ s. Unit {0}) x.nets.items
  pub nets_size : length x.nets.items ≡ length m.nets
  pub mems : AreWritten m (length m.updates) x.mems.items
  pub mems_size : length x.mems.items ≡ length m.mems
