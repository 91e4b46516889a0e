-- Updates of registers and memories whose numbers are in range.
use Rattle.std.specs.Prelude.{◌≡◌, ◌≢◌, ℕ, ◌<◌, ◌≤◌, ◌^◌, Bool, true, List, [], ◌∷◌, length, Some}
use Rattle.std.specs.Prelude.{slice_get, slice_index, slice_set, replicate}
use Rattle.rtl_ir.specs.declared.design.Module.{Module}
use Rattle.rtl_ir.specs.declared.design.Update.{Update}
use Rattle.rtl_ir.specs.declared.design.Target.{Target}
use Rattle.rtl_ir.specs.declared.design.Target.TheVariants.{Reg, Cell}
use Rattle.rtl_ir.specs.Value.{width_of}

abbrev pub IsTargetSafe : ℕ → ℕ → Target → Type 0
IsTargetSafe nets memories (Reg n) = n < nets
IsTargetSafe nets memories (Cell k a) = (k < memories) × (a < nets)

-- a register among so many nets
abbrev pub IsRegSafe : ℕ → Target → Type 0
IsRegSafe nets (Reg n) = n < nets
IsRegSafe nets (Cell k a) = Unit {0}

-- with the value of a register that is written
abbrev pub with_held : Target → List ℕ → List ℕ → List ℕ
with_held (Reg n) values held = slice_set held n (slice_index values n)
with_held (Cell k a) values held = held

abbrev pub with_all_held : List Update → List ℕ → List ℕ → List ℕ
with_all_held [] values held = held
with_all_held (u ∷ us) values held = with_all_held us values (with_held u.target values held)

-- what registers hold whose values these are: all that are updated have theirs, and 0 stands at all other nets
abbrev pub held_by : List Update → List ℕ → List ℕ
held_by us values = with_all_held us values (replicate (length values) 0)

-- an update names nets and memories among so many
pub record IsUpdateSafe (nets memories : ℕ) (u : Update) : Type 0 where
  pub enable : u.enable < nets
  pub value : u.value < nets
  pub target : IsTargetSafe nets memories u.target

-- what an update reads has at most 64 bits: where it is told so the word that is written, and always what enables it
pub record IsUpdateSmall (narrow : Bool) (values : List ℕ) (u : Update) : Type 0 where
  pub enable : slice_index values u.enable < 2 ^ 64
  pub value : narrow ≡ true → slice_index values u.value < 2 ^ 64

-- where it is told so a register holds and has at most 64 bits
abbrev pub IsRegSmall : Bool → List ℕ → List ℕ → Target → Type 0
IsRegSmall narrow held values (Reg n) = narrow ≡ true → (slice_index held n < 2 ^ 64) × (slice_index values n < 2 ^ 64)
IsRegSmall narrow held values (Cell k a) = Unit {0}

abbrev pub IsLoadSmall : Bool → List ℕ → List ℕ → Update → Type 0
IsLoadSmall narrow held values u = IsRegSmall narrow held values u.target

-- no update writes words of more than 64 bits
abbrev pub AreNarrow : Module → Type 0
AreNarrow m = (k : ℕ) (u : Update) → slice_get m.updates k ≡ Some u → width_of m u.value ≤ 64

abbrev pub IsLoadSafe : ℕ → Update → Type 0
IsLoadSafe nets u = IsRegSafe nets u.target

-- each register that is updated has the value that it holds, and all other nets the ones that they had
pub record IsLoaded (updates : List Update) (held old new : List ℕ) : Type 0 where
  pub size : length new ≡ length old
  pub regs : (j n : ℕ) (u : Update) → slice_get updates j ≡ Some u → u.target ≡ Reg n → slice_index new n ≡ slice_index held n
  pub others : (n : ℕ) → ((j : ℕ) (u : Update) → slice_get updates j ≡ Some u → u.target ≢ Reg n) → slice_index new n ≡ slice_index old n
