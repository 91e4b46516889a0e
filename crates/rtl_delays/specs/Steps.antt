-- One edge of a module, as the modules show it that it grows into.
use Rattle.std.specs.Prelude.{
  ◌≡◌,
  ℕ,
  ◌<◌,
  Bool,
  true,
  false,
  ◌&&◌,
  ◌||◌,
  if◌then◌else◌,
  nat_eq,
  nat_lt,
  List,
  [],
  ◌∷◌,
  length,
  slice_get,
  Some,
}
use Rattle.rtl_ir.specs.declared.design.Module.{Module}
use Rattle.rtl_ir.specs.declared.design.Update.{Update}
use Rattle.rtl_ir.specs.declared.design.Target.{Target}
use Rattle.rtl_ir.specs.declared.design.Target.TheVariants.{Reg, Cell}
use Rattle.rtl_ir.specs.Value.{Family, Contents, is_reg, depth_of}
use Rattle.rtl_ir.specs.Grow.{InRange, Holds}

-- What an update whose enable is on or off makes of the contents c. A write past the depth of a
-- memory leaves all of its cells.
abbrev pub MovedTo : Module → Contents → Family → Contents → Bool → ℕ → Target → Type 0
MovedTo m c v d on x (Reg n) = d.regs n ≡ if on then x else c.regs n
MovedTo m c v d on x (Cell k a) =
    (i : ℕ)
    → d.cells k i
    ≡ if on && (nat_lt (v a) (depth_of m k) && nat_eq i (v a)) then x else c.cells k i

-- what each of these updates makes of the contents c
abbrev pub MovesAll : Module → Contents → Family → Contents → List Update → Type 0
MovesAll m c v d [] = Unit {0}
MovesAll m c v d (u ∷ us) =
    MovedTo m c v d (nat_eq (v u.enable) 1) (v u.value) u.target
    × MovesAll m c v d us

-- the family fits the module, and d has what its updates make of c
pub record Step (m : Module) (c : Contents) (v : Family) (d : Contents) : Type 0 where
  pub holds : Holds m c v
  pub moves : MovesAll m c v d m.updates

-- edge after edge
abbrev pub Steps : Module → Contents → List Family → Type 0
Steps m c [] = Unit {0}
Steps m c (v ∷ vs) = (d : Contents) × (Step m c v d × Steps m d vs)

-- whether a target is the register that is net number n
abbrev pub is_target : ℕ → Target → Bool
is_target n (Reg k) = nat_eq k n
is_target n (Cell k a) = false

-- whether a target is a word of memory number n
abbrev pub is_mem_target : ℕ → Target → Bool
is_mem_target n (Reg k) = false
is_mem_target n (Cell k a) = nat_eq k n

-- whether one of these updates writes the register that is net number n
abbrev pub writes_reg : ℕ → List Update → Bool
writes_reg n [] = false
writes_reg n (u ∷ us) = is_target n u.target || writes_reg n us

-- whether one of these updates writes memory number n
abbrev pub writes_mem : ℕ → List Update → Bool
writes_mem n [] = false
writes_mem n (u ∷ us) = is_mem_target n u.target || writes_mem n us

-- what a target names is written by none of the updates
abbrev pub IsFree : List Update → Target → Type 0
IsFree us (Reg n) = writes_reg n us ≡ false
IsFree us (Cell k a) = writes_mem k us ≡ false

-- no two updates write one register or one memory
abbrev pub Apart : List Update → Type 0
Apart [] = Unit {0}
Apart (u ∷ us) = IsFree us u.target × Apart us

-- a target names nets and memories among the first so many
abbrev pub IsTargetIn : ℕ → ℕ → Target → Type 0
IsTargetIn nets mems (Reg n) = n < nets
IsTargetIn nets mems (Cell k a) = (k < mems) × (a < nets)

-- so do the targets of these updates
abbrev pub UpdatesIn : ℕ → ℕ → List Update → Type 0
UpdatesIn nets mems [] = Unit {0}
UpdatesIn nets mems (u ∷ us) = IsTargetIn nets mems u.target × UpdatesIn nets mems us

-- what a target names is a register or a memory of the module
abbrev pub IsKept : Module → Target → Type 0
IsKept m (Reg n) = is_reg m n ≡ true
IsKept m (Cell k a) = k < length m.mems

-- numbers are in range and updates apart
pub record IsSound (m : Module) : Type 0 where
  pub range : InRange m
  pub updates : UpdatesIn (length m.nets) (length m.mems) m.updates
  pub apart : Apart m.updates

-- a module has an update among its own
abbrev pub HasUpdate : Module → Update → Type 0
HasUpdate m u = (i : ℕ) × (slice_get m.updates i ≡ Some u)
