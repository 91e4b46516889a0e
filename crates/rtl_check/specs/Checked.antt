-- What each test of a module says.
use Rattle.std.specs.Prelude.{◌≡◌, ◌⊎◌, ℕ, List, Some, slice_get}
use Rattle.rtl_ir.specs.declared.design.Design.{Design}
use Rattle.rtl_ir.specs.declared.design.Module.{Module}
use Rattle.rtl_ir.specs.declared.design.Instance.{Instance}
use Rattle.rtl_check.specs.declared.drivers.Drivers.{Drivers}
use Rattle.rtl_ir.specs.declared.error.RtlError.{RtlError}
use Rattle.rtl_ir.specs.declared.error.RtlError.TheVariants.{Unknown, Width, TwoDrivers, CombLoop, NoDriver, SameName, NoMemory}
use Rattle.rtl_ir.specs.Formed.{IsFormedModule}
use Rattle.rtl_ir.specs.Rules.{AllDiffer, names_of, HasDrivers, HasUpdates, HasWidths}
use Rattle.rtl_ir.specs.Faults.{IsFirst, IsAgain, HasTwo, IsWrittenTwice}
use Rattle.rtl_check.specs.FirstFault.{IsTwoDrivers, IsNoDriver, IsWidth}
use Rattle.rtl_check.specs.Fed.{AreMarked}
use Rattle.rtl_check.specs.Paths.{ArePathsOf}

-- want of memory, or an error of one kind with a name that has a property
abbrev pub IsNoMemoryOr : (List ℕ → RtlError) → (List ℕ → Type 0) → RtlError → Type 0
IsNoMemoryOr kind P e = (e ≡ NoMemory) ⊎ ((name : List ℕ) × (e ≡ kind name) × P name)

-- a name is the first that a module declares again
abbrev pub IsAgainIn : Module → List ℕ → Type 0
IsAgainIn m name = (i : ℕ) × IsFirst (IsAgain (names_of m)) i × (slice_get (names_of m) i ≡ Some name)

-- these marks are those of a module of some design
abbrev pub Marks : Module → Drivers → Design → Type 0
Marks m x d = IsFormedModule d.modules m × AreMarked d m x

-- no net has a source too many, and no memory two updates
abbrev pub HasNoTwo : Design → Module → Type 0
HasNoTwo d m = ((n : ℕ) → HasTwo d m n → ⊥) × ((k : ℕ) → IsWrittenTwice m k → ⊥)

-- the first fault of a module's own parts, by kinds in the order SameName, TwoDrivers, NoDriver, Width
abbrev pub IsPartFault : Design → Module → RtlError → Type 0
IsPartFault d m (SameName name) = IsAgainIn m name
IsPartFault d m (TwoDrivers name) = AllDiffer (names_of m) × IsTwoDrivers d m name
IsPartFault d m (NoDriver name) = AllDiffer (names_of m) × HasNoTwo d m × IsNoDriver d m name
IsPartFault d m (Width name) = AllDiffer (names_of m) × HasDrivers d m × HasUpdates m × IsWidth d m name
IsPartFault d m (CombLoop names) = ⊥
IsPartFault d m (Unknown name) = ⊥
IsPartFault d m NoMemory = ⊥

-- a module keeps all rules but that on loops
pub record KeepsRules (d : Design) (m : Module) : Type 0 where
  pub names : AllDiffer (names_of m)
  pub driven : HasDrivers d m
  pub updated : HasUpdates m
  pub widths : HasWidths d m

-- the paths of each module of which this one has an instance
abbrev pub AreTables : Design → Module → List (List (List ℕ)) → Type 0
AreTables d m tables =
    (k : ℕ) (i : Instance) (inner : Module)
    → slice_get m.instances k ≡ Some i
    → slice_get d.modules i.module ≡ Some inner
    → (paths : List (List ℕ)) × (slice_get tables i.module ≡ Some paths) × ArePathsOf d inner paths

-- a module of some design, and the paths of the modules of its instances
abbrev pub IsPart : Module → List (List (List ℕ)) → Design → Type 0
IsPart m tables d = IsFormedModule d.modules m × AreTables d m tables
