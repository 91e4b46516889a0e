-- The first fault of a design, and the name that tells it.
use Rattle.std.specs.Prelude.{◌≡◌, ◌≢◌, ℕ, ◌<◌, List, [], length, map, Option, Some, None, slice_get}
use Rattle.rtl_ir.specs.declared.design.Design.{Design}
use Rattle.rtl_ir.specs.declared.design.Module.{Module}
use Rattle.rtl_ir.specs.declared.design.Mem.{Mem}
use Rattle.rtl_ir.specs.declared.design.Assign.{Assign}
use Rattle.rtl_ir.specs.declared.design.Update.{Update}
use Rattle.rtl_ir.specs.declared.design.Target.{Target}
use Rattle.rtl_ir.specs.declared.design.Target.TheVariants.{Reg, Cell}
use Rattle.rtl_ir.specs.declared.error.RtlError.{RtlError}
use Rattle.rtl_ir.specs.declared.error.RtlError.TheVariants.{Unknown, Width, TwoDrivers, CombLoop, NoDriver, SameName, NoMemory}
use Rattle.rtl_ir.specs.Value.{width_of}
use Rattle.rtl_ir.specs.Typed.{IsTyped, IsUpdateTyped}
use Rattle.rtl_ir.specs.Formed.{name_of}
use Rattle.rtl_ir.specs.Rules.{names_of, Connection}
use Rattle.rtl_ir.specs.Faults.{HasTwo, HasNone, IsWrittenTwice, IsFirst, IsAgain, IsCombLoop}

-- the module with this number has the name of an earlier one
abbrev pub IsNamedAgain : Design → ℕ → Type 0
IsNamedAgain d number = IsAgain (map (λ (m : Module). m.name) d.modules) number

-- the name that is declared again: the module's own, else the first of those that it declares
pub data IsSameName (d : Design) (number : ℕ) (m : Module) : List ℕ → Type 0 where
  of_module : IsNamedAgain d number → IsSameName d number m m.name
  of_part :
      (i : ℕ) (name : List ℕ)
      → (IsNamedAgain d number → ⊥)
      → IsFirst (IsAgain (names_of m)) i
      → slice_get (names_of m) i ≡ Some name
      → IsSameName d number m name

-- the name of a memory, and none for a number of no memory
abbrev pub mem_name : Option Mem → List ℕ
mem_name None = []
mem_name (Some k) = k.name

abbrev pub name_of_mem : Module → ℕ → List ℕ
name_of_mem m k = mem_name (slice_get m.mems k)

-- the name of the first net with a source too many, else of the first memory with two updates
pub data IsTwoDrivers (d : Design) (m : Module) : List ℕ → Type 0 where
  of_net : (n : ℕ) → IsFirst (HasTwo d m) n → IsTwoDrivers d m (name_of m n)
  of_mem : (k : ℕ) → ((n : ℕ) → HasTwo d m n → ⊥) → IsFirst (IsWrittenTwice m) k → IsTwoDrivers d m (name_of_mem m k)

-- a net of the module lacks a source
abbrev pub Lacks : Design → Module → ℕ → Type 0
Lacks d m n = (n < length m.nets) × HasNone d m n

-- the name of the first net that lacks one
pub data IsNoDriver (d : Design) (m : Module) : List ℕ → Type 0 where
  of_net : (n : ℕ) → IsFirst (Lacks d m) n → IsNoDriver d m (name_of m n)

-- an assignment, an update, a port of an instance and an instance that break a width rule
abbrev pub IsBadAssign : Module → ℕ → Type 0
IsBadAssign m j = (a : Assign) × (slice_get m.assigns j ≡ Some a) × (IsTyped m (width_of m a.target) a.expr → ⊥)

abbrev pub IsBadUpdate : Module → ℕ → Type 0
IsBadUpdate m j = (u : Update) × (slice_get m.updates j ≡ Some u) × (IsUpdateTyped m u → ⊥)

abbrev pub IsBadPort : Design → Module → ℕ → ℕ → Type 0
IsBadPort d m k j = (e : Connection d m k j) × (width_of e.inner e.port.net ≢ width_of m e.net)

abbrev pub IsBadInstance : Design → Module → ℕ → Type 0
IsBadInstance d m k = (j : ℕ) × IsBadPort d m k j

-- the name of what an update writes
abbrev pub target_name : Module → Target → List ℕ
target_name m (Reg n) = name_of m n
target_name m (Cell k a) = name_of_mem m k

-- the name of the target of the first assignment, else update, else port of an instance that breaks a width rule.
-- The target of a port is the net that it is joined to
pub data IsWidth (d : Design) (m : Module) : List ℕ → Type 0 where
  of_assign :
      (j : ℕ) (a : Assign) → IsFirst (IsBadAssign m) j → slice_get m.assigns j ≡ Some a → IsWidth d m (name_of m a.target)
  of_update :
      (j : ℕ) (u : Update)
      → ((i : ℕ) → IsBadAssign m i → ⊥)
      → IsFirst (IsBadUpdate m) j
      → slice_get m.updates j ≡ Some u
      → IsWidth d m (target_name m u.target)
  of_port :
      (k j : ℕ) (e : Connection d m k j)
      → ((i : ℕ) → IsBadAssign m i → ⊥)
      → ((i : ℕ) → IsBadUpdate m i → ⊥)
      → IsFirst (IsBadInstance d m) k
      → IsFirst (IsBadPort d m k) j
      → IsWidth d m (name_of m e.net)

-- no net stands twice on the walk
abbrev pub IsSimple : List ℕ → Type 0
IsSimple walk = (i j a : ℕ) → slice_get walk i ≡ Some a → slice_get walk j ≡ Some a → i ≡ j

-- the names of the nets of a loop, each of which is told once
abbrev pub IsLoopOf : Design → Module → List (List ℕ) → Type 0
IsLoopOf d m names = (walk : List ℕ) × IsCombLoop d m walk × (names ≡ map (name_of m) walk) × IsSimple walk

-- no name has the property
abbrev pub NoName : (List ℕ → Type 0) → Type 0
NoName P = (name : List ℕ) → P name → ⊥

-- the first fault of the module with this number, by kinds in the order SameName, TwoDrivers, NoDriver, Width, CombLoop
abbrev pub IsFaultOf : Design → ℕ → Module → RtlError → Type 0
IsFaultOf d number m (SameName name) = IsSameName d number m name
IsFaultOf d number m (TwoDrivers name) = NoName (IsSameName d number m) × IsTwoDrivers d m name
IsFaultOf d number m (NoDriver name) = NoName (IsSameName d number m) × NoName (IsTwoDrivers d m) × IsNoDriver d m name
IsFaultOf d number m (Width name) =
    NoName (IsSameName d number m) × NoName (IsTwoDrivers d m) × NoName (IsNoDriver d m) × IsWidth d m name
IsFaultOf d number m (CombLoop names) =
    NoName (IsSameName d number m) × NoName (IsTwoDrivers d m) × NoName (IsNoDriver d m) × NoName (IsWidth d m) × IsLoopOf d m names
IsFaultOf d number m (Unknown name) = ⊥
IsFaultOf d number m NoMemory = ⊥

-- the fault of the first module that has one
pub record IsFirstFault (d : Design) (e : RtlError) : Type 0 where
  pub number : ℕ
  pub of : Module
  pub is : slice_get d.modules number ≡ Some of
  pub fault : IsFaultOf d number of e
  pub earlier : (k : ℕ) (m : Module) → k < number → slice_get d.modules k ≡ Some m → (other : RtlError) → IsFaultOf d k m other → ⊥
