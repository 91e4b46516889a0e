-- The ports of a top module that can be run, and the first port with which a list of ports is that of none.
use Rattle.std.specs.Prelude.{◌≡◌, ℕ, ◌+◌, List, [], ◌∷◌, ◌++◌, take, Some, slice_get, codes}
use Rattle.rtl_ir.specs.declared.design.Module.{Module}
use Rattle.rtl_ir.specs.Ports.{Shape, PortView, shape_ports, HasShape, IsShape}

abbrev pub Name : Type 0
Name = List ℕ

-- the scalars, of each its kernel, its name and its width, stand kernel by kernel, in the order of these kernels
pub data AreByKernel : List Name → List (Name × Name × ℕ) → Type 0 where
  none : {kernels : List Name} → AreByKernel kernels []
  own : {k : Name} {ks : List Name} {scalars : List (Name × Name × ℕ)} (name : Name) (width : ℕ)
      → AreByKernel (k ∷ ks) scalars → AreByKernel (k ∷ ks) ((k, name, width) ∷ scalars)
  next : {k : Name} {ks : List Name} {scalars : List (Name × Name × ℕ)} → AreByKernel ks scalars → AreByKernel (k ∷ ks) scalars

-- the shape of a top module that can be run
pub record IsTopShape (s : Shape) : Type 0 where
  pub shape : IsShape s
  pub by_kernel : AreByKernel s.kernels s.scalars

-- a module has the ports of such a shape
pub record IsTop (m : Module) (s : Shape) : Type 0 where
  pub is : IsTopShape s
  pub has : HasShape m s

-- these ports are the first ones of such a shape
pub record BeginsTop (ports : List PortView) : Type 0 where
  pub shape : Shape
  pub is : IsTopShape shape
  pub more : List PortView
  pub goes_on : shape_ports shape ≡ ports ++ more

-- the name of the first port that no such shape has after the ports before it; `done` where the ports end too early
pub data IsFirstWrong (ports : List PortView) : Name → Type 0 where
  at_port : (k : ℕ) (p : PortView) → slice_get ports k ≡ Some p → BeginsTop (take k ports) → (BeginsTop (take (k + 1) ports) → ⊥) → IsFirstWrong ports p.name
  too_few : BeginsTop ports → ((s : Shape) → IsTopShape s → shape_ports s ≡ ports → ⊥) → IsFirstWrong ports (codes "done")
